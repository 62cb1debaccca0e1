-- The events on the link record as the code takes them: what is in range, and one law for each way through `host_byte`.
use Rattle.std.proofs.Common.{◌≡◌, ℕ, Bool, ◌+◌, ◌<◌, ◌≤◌, ◌⊎◌, inl, inr, List, [], ◌∷◌, ◌++◌, length, take, drop, replicate, set, eqb, T, sym, ◌∙◌, refl, length-append, arith}
use Rattle.ft12.specs.declared.record.Link.{Link}
use Rattle.ft12.specs.declared.receiver.Judgement.{Judgement}
use Rattle.ft12.specs.declared.receiver.Judgement.TheVariants.{More}
use Rattle.ft12.specs.declared.rules.Bits.{Bits}
use Rattle.ft12.specs.declared.rules.Heard.{Heard}
use Rattle.ft12.specs.declared.rules.Heard.TheVariants.{Gathered, Dropped, Ignored, Acknowledged, Reset, Repeat, Request}
use Rattle.words.specs.Words.{is_yes, yes_or_no, pad}
use Rattle.ft12.specs.Receiver.{judged, is_beginning}
use Rattle.ft12.specs.Record.{link_with, line_of, in_range}
use Rattle.ft12.specs.Rules.{at_start, start_dropping, gathering, cleared, expecting, case_of, heard_at, on_heard, BitsAfter, unread}
use Rattle.ft12.specs.Promise.{HostByteHeard}
use Rattle.ft12.proofs.PlaceLaws.{emptied, stored, receiver_padded_lem, outstanding_padded_lem, not_dropping, received_fits, held_fits, receiver_places, outstanding_places, gathered_begins, heard_dropping, place_drops, left_by, in_place, gathered_stays, received_stays, held_stays, count_stays, heard-found, bits_found}
use Rattle.ft12.proofs.RulesLaws.{gathered_is_more}

-- ---- a record in range
module _ (k : Link) (t : T (in_range k)) where
  pub received_within : k.received ≤ length k.receiver
  received_within = omega (arith, received_fits k t, receiver_places k t)

  pub held_within : k.held ≤ length k.outstanding
  held_within = omega (arith, held_fits k t, outstanding_places k t)

  pub begins : (k.dropping ≡ 1 → ⊥) → (k.received ≤ length k.receiver) × T (is_beginning (take k.received k.receiver))
  begins n = (received_within, gathered_begins k t (not_dropping k t n))

  pub heard_while_dropping : (b : ℕ) → k.dropping ≡ 1 → HostByteHeard k b Dropped k
  heard_while_dropping b e = record { answer = heard_dropping k b e; link = place_drops b k t e }

-- ---- a host byte b, judged j and found to be x while nothing is dropped, and the bits after it
module _ (k : Link) (b : ℕ) (j : Judgement) (x : Heard) (bits : Bits) (t : T (in_range k)) (n : k.dropping ≡ 1 → ⊥)
    (d : j ≡ judged (take k.received k.receiver) b) (f : x ≡ case_of j (is_yes k.expected) (eqb k.held 0))
    (u : BitsAfter x (record { expected = k.expected; send = k.send; resends = k.resends }) bits) where
  listening : k.dropping ≡ 0
  listening = not_dropping k t n

  answered : x ≡ heard_at b (line_of k)
  answered = f ∙ heard-found k b j t listening d

  -- a record whose parts are those of the line that the case h leaves
  heard_so : (h : Heard) (receiver : List ℕ) (received dropping : ℕ) (outstanding : List ℕ) (held : ℕ) → x ≡ h
      → receiver ≡ pad 260 (left_by h b k).gathered → received ≡ length (left_by h b k).gathered → dropping ≡ yes_or_no (left_by h b k).dropping
      → outstanding ≡ pad 261 (left_by h b k).outstanding → held ≡ length (left_by h b k).outstanding
      → HostByteHeard k b x (link_with receiver received dropping bits.expected bits.send outstanding held bits.resends)
  heard_so h receiver received dropping outstanding held g r m v o l =
      record { answer = answered; link = in_place h b k bits receiver received dropping outstanding held (sym g ∙ answered) (bits_found k b x h bits t u g) r m v o l }

  pub gathered : x ≡ Gathered → k.received < 260
      → HostByteHeard k b x (link_with (set k.receiver k.received b) (k.received + 1) k.dropping bits.expected bits.send k.outstanding k.held bits.resends)
  unfolding left_by unread on_heard gathering
  gathered g r =
      heard_so Gathered _ _ _ _ _ g (unfold line_of in stored 260 k.received b k.receiver (receiver_padded_lem k t) r)
      (omega (arith, received_stays k t, length-append (line_of k).gathered (b ∷ []))) listening (held_stays k t) (count_stays k t)

  pub requested : (size : ℕ) → x ≡ Request size
      → HostByteHeard k b x (link_with k.receiver k.received k.dropping bits.expected bits.send k.outstanding k.held bits.resends)
  unfolding left_by unread on_heard gathering expecting at_start
  requested size g = heard_so (Request size) _ _ _ _ _ g (gathered_stays k t) (received_stays k t) listening (held_stays k t) (count_stays k t)

  -- the receiver emptied
  module _ (receiver : List ℕ) (received : ℕ) (r : receiver ≡ replicate k.received 0 ++ drop k.received k.receiver) (m : received ≡ 0) where
    blanked : receiver ≡ pad 260 []
    blanked = r ∙ emptied 260 k.received k.receiver (receiver_padded_lem k t)

    pub damaged : x ≡ Dropped → HostByteHeard k b x (link_with receiver received 1 bits.expected bits.send k.outstanding k.held bits.resends)
    unfolding left_by unread on_heard start_dropping
    damaged g = heard_so Dropped _ _ _ _ _ g blanked m refl (held_stays k t) (count_stays k t)

    pub ignored_or_repeated : (x ≡ Ignored) ⊎ (x ≡ Repeat) → HostByteHeard k b x (link_with receiver received k.dropping bits.expected bits.send k.outstanding k.held bits.resends)
    unfolding left_by unread on_heard at_start
    ignored_or_repeated (inl g) = heard_so Ignored _ _ _ _ _ g blanked m listening (held_stays k t) (count_stays k t)
    ignored_or_repeated (inr g) = heard_so Repeat _ _ _ _ _ g blanked m listening (held_stays k t) (count_stays k t)

    -- and the outstanding frame
    module _ (outstanding : List ℕ) (held : ℕ) (o : outstanding ≡ replicate k.held 0 ++ drop k.held k.outstanding) (l : held ≡ 0) where
      cleared_away : outstanding ≡ pad 261 []
      cleared_away = o ∙ emptied 261 k.held k.outstanding (outstanding_padded_lem k t)

      pub acknowledged_or_reset : (x ≡ Acknowledged) ⊎ (x ≡ Reset) → HostByteHeard k b x (link_with receiver received k.dropping bits.expected bits.send outstanding held bits.resends)
      unfolding left_by unread on_heard expecting cleared at_start
      acknowledged_or_reset (inl g) = heard_so Acknowledged _ _ _ _ _ g blanked m listening cleared_away l
      acknowledged_or_reset (inr g) = heard_so Reset _ _ _ _ _ g blanked m listening cleared_away l

-- a byte more is wanted of fewer than 260
pub room : (j : Judgement) (x : Heard) (e f : Bool) (n : ℕ) → x ≡ case_of j e f → x ≡ Gathered → (j ≡ More → n < 260) → n < 260
room j x e f n i g h = h (gathered_is_more j e f (sym i ∙ g))
