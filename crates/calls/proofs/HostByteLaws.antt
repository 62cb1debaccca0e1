-- A host byte, exit by exit: what its callees say of record, tables, buffer and counts is what the call has to answer and leave.
use Prim.Native.Nat.{ℕ, ◌+◌, ◌-◌, ◌≤◌}
use mathlib.Core.Path.{◌≡◌, refl, sym, ◌∙◌, ap}
use mathlib.Core.Bool.{Bool, true, false}
use mathlib.Core.List.{List, [], ◌∷◌, ◌++◌}
use native.Mathlib.Omega.{arith}
use lib.ListN.{length, take, drop, length-take}
use lib.Dec.{T, ltb, leb→le}
use borrow.Author.Tests.{le-ltb, ltb-false}
use Rattle.ft12.specs.declared.record.Link.{Link}
use Rattle.ft12.specs.declared.rules.Heard.{Heard}
use Rattle.ft12.specs.declared.rules.Heard.TheVariants.{Gathered, Dropped, Ignored, Acknowledged, Reset, Repeat, Request}
use Rattle.words.specs.Words.{is_empty, put}
use Rattle.ft12.specs.Frame.{acknowledgement, longest_message}
use Rattle.ft12.specs.Record.{Line, line_of, link_of, server_control, in_range}
use Rattle.ft12.specs.Rules.{Up, message, Moved, gathering, at_start, expecting, heard_at, on_heard, on_host_byte, unread, after_host_byte, on_idle_mark, on_message}
use Rattle.words.proofs.WordLaws.{T_true, some_filled}
use Rattle.words.proofs.ByteLaws.{length-put, put-put, put_read}
use Rattle.ft12.proofs.FrameLaws.{frame_length}
use Rattle.ft12.proofs.EventLaws.{put_none}
use Rattle.ft12.proofs.RecordLaws.{line_of-link_of}
use Rattle.ft12.proofs.PlaceLaws.{gathered_stays}
use Rattle.ft12.proofs.RulesLaws.{message_free}
use Rattle.ft12.proofs.RequestLaws
use Rattle.baos.specs.declared.datapoint.Datapoint.{Datapoint}
use Rattle.baos.specs.declared.item.Item.{Item}
use Rattle.baos.specs.Datapoint.{datapoint_id, datapoint_ok}
use Rattle.baos.specs.Item.{item_id, item_ok}
use Rattle.baos.specs.Text.{TextLists, text_lists_ok}
use Rattle.baos.specs.Table.{Tables, tables_of, table_ok, well_formed}
use Rattle.baos.specs.Message.{Served}
use Rattle.baos.specs.Service.{carried_out}
use Rattle.baos.proofs.AnswerLaws
use Rattle.baos.proofs.TableLaws.{same_tables}
use Rattle.baos.proofs.KeepLaws
use Rattle.calls.specs.Reply.{Accepted, reply_numbers}
use Rattle.calls.specs.Call.{saying, handed_up, on_moved, accepted}
use Rattle.calls.specs.Promise.{Leaves, acknowledgement_of, request_l}
use Rattle.calls.proofs.OutputLaws.{put_front, put_over}

-- ---- a byte that ends no request
unrequested : (h : Heard) (b : ℕ) (k : Link) (out : List ℕ) (t : Tables) → ((n : ℕ) → h ≡ Request n → 1 ≤ n) → request_l h ≡ 0
    → Leaves (accepted out (on_moved (on_heard h b (line_of k)) t)) (Accepted (length (acknowledgement_of h))) t (link_of (unread h (line_of k).gathered (on_heard h b (line_of k)).line)) (put out 0 (acknowledgement_of h))
unfolding accepted on_moved handed_up on_heard unread acknowledgement_of request_l
unrequested Gathered b k out t one e = record { reply = refl; tables = refl; link = refl; output = put_front out [] }
unrequested Dropped b k out t one e = record { reply = refl; tables = refl; link = refl; output = put_front out [] }
unrequested Ignored b k out t one e = record { reply = refl; tables = refl; link = refl; output = put_front out [] }
unrequested Acknowledged b k out t one e = record { reply = refl; tables = refl; link = refl; output = put_front out [] }
unrequested Reset b k out t one e = record { reply = refl; tables = refl; link = refl; output = put_front out acknowledgement }
unrequested Repeat b k out t one e = record { reply = refl; tables = refl; link = refl; output = put_front out acknowledgement }
unrequested (Request n) b k out t one e = absurd (omega (arith, one n refl))

pub no_request : (b : ℕ) (k : Link) (out : List ℕ) (t : Tables) → T (in_range k) → request_l (heard_at b (line_of k)) ≡ 0
    → Leaves (accepted out (on_moved (on_host_byte b (line_of k)) t)) (Accepted (length (acknowledgement_of (heard_at b (line_of k))))) t (after_host_byte b k) (put out 0 (acknowledgement_of (heard_at b (line_of k))))
unfolding after_host_byte on_host_byte
no_request b k out t r z = unrequested (heard_at b (line_of k)) b k out t (λ n h. (RequestLaws.request_at k b n r h).one) z

-- ---- a request
pub record Asked (h : Heard) : Type 0 where
  pub size : ℕ
  pub is : h ≡ Request size
  pub l : request_l h ≡ size

asked : (h : Heard) → (request_l h ≡ 0 → ⊥) → Asked h
unfolding request_l
asked Gathered z = absurd (z refl)
asked Dropped z = absurd (z refl)
asked Ignored z = absurd (z refl)
asked Acknowledged z = absurd (z refl)
asked Reset z = absurd (z refl)
asked Repeat z = absurd (z refl)
asked (Request n) z = record { size = n; is = refl; l = refl }

-- what a request leaves of the record: its bytes, for the message stands among them
asked_receiver : (k : Link) (b n : ℕ) → T (in_range k) → heard_at b (line_of k) ≡ Request n → (after_host_byte b k).receiver ≡ k.receiver
unfolding after_host_byte unread gathering link_of
asked_receiver k b n r h = rw h (sym (gathered_stays k r))

-- what clearing it leaves
cleared : (k : Link) (b n : ℕ) → heard_at b (line_of k) ≡ Request n → link_of (at_start (line_of (after_host_byte b k))) ≡ link_of (on_host_byte b (line_of k)).line
unfolding on_idle_mark
cleared k b n h = RequestLaws.request_cleared k b n h

pub cleared_range : (k : Link) → T (in_range k) → T (in_range (link_of (at_start (line_of k))))
unfolding on_idle_mark
cleared_range k r = RequestLaws.idle_mark_range k r

-- nothing is outstanding then
asked_free : (b n : ℕ) (l : Line) → heard_at b l ≡ Request n → is_empty l.outstanding ≡ true → is_empty (on_host_byte b l).line.outstanding ≡ true
unfolding on_host_byte on_heard expecting at_start
asked_free b n l h e = rw h e

-- E5 is sent
asked_sent : (b n : ℕ) (l : Line) → heard_at b l ≡ Request n → (on_host_byte b l).sent ≡ acknowledgement
unfolding on_host_byte on_heard
asked_sent b n l h = rw h

-- what is to be done then: E5, the message carried out, and its answer taken back
asked_done : (b n : ℕ) (l : Line) (m : List ℕ) (t : Tables) → heard_at b l ≡ Request n → (on_host_byte b l).up ≡ message m → on_moved (on_host_byte b l) t ≡ saying acknowledgement (carried_out t m) (on_host_byte b l).line
unfolding on_moved handed_up
asked_done b n l m t h u =
    ap (λ (x : Up). handed_up x (on_host_byte b l).sent t (on_host_byte b l).line) u ∙ ap (λ (s : List ℕ). saying s (carried_out t m) (on_host_byte b l).line) (asked_sent b n l h)

-- ---- the answer taken back: its frame, at most 261 bytes
pub taken_short : (m : List ℕ) (l : Line) → length (on_message m l).sent ≤ 261
unfolding on_message
taken_short m l = go (is_empty m) (ltb longest_message (length m)) (is_empty l.outstanding) refl refl refl
  where
    go : (a b c : Bool) → is_empty m ≡ a → ltb longest_message (length m) ≡ b → is_empty l.outstanding ≡ c → length (on_message m l).sent ≤ 261
    go true b c p q s = simp p (omega arith)
    go false true c p q s = simp (p, q) (omega arith)
    go false false false p q s = simp (p, q, s) (omega arith)
    go false false true p q s = simp (p, q, s) (omega (arith, frame_length (server_control l.send) m, ltb-false 254 (length m) q))

taken_frame : (m : List ℕ) (l : Line) → 7 ≤ length m → length m ≤ 254 → is_empty l.outstanding ≡ true → length (on_message m l).sent ≡ length m + 7
unfolding on_message
taken_frame m l h r e = simp (some_filled m (omega arith), le-ltb 254 (length m) r, e) (frame_length (server_control l.send) m)

taken_nothing : (m : List ℕ) (l : Line) → m ≡ [] → (on_message m l).sent ≡ []
unfolding on_message
taken_nothing m l e = rw e

-- ---- what the walk of a request goes through: the record and the buffer after each of its calls
module _ (b : ℕ) (k : Link) (out : List ℕ) (ds : List Datapoint) (is : List Item) (ps : List ℕ) (ts : TextLists) where
  -- the request's L, and its message
  abbrev pub l_at : ℕ
  l_at = request_l (heard_at b (line_of k))

  abbrev pub asks : List ℕ
  asks = take (l_at - 1) (drop 5 (after_host_byte b k).receiver)

  -- what carrying it out comes to
  abbrev pub carries : Served
  carries = carried_out (tables_of ds is ps ts) asks

  -- the record cleared
  abbrev pub cleared_link : Link
  cleared_link = link_of (at_start (line_of (after_host_byte b k)))

  -- the buffer acknowledged, and answered
  abbrev pub acknowledged_out : List ℕ
  acknowledged_out = put out 0 (acknowledgement_of (heard_at b (line_of k)))

  abbrev pub answered_out : List ℕ
  answered_out = put acknowledged_out 6 carries.says

  -- the answer as it is read from the buffer, and taken back
  abbrev pub read_back_bytes : List ℕ
  read_back_bytes = take (6 + length carries.says - 6) (drop 6 answered_out)

  abbrev pub taken_back : Moved
  taken_back = on_message read_back_bytes (line_of cleared_link)

  module _ (w : 262 ≤ length out) where
    short_acknowledgement : (h : Heard) → length (acknowledgement_of h) ≤ 1
    unfolding acknowledgement_of
    short_acknowledgement Gathered = omega arith
    short_acknowledgement Dropped = omega arith
    short_acknowledgement Ignored = omega arith
    short_acknowledgement Acknowledged = omega arith
    short_acknowledgement Reset = omega arith
    short_acknowledgement Repeat = omega arith
    short_acknowledgement (Request n) = omega arith

    acknowledged_length : length acknowledged_out ≡ length out
    acknowledged_length = length-put out 0 (acknowledgement_of (heard_at b (line_of k))) (omega (arith, w, short_acknowledgement (heard_at b (line_of k))))

    pub acknowledged_room : 262 ≤ length acknowledged_out
    acknowledged_room = omega (arith, w, acknowledged_length)

    says_short : length carries.says ≤ 254
    says_short = AnswerLaws.sized_short carries.says (AnswerLaws.answer_sized (tables_of ds is ps ts) asks)

    answered_length : length answered_out ≡ length out
    answered_length = length-put acknowledged_out 6 carries.says (omega (arith, acknowledged_room, says_short)) ∙ acknowledged_length

    pub answered_room : 262 ≤ length answered_out
    answered_room = omega (arith, w, answered_length)

    read_back : read_back_bytes ≡ carries.says
    read_back = put_read acknowledged_out 6 6 (6 + length carries.says - 6) [] carries.says (omega (arith, acknowledged_room, says_short)) (omega arith) (omega arith)

    module _ (r : T (in_range k)) (z : l_at ≡ 0 → ⊥) where
      q : Asked (heard_at b (line_of k))
      q = asked (heard_at b (line_of k)) z

      at : RequestLaws.RequestAt k b q.size
      at = RequestLaws.request_at k b q.size r q.is

      pub some_l : 1 ≤ l_at
      some_l = omega (arith, q.l, at.one)

      -- L, at most 255, counts the control byte and the message
      asks_short : length asks ≤ 254
      asks_short = omega (arith, length-take (l_at - 1) (drop 5 (after_host_byte b k).receiver), q.l, at.small)

      -- what carrying out asks
      pub carry_needs : T (well_formed (tables_of ds is ps ts))
          → (table_ok 1000 datapoint_id datapoint_ok ds ≡ true) × (table_ok 64 item_id item_ok is ≡ true) × (length ps ≤ 255) × (text_lists_ok ts ≡ true) × (6 + 254 ≤ length acknowledged_out) × (length asks ≤ 254)
      carry_needs t =
          let p = KeepLaws.parts (tables_of ds is ps ts) t in
          (T_true (table_ok 1000 datapoint_id datapoint_ok ds) p.datapoints, T_true (table_ok 64 item_id item_ok is) p.items, leb→le (length ps) 255 p.parameters, T_true (text_lists_ok ts) p.texts, omega (arith, acknowledged_room), asks_short)

      -- the message is the one that the link hands up
      handed : (on_host_byte b (line_of k)).up ≡ message asks
      handed =
          let c : q.size - 1 ≡ l_at - 1 = omega (arith, q.l) in
          at.message_is ∙ (λ i. message (take (c i) (drop 5 (sym (asked_receiver k b q.size r q.is) i))))

      line₂ : line_of cleared_link ≡ (on_host_byte b (line_of k)).line
      line₂ = ap line_of (cleared k b q.size q.is) ∙ line_of-link_of (on_host_byte b (line_of k)).line

      taken : taken_back ≡ on_message carries.says (on_host_byte b (line_of k)).line
      taken = λ i. on_message (read_back i) (line₂ i)

      first : acknowledgement_of (heard_at b (line_of k)) ≡ acknowledgement
      first = ap acknowledgement_of q.is ∙ (unfold acknowledgement_of in refl)

      free : is_empty (on_host_byte b (line_of k)).line.outstanding ≡ true
      free = asked_free b q.size (line_of k) q.is (message_free b (line_of k) asks handed)

      -- the frame covers what was written of the answer
      frame_out : put answered_out 1 taken_back.sent ≡ put out 0 (acknowledgement ++ taken_back.sent)
      frame_out = go (AnswerLaws.answer_sized (tables_of ds is ps ts) asks)
        where
          go : AnswerLaws.Sized carries.says → put answered_out 1 taken_back.sent ≡ put out 0 (acknowledgement ++ taken_back.sent)
          go (AnswerLaws.none e) =
              let f : taken_back.sent ≡ [] = ap (λ (v : Moved). v.sent) taken ∙ taken_nothing carries.says (on_host_byte b (line_of k)).line e in
              ap (put answered_out 1) f ∙ sym (put_none answered_out 1) ∙ ap (put acknowledged_out 6) e ∙ sym (put_none acknowledged_out 6) ∙ ap (put out 0) first ∙ ap (λ (s : List ℕ). put out 0 (acknowledgement ++ s)) (sym f)
          go (AnswerLaws.some h g) =
              let n : length taken_back.sent ≡ length carries.says + 7 = ap (λ (v : Moved). length v.sent) taken ∙ taken_frame carries.says (on_host_byte b (line_of k)).line h g free in
              put_over acknowledged_out 6 1 carries.says taken_back.sent (omega arith) (omega (arith, acknowledged_room)) (omega (arith, n))
              ∙ ap (λ (s : List ℕ). put (put out 0 s) 1 taken_back.sent) first ∙ put-put out 0 1 acknowledgement taken_back.sent (omega arith) (omega (arith, w, n, g))

      answered : Leaves (accepted out (saying acknowledgement carries (on_host_byte b (line_of k)).line)) (Accepted (length taken_back.sent + 1)) carries.after (link_of taken_back.line) (put answered_out 1 taken_back.sent)
      unfolding accepted saying reply_numbers
      answered =
          let n : length taken_back.sent + 1 ≡ length (acknowledgement ++ (on_message carries.says (on_host_byte b (line_of k)).line).sent) = omega (arith, ap (λ (v : Moved). length v.sent) taken) in
          record {
            reply = ap {B = List ℕ} (λ (x : ℕ). 0 ∷ x ∷ []) n;
            tables = refl;
            link = ap (λ (v : Moved). link_of v.line) taken;
            output = frame_out ∙ put_front out (acknowledgement ++ taken_back.sent) ∙ ap (λ (v : Moved). (acknowledgement ++ v.sent) ++ drop (length (acknowledgement ++ v.sent)) out) taken;
          }

      -- the texts are as they were lent
      abbrev pub tables_left : Tables
      tables_left = tables_of carries.after.datapoints carries.after.items carries.after.parameters ts

      left_as_lent : tables_left ≡ carries.after
      left_as_lent = same_tables refl refl refl (sym (KeepLaws.carried_texts (tables_of ds is ps ts) asks))

      pub request_answered : Leaves (accepted out (on_moved (on_host_byte b (line_of k)) (tables_of ds is ps ts))) (Accepted (length taken_back.sent + 1)) tables_left (link_of taken_back.line) (put answered_out 1 taken_back.sent)
      request_answered =
          rw (asked_done b q.size (line_of k) asks (tables_of ds is ps ts) q.is handed)
          (record { reply = answered.reply; tables = left_as_lent ∙ answered.tables; link = answered.link; output = answered.output })
