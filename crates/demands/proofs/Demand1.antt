-- Demand 1, as far as the definitions say it.
use Prim.Native.Nat.{ℕ, ◌≤◌, ◌<◌}
use mathlib.Core.Path.{◌≡◌, refl, sym, ◌∙◌, ap, subst}
use mathlib.Core.Logic.{◌≢◌}
use mathlib.Core.Bool.{Bool, true, false}
use mathlib.Core.List.{List}
use native.Mathlib.Omega.{arith}
use native.Mathlib.Decide.{ℕ_discrete}
use lib.ListN.{length, take, drop}
use lib.Seq.{take-append_seam, drop-append_seam}
use lib.Dec.{T, ltb}
use borrow.Author.Tests.{ltb-true, ltb-false}
use Rattle.ft12.specs.declared.record.Link.{Link}
use Rattle.ft12.specs.Frame.{fixed_frame}
use Rattle.ft12.specs.Record.{Line, line_of, server_control, memory_ok, line_ok, in_range}
use Rattle.words.proofs.WordLaws.{right}
use Rattle.ft12.proofs.FrameLaws.{frame_length}
use Rattle.baos.specs.Table.{Tables, well_formed}
use Rattle.calls.specs.declared.event.Event.{Event}
use Rattle.calls.specs.Reply.{Reply, Refused, Accepted, reply_numbers}
use Rattle.calls.specs.Event.{bus_ok}
use Rattle.calls.specs.Call.{happens, refusal, Called, accepted, call}
use Rattle.calls.proofs.CallLaws.{refusal_0, refusal_1, refusal_2, refusal_3, refusal_4, not_refused, refused_leaves, call_lasts}
use Rattle.demands.specs.SentFrames.{ReadsBack, Sends, nothing, acknowledges, resets, frames, answers}
use Rattle.demands.proofs.ReadBack.{happens_sends}
use Rattle.demands.specs.Refusals.{Wrong, bad_tables, bad_link_record, short_output, bad_bus_event, Lowest, Refusals, Demand1}

-- a reply that is a refusal is no other one, and no acceptance
refusals_told : (m n : ℕ) → Refused m ≡ Refused n → m ≡ n
refusals_told m n e = cc

counts_told : (m n : ℕ) → Accepted m ≡ Accepted n → m ≡ n
counts_told m n e = cc

not_both : (count n : ℕ) → Accepted count ≡ Refused n → ⊥
unfolding reply_numbers
not_both count n e = let z : ◌≡◌ {A = ℕ} 2 1 = ap (λ (r : Reply). length (reply_numbers r)) e in omega (arith, z)

not_true : {b : Bool} → b ≡ true → b ≡ false → ⊥
not_true p q = subst T (sym p ∙ q) tt

-- what is sent has at most 262 bytes: an acknowledgement and the longest frame
back_length : {f : List ℕ} {odd : Bool} → ReadsBack f odd → length f ≤ 261
back_length {f} {odd} b = omega (arith, ap length b.built, frame_length (server_control odd) b.message, b.short)

sends_fit : {s : List ℕ} {l : Line} → Sends s l → length s ≤ 262
sends_fit (nothing e) = rw e (omega arith)
sends_fit (acknowledges e h) = rw e (omega arith)
sends_fit (resets e h) = rw e (unfold fixed_frame in omega arith)
sends_fit (frames e b h) = rw e (omega (arith, back_length b))
sends_fit (answers e b h) = rw e (omega (arith, back_length b))

module _ (e : Event) (v : List ℕ) (t : Tables) (k : Link) (out : List ℕ) where
  abbrev number : ℕ
  number = refusal e v t k (length out)

  refuses : (n : ℕ) → number ≡ n → n ≢ 0 → (call e v t k out).reply ≡ Refused n
  refuses n h z = ap (λ (c : Called). c.reply) (refused_leaves e v t k out n h z)

  accepts : number ≡ 0 → call e v t k out ≡ accepted out (happens e v t (line_of k))
  unfolding call
  accepts h = rw h

  accepts_count : number ≡ 0 → (call e v t k out).reply ≡ Accepted (length (happens e v t (line_of k)).sent)
  accepts_count h = ap (λ (c : Called). c.reply) (accepts h) ∙ (unfold accepted in refl)

  accepts_sent : number ≡ 0 → take (length (happens e v t (line_of k)).sent) (call e v t k out).output ≡ (happens e v t (line_of k)).sent
  accepts_sent h =
      let s = (happens e v t (line_of k)).sent in
      ap (λ (c : Called). take (length s) c.output) (accepts h) ∙ (unfold accepted in take-append_seam s (drop (length s) out))

  accepts_behind : number ≡ 0 → drop (length (happens e v t (line_of k)).sent) (call e v t k out).output ≡ drop (length (happens e v t (line_of k)).sent) out
  accepts_behind h =
      let s = (happens e v t (line_of k)).sent in
      ap (λ (c : Called). drop (length s) c.output) (accepts h) ∙ (unfold accepted in drop-append_seam s (drop (length s) out))

  accepts_fits : number ≡ 0 → length (happens e v t (line_of k)).sent ≤ 262
  accepts_fits h = sends_fit (happens_sends e v t (line_of k) (right (memory_ok k) (line_ok (line_of k)) (unfold in_range in (not_refused e v t k (length out) h).link)))

  -- the number of a refusal is the one that the conditions give
  refused_by : (n : ℕ) → (call e v t k out).reply ≡ Refused n → (number ≡ n) × (n ≢ 0)
  refused_by n r = go (ℕ_discrete number 0)
    where
      go : Dec (number ≡ 0) → (number ≡ n) × (n ≢ 0)
      go (yes z) = absurd (not_both _ n (sym (accepts_count z) ∙ r))
      go (no z) = let same : number ≡ n = refusals_told number n (sym (refuses number refl z) ∙ r) in (same, (λ h. z (same ∙ h)))

  accepted_by : (count : ℕ) → (call e v t k out).reply ≡ Accepted count → number ≡ 0
  accepted_by count r = go (ℕ_discrete number 0)
    where
      go : Dec (number ≡ 0) → number ≡ 0
      go (yes z) = z
      go (no z) = absurd (not_both count number (sym r ∙ refuses number refl z))

  -- ---- the number and the table of refusals
  data Found : Type 0 where
    first : well_formed t ≡ false → number ≡ 1 → Found
    second : well_formed t ≡ true → in_range k ≡ false → number ≡ 2 → Found
    third : well_formed t ≡ true → in_range k ≡ true → length out < 262 → number ≡ 3 → Found
    fourth : well_formed t ≡ true → in_range k ≡ true → 262 ≤ length out → bus_ok e v t ≡ false → number ≡ 4 → Found
    none : well_formed t ≡ true → in_range k ≡ true → 262 ≤ length out → bus_ok e v t ≡ true → number ≡ 0 → Found

  what_is_found : Found
  what_is_found = go (well_formed t) (in_range k) (ltb (length out) 262) (bus_ok e v t) refl refl refl refl
    where
      go : (a b c d : Bool) → well_formed t ≡ a → in_range k ≡ b → ltb (length out) 262 ≡ c → bus_ok e v t ≡ d → Found
      go false b c d p q r s = first p (refusal_1 e v t k (length out) p)
      go true false c d p q r s = second p q (refusal_2 e v t k (length out) p q)
      go true true true d p q r s = let h = ltb-true (length out) 262 r in third p q h (refusal_3 e v t k (length out) p q h)
      go true true false false p q r s = let h = ltb-false (length out) 262 r in fourth p q h s (refusal_4 e v t k (length out) p q h s)
      go true true false true p q r s = let h = ltb-false (length out) 262 r in none p q h s (refusal_0 e v t k (length out) p q h s)

  -- what is wrong where a number is given
  names : number ≢ 0 → Wrong e v t k out number
  names z = go what_is_found
    where
      go : Found → Wrong e v t k out number
      go (first w n) = bad_tables n w
      go (second w r n) = bad_link_record n r
      go (third w r h n) = short_output n h
      go (fourth w r h b n) = bad_bus_event n b
      go (none w r h b n) = absurd (z n)

  -- whatever is wrong, the number given is no higher
  at_most : (i : ℕ) → Wrong e v t k out i → (1 ≤ number) × (number ≤ i)
  at_most i w = go what_is_found w
    where
      go : Found → Wrong e v t k out i → (1 ≤ number) × (number ≤ i)
      go (first a n) (bad_tables h x) = (omega (arith, n), omega (arith, n, h))
      go (first a n) (bad_link_record h x) = (omega (arith, n), omega (arith, n, h))
      go (first a n) (short_output h x) = (omega (arith, n), omega (arith, n, h))
      go (first a n) (bad_bus_event h x) = (omega (arith, n), omega (arith, n, h))
      go (second a b n) (bad_tables h x) = absurd (not_true a x)
      go (second a b n) (bad_link_record h x) = (omega (arith, n), omega (arith, n, h))
      go (second a b n) (short_output h x) = (omega (arith, n), omega (arith, n, h))
      go (second a b n) (bad_bus_event h x) = (omega (arith, n), omega (arith, n, h))
      go (third a b c n) (bad_tables h x) = absurd (not_true a x)
      go (third a b c n) (bad_link_record h x) = absurd (not_true b x)
      go (third a b c n) (short_output h x) = (omega (arith, n), omega (arith, n, h))
      go (third a b c n) (bad_bus_event h x) = (omega (arith, n), omega (arith, n, h))
      go (fourth a b c d n) (bad_tables h x) = absurd (not_true a x)
      go (fourth a b c d n) (bad_link_record h x) = absurd (not_true b x)
      go (fourth a b c d n) (short_output h x) = absurd (omega (arith, c, x))
      go (fourth a b c d n) (bad_bus_event h x) = (omega (arith, n), omega (arith, n, h))
      go (none a b c d n) (bad_tables h x) = absurd (not_true a x)
      go (none a b c d n) (bad_link_record h x) = absurd (not_true b x)
      go (none a b c d n) (short_output h x) = absurd (omega (arith, c, x))
      go (none a b c d n) (bad_bus_event h x) = absurd (not_true d x)

  given_number : (n : ℕ) → Lowest e v t k out n → number ≡ n
  given_number n low = go (ℕ_discrete number n)
    where
      go : Dec (number ≡ n) → number ≡ n
      go (yes h) = h
      go (no z) =
          let bounds = at_most n low.wrong in
          absurd (low.none_below number (lower bounds.1 z) (names (λ h. omega (arith, bounds.0, h))))
        where
          lower : number ≤ n → number ≢ n → number < n
          lower p q = omega arith

  lowest_given : (n : ℕ) → number ≡ n → n ≢ 0 → Lowest e v t k out n
  lowest_given n h z =
      record {
        wrong = subst (Wrong e v t k out) h (names (λ q. z (sym h ∙ q)));
        none_below = λ i l w. omega (arith, l, h, (at_most i w).1);
      }

  none_wrong : ((n : ℕ) → Wrong e v t k out n → ⊥) → number ≡ 0
  none_wrong w = go (ℕ_discrete number 0)
    where
      go : Dec (number ≡ 0) → number ≡ 0
      go (yes h) = h
      go (no z) = absurd (w number (names z))

  refusals : Refusals e v t k out
  refusals =
      record {
        given = λ n low. refuses n (given_number n low) (λ z. omega (arith, z, given_number n low, (at_most n low.wrong).0));
        only_then = λ n r. lowest_given n (refused_by n r).0 (refused_by n r).1;
        leaves = λ n r. refused_leaves e v t k out n (refused_by n r).0 (refused_by n r).1;
        accepted = λ w. accepts_count (none_wrong w);
        sent = λ count r. ap (λ (n : ℕ). take n (call e v t k out).output) (counted count r) ∙ accepts_sent (accepted_by count r);
        fits = λ count r. omega (arith, counted count r, accepts_fits (accepted_by count r));
        behind = λ count r. ap (λ (n : ℕ). drop n (call e v t k out).output) (counted count r) ∙ accepts_behind (accepted_by count r) ∙ ap (λ (n : ℕ). drop n out) (sym (counted count r));
        lasts = λ count r. let after = call_lasts e v t k out (accepted_by count r) in (after.tables, after.link);
        not_wrong = λ count r n w. omega (arith, accepted_by count r, (at_most n w).0);
      }
    where
      counted : (count : ℕ) → (call e v t k out).reply ≡ Accepted count → count ≡ length (happens e v t (line_of k)).sent
      counted count r = counts_told count _ (sym r ∙ accepts_count (accepted_by count r))

pub demand_1 : Demand1
demand_1 = refusals
