-- Set requests cut at an entry boundary, and two of them in either order. Both services are treated as one: what they
-- have apart stands in `judge` and `done` and in the six laws that go by service.
use Prim.Native.Nat.{ℕ, ◌≤◌}
use mathlib.Core.Path.{◌≡◌, refl, sym, ◌∙◌, ap, subst}
use mathlib.Core.Logic.{◌⊎◌, inl, inr}
use mathlib.Core.Bool.{true, false, not}
use mathlib.Core.List.{List, ◌++◌}
use native.Mathlib.Omega.{arith}
use lib.ListN.{length, get_or, drop}
use lib.Dec.{T, eqb, eqb→eq}
use Rattle.walks.proofs.Branches.{no_T}
use Rattle.words.proofs.WordLaws.{left, right, T_true}
use Rattle.baos.specs.Datapoint.{datapoint_id}
use Rattle.baos.specs.Item.{item_id}
use Rattle.baos.specs.Table.{Tables, with_datapoints, with_items, found}
use Rattle.baos.specs.Message.{sub_service, start_of, number_of, coded, Finding, fine, bad, verdict_of, Served, answer_of, after_of, served}
use Rattle.baos.specs.Set.{SetEntry, span, fills, set_entries, judged_item, judged_datapoint, first_bad, set_finding, applied, setting, set_item, set_server_item, set_datapoint, set_datapoint_value}
use Rattle.baos.specs.Service.{unanswered, carried_out}
use Rattle.baos.proofs.LeftLaws.{datapoint_keeps, item_keeps}
use Rattle.baos.proofs.CutLaws.{fills-append, entries_append, item_own, datapoint_own, first_both, first_none, applied-append}
use Rattle.baos.proofs.OrderLaws.{first_same, applied_code, either_order, item_code_stays, datapoint_code_stays}
use Rattle.baos.proofs.SettingLaws.{Passes, passes_fine, code_passes, by_setting}
use Rattle.baos.proofs.ServiceLaws.{is_set_item, is_set_value}
use Rattle.demands.specs.Answers.{ErrorAnswer}
use Rattle.demands.specs.Cutting.{SetService, SetServerItem, SetDatapointValue, sub_of, head_of, first_set_entry, asks_to_set, set_entries_in, Accepted, EachAcceptedOrRefused, PartsOf, InTwo, CutLaw}
use Rattle.demands.specs.Cutting.{no_id_in_common, Apart, OrderLaw, AnswersStay}
use Rattle.demands.proofs.EntryErrorLaws.{coded_error}

-- ---- the two services as one
unfoldable pub judge : SetService → Tables → SetEntry → ℕ
judge SetServerItem t e = judged_item (found item_id e.id t.items) e
judge SetDatapointValue t e = judged_datapoint (found datapoint_id e.id t.datapoints) e

unfoldable done : SetService → Tables → List SetEntry → Tables
done SetServerItem t es = with_items (applied item_id set_item es t.items) t
done SetDatapointValue t es = with_datapoints (applied datapoint_id set_datapoint es t.datapoints) t

abbrev finding : SetService → Tables → List ℕ → Finding
finding s t m = set_finding (head_of s) (first_set_entry s) (judge s t) m

pub head_some : (s : SetService) → 1 ≤ head_of s
unfolding head_of
head_some SetServerItem = omega arith
head_some SetDatapointValue = omega arith

-- an entry is read from its own bytes
own : (s : SetService) (x r : List ℕ) → span (head_of s) x ≤ length x → first_set_entry s (x ++ r) ≡ first_set_entry s x
unfolding head_of first_set_entry
own SetServerItem x r fits = item_own x r fits
own SetDatapointValue x r fits = datapoint_own x r fits

-- entries that were applied change no verdict
judge_stays : (s r : SetService) (t : Tables) (es : List SetEntry) (e : SetEntry) → judge r (done s t es) e ≡ judge r t e
unfolding judge done
judge_stays SetServerItem SetServerItem t es e = applied_code item_id set_item item_keeps judged_item item_code_stays es e t.items
judge_stays SetServerItem SetDatapointValue t es e = refl
judge_stays SetDatapointValue SetServerItem t es e = refl
judge_stays SetDatapointValue SetDatapointValue t es e = applied_code datapoint_id set_datapoint datapoint_keeps judged_datapoint datapoint_code_stays es e t.datapoints

done_append : (s : SetService) (t : Tables) (es fs : List SetEntry) → done s (done s t es) fs ≡ done s t (es ++ fs)
unfolding done
done_append SetServerItem t es fs = ap (λ xs. with_items xs t) (sym (applied-append item_id set_item es fs t.items))
done_append SetDatapointValue t es fs = ap (λ xs. with_datapoints xs t) (sym (applied-append datapoint_id set_datapoint es fs t.datapoints))

done_swap : (s r : SetService) (t : Tables) (es fs : List SetEntry) → (s ≡ r → T (no_id_in_common es fs)) → done r (done s t es) fs ≡ done s (done r t fs) es
unfolding done no_id_in_common
done_swap SetServerItem SetServerItem t es fs d = ap (λ xs. with_items xs t) (either_order item_id set_item item_keeps es fs (d refl) t.items)
done_swap SetServerItem SetDatapointValue t es fs d = refl
done_swap SetDatapointValue SetServerItem t es fs d = refl
done_swap SetDatapointValue SetDatapointValue t es fs d = ap (λ xs. with_datapoints xs t) (either_order datapoint_id set_datapoint datapoint_keeps es fs (d refl) t.datapoints)

-- ---- a request carried out
module _ (s : SetService) (m : List ℕ) (a : T (asks_to_set s m)) where
  pub answered : unanswered m ≡ false
  unfolding asks_to_set
  answered = no_T (unanswered m) (left (not (unanswered m)) (eqb (sub_service m) (sub_of s)) a)

  pub sub_is : sub_service m ≡ sub_of s
  unfolding asks_to_set
  sub_is = eqb→eq (sub_service m) (sub_of s) (right (not (unanswered m)) (eqb (sub_service m) (sub_of s)) a)

carried : (s : SetService) (t : Tables) (m : List ℕ) → T (asks_to_set s m) → carried_out t m ≡ setting (head_of s) (first_set_entry s) (judge s t) (done s t) t m
unfolding head_of first_set_entry judge done sub_of set_server_item set_datapoint_value
carried SetServerItem t m a = is_set_item t m (answered SetServerItem m a) (sub_is SetServerItem m a)
carried SetDatapointValue t m a = is_set_value t m (answered SetDatapointValue m a) (sub_is SetDatapointValue m a)

module _ (s : SetService) (t : Tables) (m : List ℕ) (a : T (asks_to_set s m)) where
  says_is : (carried_out t m).says ≡ answer_of (finding s t m) m (coded m (start_of m) 0)
  unfolding setting served
  says_is = ap (λ (x : Served). x.says) (carried s t m a)

  after_is : (carried_out t m).after ≡ after_of (finding s t m) t (done s t (set_entries_in s m))
  unfolding setting served set_entries_in
  after_is = ap (λ (x : Served). x.after) (carried s t m a)

  accepted_so : finding s t m ≡ fine → Accepted t m
  unfolding answer_of
  accepted_so f = says_is ∙ ap (λ (x : Finding). answer_of x m (coded m (start_of m) 0)) f

  code_of : (f : Finding) → answer_of f m (coded m (start_of m) 0) ≡ coded m (start_of m) 0 → (verdict_of f).code ≡ 0
  unfolding answer_of coded verdict_of
  code_of fine e = refl
  code_of (bad i c) e = ap (λ (x : List ℕ). get_or x 6 0) e

  pub passed : Accepted t m → Passes (head_of s) (first_set_entry s) (judge s t) m
  passed e = code_passes (head_of s) (first_set_entry s) (judge s t) m (code_of (finding s t m) (sym says_is ∙ e))

  found_fine : Passes (head_of s) (first_set_entry s) (judge s t) m → finding s t m ≡ fine
  found_fine p = passes_fine (head_of s) (first_set_entry s) (judge s t) m p

  after_done : finding s t m ≡ fine → (carried_out t m).after ≡ done s t (set_entries_in s m)
  unfolding after_of
  after_done f = after_is ∙ ap (λ (x : Finding). after_of x t (done s t (set_entries_in s m))) f

  accepted_or_refused : Accepted t m ⊎ (ErrorAnswer (carried_out t m).says × ((carried_out t m).after ≡ t))
  accepted_or_refused =
      subst Settled (sym (carried s t m a))
      (by_setting (head_of s) (first_set_entry s) (judge s t) (done s t) t m Settled (λ i c n. inr (coded_error m i c n, refl)) (λ f. inl refl))
    where
      Settled : Served → Type 0
      Settled x = (x.says ≡ coded m (start_of m) 0) ⊎ (ErrorAnswer x.says × (x.after ≡ t))

pub each_accepted_or_refused : EachAcceptedOrRefused
each_accepted_or_refused s t m a = accepted_or_refused s t m a

-- ---- behind another request
finding_same : (s : SetService) (t t' : Tables) (m : List ℕ) → ((e : SetEntry) → judge s t e ≡ judge s t' e) → finding s t m ≡ finding s t' m
unfolding set_finding
finding_same s t t' m same = rw (first_same (judge s t) (judge s t') same (set_entries (first_set_entry s) (head_of s) (number_of m) (drop 6 m)))

module _ (s r : SetService) (t : Tables) (a b : List ℕ) (asks-a : T (asks_to_set s a)) (asks-b : T (asks_to_set r b)) where
  judged_alike : (f : Finding) (e : SetEntry) → judge r (after_of f t (done s t (set_entries_in s a))) e ≡ judge r t e
  unfolding after_of
  judged_alike fine e = judge_stays s r t (set_entries_in s a) e
  judged_alike (bad i c) e = refl

  finding_stays : finding r (carried_out t a).after b ≡ finding r t b
  finding_stays = finding_same r (carried_out t a).after t b (λ e. ap (λ (x : Tables). judge r x e) (after_is s t a asks-a) ∙ judged_alike (finding s t a) e)

  answer_stays : (carried_out (carried_out t a).after b).says ≡ (carried_out t b).says
  answer_stays =
      says_is r (carried_out t a).after b asks-b ∙ ap (λ (x : Finding). answer_of x b (coded b (start_of b) 0)) finding_stays
      ∙ sym (says_is r t b asks-b)

  -- the tables after both
  after_both : (carried_out (carried_out t a).after b).after
      ≡ after_of (finding r t b) (after_of (finding s t a) t (done s t (set_entries_in s a))) (done r (after_of (finding s t a) t (done s t (set_entries_in s a))) (set_entries_in r b))
  after_both =
      after_is r (carried_out t a).after b asks-b
      ∙ (λ i. after_of (finding_stays i) (after_is s t a asks-a i) (done r (after_is s t a asks-a i) (set_entries_in r b)))

pub answers_stay : AnswersStay
answers_stay s r t a b asks-a asks-b = answer_stays s r t a b asks-a asks-b

-- ---- either order: of the tables it holds where one is refused, too
tables_either : (s r : SetService) (t : Tables) (a b : List ℕ) → T (asks_to_set s a) → T (asks_to_set r b) → Apart s r a b
    → (carried_out (carried_out t a).after b).after ≡ (carried_out (carried_out t b).after a).after
tables_either s r t a b asks-a asks-b apart =
    after_both s r t a b asks-a asks-b ∙ go (finding s t a) (finding r t b) ∙ sym (after_both r s t b a asks-b asks-a)
  where
    es : List SetEntry
    es = set_entries_in s a

    fs : List SetEntry
    fs = set_entries_in r b

    go : (f g : Finding) → after_of g (after_of f t (done s t es)) (done r (after_of f t (done s t es)) fs) ≡ after_of f (after_of g t (done r t fs)) (done s (after_of g t (done r t fs)) es)
    go fine fine = unfold after_of in done_swap s r t es fs apart
    go fine (bad i c) = unfold after_of in refl
    go (bad i c) fine = unfold after_of in refl
    go (bad i c) (bad j d) = unfold after_of in refl

pub order_law : OrderLaw
order_law s r t a b asks-a asks-b apart accepted-a accepted-b =
    record {
      b_after = answer_stays s r t a b asks-a asks-b ∙ accepted-b;
      a_after = answer_stays r s t b a asks-b asks-a ∙ accepted-a;
      tables = tables_either s r t a b asks-a asks-b apart;
    }

-- ---- the cut
module _ (s : SetService) (t : Tables) (m m₁ m₂ : List ℕ) (p : PartsOf s m m₁ m₂) where
  abbrev boundary : fills (head_of s) (number_of m₁) (drop 6 m₁) ≡ true
  boundary = T_true (fills (head_of s) (number_of m₁) (drop 6 m₁)) p.boundary

  entries_joined : set_entries_in s m ≡ set_entries_in s m₁ ++ set_entries_in s m₂
  unfolding set_entries_in
  entries_joined =
      (λ i. set_entries (first_set_entry s) (head_of s) (p.numbers i) (p.bytes i))
      ∙ entries_append (head_of s) (head_some s) (first_set_entry s) (own s) (number_of m₁) (number_of m₂) (drop 6 m₁) (drop 6 m₂) boundary

  fills_joined : fills (head_of s) (number_of m) (drop 6 m) ≡ fills (head_of s) (number_of m₂) (drop 6 m₂)
  fills_joined =
      (λ i. fills (head_of s) (p.numbers i) (p.bytes i))
      ∙ fills-append (head_of s) (head_some s) (number_of m₁) (number_of m₂) (drop 6 m₁) (drop 6 m₂) boundary

  parts_fine : Accepted t m → (finding s t m₁ ≡ fine) × (finding s t m₂ ≡ fine)
  unfolding set_entries_in
  parts_fine accepted =
      let whole = passed s t m p.whole accepted in
      let judged = first_both (judge s t) (set_entries_in s m₁) (set_entries_in s m₂) (sym (ap (first_bad (judge s t)) entries_joined) ∙ whole.judged) in (
        found_fine s t m₁ p.first (record { filled = boundary; some = p.some_first; judged = judged.0 }),
        found_fine s t m₂ p.second (record { filled = sym fills_joined ∙ whole.filled; some = p.some_second; judged = judged.1 }),
      )

  cut : Accepted t m → InTwo t m m₁ m₂
  cut accepted =
      let parts = parts_fine accepted in
      let after₁ = after_done s t m₁ p.first parts.0 in
      record {
        first = accepted_so s t m₁ p.first parts.0;
        second = answer_stays s s t m₁ m₂ p.first p.second ∙ accepted_so s t m₂ p.second parts.1;
        tables =
            after_done s (carried_out t m₁).after m₂ p.second (finding_stays s s t m₁ m₂ p.first p.second ∙ parts.1)
            ∙ ap (λ (x : Tables). done s x (set_entries_in s m₂)) after₁
            ∙ done_append s t (set_entries_in s m₁) (set_entries_in s m₂)
            ∙ ap (done s t) (sym entries_joined)
            ∙ sym (after_done s t m p.whole (found_fine s t m p.whole (passed s t m p.whole accepted)));
      }

  pub join : Accepted t m₁ → Accepted (carried_out t m₁).after m₂ → Accepted t m
  unfolding set_entries_in
  join first second =
      let one = passed s t m₁ p.first first in
      let two = passed s t m₂ p.second (sym (answer_stays s s t m₁ m₂ p.first p.second) ∙ second) in
      accepted_so s t m p.whole (found_fine s t m p.whole (record {
        filled = fills_joined ∙ two.filled;
        some = omega (arith, p.numbers, p.some_first);
        judged = ap (first_bad (judge s t)) entries_joined ∙ first_none (judge s t) (set_entries_in s m₁) (set_entries_in s m₂) one.judged ∙ two.judged;
      }))

pub cut_law : CutLaw
cut_law s t m m₁ m₂ p accepted = cut s t m m₁ m₂ p accepted
