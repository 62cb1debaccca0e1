-- Requests to set parameter bytes: what they are answered and leave, and that nothing else changes a parameter byte.
use Prim.Native.Nat.{ℕ, ◌+◌, ◌-◌, ◌≤◌, ◌<◌}
use mathlib.Core.Path.{◌≡◌, refl, sym, ◌∙◌, ap, subst}
use mathlib.Core.Logic.{◌≢◌, ◌⊎◌, inl, inr}
use mathlib.Core.Bool.{Bool, true, false, not, ◌||◌}
use mathlib.Core.List.{List, [], ◌∷◌, ◌++◌}
use native.Mathlib.Omega.{arith}
use lib.ListN.{length, get_or, take, drop, length-drop}
use lib.Seq.{get_or-drop}
use lib.Dec.{T, leb, ltb, eqb, leb→le, le→leb, eqb→eq}
use borrow.Author.Tests.{eq-eqb, lt-ltb, le-ltb, lt-leb, ltb-true, ltb-false}
use Rattle.words.specs.Words.{put, two_bytes}
use Rattle.words.proofs.WordLaws.{left, right, both, true_T, T_true}
use Rattle.words.proofs.ByteLaws.{length-put, put_read, get_d_put_within, get_d_put_front, get_d_put_behind}
use Rattle.ft12.specs.declared.record.Link.{Link}
use Rattle.ft12.specs.Frame.{longest_message}
use Rattle.ft12.specs.Record.{Line, line_of}
use Rattle.ft12.specs.Rules.{on_host_byte, on_idle_mark}
use Rattle.baos.specs.Table.{Tables, with_parameters}
use Rattle.baos.specs.Message.{main_service, sub_service, start_of, number_of, coded, Finding, fine, bad, verdict_of, Served, answer_of, served}
use Rattle.baos.specs.Get.{in_request}
use Rattle.baos.specs.Set.{absent_indices, absent_finding, set_parameter_finding, set_parameter_byte}
use Rattle.baos.specs.Service.{unanswered, carried_out}
use Rattle.baos.specs.Indication.{indication}
use Rattle.baos.proofs.MeasureLaws.{finding_none}
use Rattle.baos.proofs.ParameterLaws.{present_all, parameters_all}
use Rattle.baos.proofs.ServiceLaws.{parameters_say, not_answered, is_get_parameter, is_set_parameter, bad_set_parameter, fine_set_parameter}
use Rattle.baos.specs.Inner.Gather.{size_asked, filter_asked, request_finding, parameters_present}
use Rattle.baos.proofs.GetLaws.{verdict_bad}
use Rattle.baos.proofs.SetParameterLaws.{Range, outside, over, within, range, absent_at_start, absent_behind, absent_none, other_size, no_bytes, by_absent, Passed, passed, Checked, ten, six, seven, none, checked, parameters_kept}
use Rattle.calls.specs.declared.event.Event.{Event}
use Rattle.calls.specs.declared.event.Event.TheVariants.{HostByte, IdleMark, AckWaitOver, Poll, BusValue, TransmissionOutcome}
use Rattle.calls.specs.Event.{at_datapoint}
use Rattle.calls.specs.Call.{Done, handed_up, on_moved, happens, refusal, call}
use Rattle.calls.proofs.CallJoins.{waited}
use Rattle.walks.proofs.Branches.{no_T}
use Rattle.demands.proofs.Demand2.{demand_2}
use Rattle.demands.proofs.Demand3.{demand_3}
use Rattle.demands.proofs.HandedOutLaws.{call_tables, by_call, byte_tables, by_poll}
use Rattle.demands.specs.Answers.{Demand2}
use Rattle.demands.specs.Entries.{message_up}
use Rattle.demands.specs.Status.{tables_after_all}
use Rattle.demands.specs.Exchange.{Demand3}
use Rattle.demands.specs.Parameters.{asks_to_set_parameters, bytes_as_stated, is_parameter_index, parameter_at, set_parameter_answer, FirstAbsent, SetParameterAnswered, BytesSet, EachAnswered, EachAllOrNothing, ReadBack, OnlyThatService, may_set_parameters, OnlyThatServiceByCall, ByteCarriesOut, none_sets, ParametersStand, OfParameters2, OfParameters3, SettingParameters}

-- ---- tests and what they say
-- an index of the table
module _ (t : Tables) (i : ℕ) where
  index_bounds : T (is_parameter_index t i) → (1 ≤ i) × (i ≤ length t.parameters)
  unfolding is_parameter_index
  index_bounds h =
      (leb→le 1 i (left (leb 1 i) (leb i (length t.parameters)) h), leb→le i (length t.parameters) (right (leb 1 i) (leb i (length t.parameters)) h))

  bounds_index : 1 ≤ i → i ≤ length t.parameters → T (is_parameter_index t i)
  unfolding is_parameter_index
  bounds_index l h = both (leb 1 i) (leb i (length t.parameters)) (le→leb 1 i l) (le→leb i (length t.parameters) h)

  no_index : T (not (is_parameter_index t i)) → 1 ≤ i → i ≤ length t.parameters → ⊥
  no_index n l h = true_T {b = false} (sym (no_T (is_parameter_index t i) n) ∙ T_true (is_parameter_index t i) (bounds_index l h))

-- an index of the range
module _ (m : List ℕ) (i : ℕ) where
  range_bounds : T (in_request m i) → (start_of m ≤ i) × (i < start_of m + number_of m)
  unfolding in_request
  range_bounds h =
      (leb→le (start_of m) i (left (leb (start_of m) i) (ltb i (start_of m + number_of m)) h), ltb-true i (start_of m + number_of m) (T_true (ltb i (start_of m + number_of m)) (right (leb (start_of m) i) (ltb i (start_of m + number_of m)) h)))

  bounds_range : start_of m ≤ i → i < start_of m + number_of m → T (in_request m i)
  unfolding in_request
  bounds_range l h = both (leb (start_of m) i) (ltb i (start_of m + number_of m)) (le→leb (start_of m) i l) (true_T (lt-ltb i (start_of m + number_of m) h))

states : (m : List ℕ) → T (bytes_as_stated m) → (length m ≡ 6 + number_of m) × (1 ≤ number_of m)
unfolding bytes_as_stated
states m h =
    (eqb→eq (length m) (6 + number_of m) (left (eqb (length m) (6 + number_of m)) (leb 1 (number_of m)) h), leb→le 1 (number_of m) (right (eqb (length m) (6 + number_of m)) (leb 1 (number_of m)) h))

-- ---- an answered message whose sub is 08
module _ (t : Tables) (m : List ℕ) (a : T (asks_to_set_parameters m)) where
  abbrev count : ℕ
  count = length t.parameters

  abbrev start : ℕ
  start = start_of m

  abbrev number : ℕ
  number = number_of m

  sub_is : sub_service m ≡ 0x08
  unfolding asks_to_set_parameters
  sub_is = eqb→eq (sub_service m) 8 (right (not (unanswered m)) (eqb (sub_service m) 8) a)

  carried : carried_out t m ≡ set_parameter_byte t m
  unfolding asks_to_set_parameters
  carried = is_set_parameter t m (no_T (unanswered m) (left (not (unanswered m)) (eqb (sub_service m) 8) a)) sub_is

  as_answer : (i c : ℕ) → coded m i c ≡ set_parameter_answer i c
  unfolding coded set_parameter_answer
  as_answer i c = ap (λ (n : ℕ). 0xF0 ∷ (n + 0x80) ∷ two_bytes i ++ 0 ∷ 0 ∷ c ∷ []) sub_is

  bad_says : {i c : ℕ} → set_parameter_finding count m ≡ bad i c → (carried_out t m).says ≡ set_parameter_answer i c
  bad_says {i} {c} e = ap (λ (s : Served). s.says) (carried ∙ bad_set_parameter t m e) ∙ as_answer i c

  fine_says : set_parameter_finding count m ≡ fine → (carried_out t m).says ≡ set_parameter_answer start 0
  fine_says e = ap (λ (s : Served). s.says) (carried ∙ fine_set_parameter t m e) ∙ as_answer start 0

  -- by the first index that is not in the table, or none
  module _ (s : T (bytes_as_stated m)) where
    absent_so : set_parameter_finding count m ≡ absent_finding (absent_indices count start number)
    absent_so = by_absent count m (states m s).0 (λ z. omega (arith, z, (states m s).1))

    seven_at_start : (1 ≤ start → start ≤ count → ⊥) → (carried_out t m).says ≡ set_parameter_answer start 7
    seven_at_start o = bad_says (absent_so ∙ absent_at_start count start number (states m s).1 o)

    seven_behind : 1 ≤ start → start ≤ count → count + 1 < start + number → (carried_out t m).says ≡ set_parameter_answer (count + 1) 7
    seven_behind l h o = bad_says (absent_so ∙ absent_behind count start number l (omega (arith, h)) o)

    zero_within : 1 ≤ start → start + number ≤ count + 1 → (carried_out t m).says ≡ set_parameter_answer start 0
    zero_within l h = fine_says (absent_so ∙ absent_none count start number l h)

    -- an index that is the first absent one is the start, or the one behind the last
    seven_first : (i : ℕ) → FirstAbsent t m i → (carried_out t m).says ≡ set_parameter_answer i 7
    seven_first i f = go (range count start number)
      where
        lies : (start ≤ i) × (i < start + number)
        lies = range_bounds m i f.within_range

        -- where the start is not in the table, the index is the start
        is_start : (1 ≤ start → start ≤ count → ⊥) → start ≡ i
        is_start n = below (ltb start i) refl
          where
            below : (u : Bool) → ltb start i ≡ u → start ≡ i
            below true e = let x = index_bounds t start (f.first start (omega arith) (ltb-true start i e)) in absurd (n x.0 x.1)
            below false e = omega (arith, ltb-false start i e, lies.0)

        go : Range count start number → (carried_out t m).says ≡ set_parameter_answer i 7
        go (outside o) = seven_at_start o ∙ ap (λ (j : ℕ). set_parameter_answer j 7) (is_start o)
        go (over l h o) = seven_behind l h o ∙ ap (λ (j : ℕ). set_parameter_answer j 7) (last (ltb count i) (ltb (count + 1) i) refl refl)
          where
            last : (u v : Bool) → ltb count i ≡ u → ltb (count + 1) i ≡ v → count + 1 ≡ i
            last false v e g = absurd (no_index t i f.absent (omega (arith, l, lies.0)) (omega (arith, ltb-false count i e)))
            last true true e g = let x = index_bounds t (count + 1) (f.first (count + 1) (omega (arith, h)) (ltb-true (count + 1) i g)) in absurd (omega (arith, x.1))
            last true false e g = omega (arith, ltb-true count i e, ltb-false (count + 1) i g)
        go (within l h) = absurd (no_index t i f.absent (omega (arith, l, lies.0)) (omega (arith, h, lies.1)))

    zero_all : ((i : ℕ) → T (in_request m i) → T (is_parameter_index t i)) → (carried_out t m).says ≡ set_parameter_answer start 0
    zero_all all =
        let n : 1 ≤ number = (states m s).1 in
        let x = index_bounds t start (all start (bounds_range m start (omega arith) (omega (arith, n)))) in
        let y = index_bounds t (start + number - 1) (all (start + number - 1) (bounds_range m (start + number - 1) (omega (arith, n)) (omega (arith, n)))) in
        zero_within x.0 (omega (arith, y.1, n))

  -- one of four codes
  one_of_four : let code = get_or (carried_out t m).says 6 5 in (code ≡ 10) ⊎ (code ≡ 6) ⊎ (code ≡ 7) ⊎ (code ≡ 0)
  unfolding set_parameter_answer
  one_of_four = go (checked count m)
    where
      code : (i c : ℕ) → (carried_out t m).says ≡ set_parameter_answer i c → get_or (carried_out t m).says 6 5 ≡ c
      code i c e = ap (λ (s : List ℕ). get_or s 6 5) e

      go : Checked count m → let c = get_or (carried_out t m).says 6 5 in (c ≡ 10) ⊎ (c ≡ 6) ⊎ (c ≡ 7) ⊎ (c ≡ 0)
      go (ten e) = inl (code start 10 (bad_says e))
      go (six e) = inr (inl (code start 6 (bad_says e)))
      go (seven i e) = inr (inr (inl (code i 7 (bad_says e))))
      go (none p) = inr (inr (inr (code start 0 (fine_says p.fine_so))))

  pub set_answered : SetParameterAnswered t m
  set_answered =
      record {
        code_10 = λ n. bad_says (other_size count m n);
        code_6 = λ l z. bad_says (no_bytes count m (omega (arith, l, z)) z);
        code_7 = λ s i f. seven_first s i f;
        code_0 = λ s all. zero_all s all;
        at_the_start = λ s n. seven_at_start s (no_index t start n);
        behind_last = λ s x o. seven_behind s (index_bounds t start x).0 (index_bounds t start x).1 o;
        within = λ s x h. zero_within s (index_bounds t start x).0 h;
        no_other = one_of_four;
      }

pub each_answered : EachAnswered
each_answered t m a = set_answered t m a

-- ---- what it leaves
module _ (t : Tables) (m : List ℕ) (a : T (asks_to_set_parameters m)) where
  abbrev finding : Finding
  finding = set_parameter_finding (length t.parameters) m

  -- the answer's code is that of the finding
  code_is : get_or (carried_out t m).says 6 1 ≡ (verdict_of finding).code
  unfolding set_parameter_byte served answer_of coded verdict_of
  code_is = ap (λ (s : Served). get_or s.says 6 1) (carried t m a) ∙ of_finding finding
    where
      of_finding : (f : Finding) → get_or (answer_of f m (coded m (start_of m) 0)) 6 1 ≡ (verdict_of f).code
      of_finding fine = refl
      of_finding (bad i c) = refl

  -- code 0: what the checks let through is set
  module _ (z : get_or (carried_out t m).says 6 1 ≡ 0) where
    let_through : Passed (length t.parameters) m
    let_through = passed (length t.parameters) m (sym code_is ∙ z)

    pub set_so : (carried_out t m).after ≡ with_parameters (put t.parameters (start_of m - 1) (drop 6 m)) t
    set_so = ap (λ (s : Served). s.after) (carried t m a ∙ fine_set_parameter t m let_through.fine_so)

    bytes_long : length (drop 6 m) ≡ number_of m
    bytes_long = omega (arith, length-drop 6 m, let_through.filled)

    pub bytes_set : BytesSet t m (carried_out t m).after
    unfolding parameter_at
    bytes_set =
        let p = let_through in
        let ps : List ℕ = t.parameters in
        let at : ℕ = start_of m - 1 in
        let set : (carried_out t m).after.parameters ≡ put ps at (drop 6 m) = ap (λ (x : Tables). x.parameters) set_so in
        record {
          as_many = ap length set ∙ length-put ps at (drop 6 m) p.fits;
          within_range = λ i r. let q = range_bounds m i r in
              ap (λ (l : List ℕ). get_or l (i - 1) 0) set
              ∙ get_d_put_within ps at (drop 6 m) p.fits (i - 1) (omega (arith, q.0)) (omega (arith, q.1, p.from_one, bytes_long))
              ∙ get_or-drop 6 m (i - 1 - at) 0 ∙ ap (λ (k : ℕ). get_or m (6 + k) 0) {x = i - 1 - at} {y = i - start_of m} (omega (arith, q.0, p.from_one));
          others = λ i l n. ap (λ (x : List ℕ). get_or x (i - 1) 0) set ∙ other i l n (ltb i (start_of m)) refl;
          datapoints = ap (λ (x : Tables). x.datapoints) set_so;
          items = ap (λ (x : Tables). x.items) set_so;
          texts = ap (λ (x : Tables). x.texts) set_so;
        }
      where
        other : (i : ℕ) → 1 ≤ i → T (not (in_request m i)) → (u : Bool) → ltb i (start_of m) ≡ u → get_or (put t.parameters (start_of m - 1) (drop 6 m)) (i - 1) 0 ≡ get_or t.parameters (i - 1) 0
        other i l n true e = get_d_put_front t.parameters (start_of m - 1) (drop 6 m) let_through.fits (i - 1) (omega (arith, l, ltb-true i (start_of m) e))
        other i l n false e = get_d_put_behind t.parameters (start_of m - 1) (drop 6 m) let_through.fits (i - 1) (omega (arith, bytes_long, let_through.from_one, behind (ltb i (start_of m + number_of m)) refl))
          where
            behind : (u : Bool) → ltb i (start_of m + number_of m) ≡ u → start_of m + number_of m ≤ i
            behind true g = absurd (true_T {b = false} (sym (no_T (in_request m i) n) ∙ T_true (in_request m i) (bounds_range m i (ltb-false i (start_of m) e) (ltb-true i (start_of m + number_of m) g))))
            behind false g = ltb-false i (start_of m + number_of m) g

  -- any other: nothing
  set_nothing : get_or (carried_out t m).says 6 1 ≢ 0 → (carried_out t m).after ≡ t
  set_nothing n =
      ap (λ (s : Served). s.after) (carried t m a ∙ bad_set_parameter t m (verdict_bad finding (λ z. n (code_is ∙ z))))

pub each_all_or_nothing : EachAllOrNothing
each_all_or_nothing t m a = record { all = λ z. bytes_set t m a z; nothing = λ n. set_nothing t m a n }

-- ---- read back
module _ (t : Tables) (m g : List ℕ) (a : T (asks_to_set_parameters m)) (short : length m ≤ longest_message) (z : get_or (carried_out t m).says 6 1 ≡ 0)
    (six_bytes : length g ≡ 6) (main : main_service g ≡ 0xF0) (sub : sub_service g ≡ 0x07) (from-same : start_of g ≡ start_of m) (as_many : number_of g ≡ number_of m) where
  -- the table that was left
  abbrev left_table : List ℕ
  left_table = put t.parameters (start_of m - 1) (drop 6 m)

  p : Passed (length t.parameters) m
  p = let_through t m a z

  long : length (drop 6 m) ≡ number_of m
  long = bytes_long t m a z

  here : parameters_present (length left_table) (start_of g) (number_of g) ≡ number_of m
  here =
      present_all (length left_table) (start_of g) (number_of g) (omega (arith, p.from_one, from-same))
      (omega (arith, length-put t.parameters (start_of m - 1) (drop 6 m) p.fits, p.within_so, from-same, as_many))
      ∙ as_many

  asked_so : unanswered g ≡ false
  unfolding unanswered
  asked_so = simp (le-ltb (length g) 6 (omega (arith, six_bytes)), eq-eqb (main_service g) 0xF0 main, lt-leb 0x80 (sub_service g) (omega (arith, sub)))

  no_error : (verdict_of (request_finding false g)).code ≡ 0
  unfolding size_asked filter_asked verdict_of
  no_error = ap (λ (f : Finding). (verdict_of f).code) (finding_none false g six_bytes (λ e. omega (arith, e, as_many, p.some)) (omega arith))

  pub given : (carried_out (carried_out t m).after g).says ≡ 0xF0 ∷ 0x87 ∷ two_bytes (start_of m) ++ two_bytes (number_of m) ++ drop 6 m
  given =
      ap (λ (x : Tables). (carried_out x g).says) (set_so t m a z)
      ∙ ap (λ (s : Served). s.says) (is_get_parameter (with_parameters left_table t) g asked_so sub)
      ∙ parameters_say (with_parameters left_table t) g
      ∙ parameters_all left_table g no_error (omega (arith, here, p.some)) (omega (arith, here, p.filled, short))
      ∙ (λ i. (0xF0 ∷ (sub i + 0x80) ∷ two_bytes (from-same i) ++ two_bytes (here i)) ++ take (here i) (drop (from-same i - 1) left_table))
      ∙ ap (λ (bs : List ℕ). (0xF0 ∷ 0x87 ∷ two_bytes (start_of m) ++ two_bytes (number_of m)) ++ bs)
      (put_read t.parameters (start_of m - 1) (start_of m - 1) (number_of m) [] (drop 6 m) (omega (arith, p.fits)) (omega arith) (sym long))

pub read_back : ReadBack
read_back t m g a short z l main sub s n = given t m g a short z l main sub s n

-- ---- only that service writes
pub only_that_service : OnlyThatService
unfolding asks_to_set_parameters
only_that_service t m n = go (unanswered m) refl
  where
    go : (u : Bool) → unanswered m ≡ u → (carried_out t m).after.parameters ≡ t.parameters
    go true e = ap (λ (s : Served). s.after.parameters) (not_answered t m e)
    go false e = parameters_kept t m (λ s. true_T {b = false} (sym (no_T (asks_to_set_parameters m) n) ∙ simp (e, eq-eqb (sub_service m) 8 s)))

pub byte_carries_out : ByteCarriesOut
byte_carries_out b v t k out r = call_tables (HostByte b) v t k out r ∙ byte_tables b v t (line_of k)

happens_keeps : (e : Event) (v : List ℕ) (t : Tables) (l : Line) → T (not (may_set_parameters e l)) → (happens e v t l).tables.parameters ≡ t.parameters
unfolding happens may_set_parameters at_datapoint on_moved
happens_keeps (HostByte b) v t l n = ap (λ (x : Tables). x.parameters) (byte_tables b v t l) ∙ only_that_service t (message_up (on_host_byte b l).up) n
happens_keeps IdleMark v t l n = unfold handed_up on_idle_mark in refl
happens_keeps AckWaitOver v t l n = ap (λ (d : Done). d.tables.parameters) (waited l t)
happens_keeps Poll v t l n = by_poll (λ (x : Tables). x.parameters ≡ t.parameters) t l (unfold indication in refl) refl
happens_keeps (BusValue id) v t l n = refl
happens_keeps (TransmissionOutcome id o) v t l n = refl

pub only_that_service_by_call : OnlyThatServiceByCall
only_that_service_by_call e v t k out n =
    by_call (λ (x : Tables). x.parameters ≡ t.parameters) e v t k out (λ r. happens_keeps e v t (line_of k) n) (λ r. refl)

-- a call that is refused, or ends no such request
step_keeps : (e : Event) (v : List ℕ) (t : Tables) (k : Link) (out : List ℕ) → T (not (eqb (refusal e v t k (length out)) 0) || not (may_set_parameters e (line_of k)))
    → (call e v t k out).tables.parameters ≡ t.parameters
step_keeps e v t k out h =
    by_call (λ (x : Tables). x.parameters ≡ t.parameters) e v t k out
    (λ r. happens_keeps e v t (line_of k) (subst (λ (u : Bool). T (not u || not (may_set_parameters e (line_of k)))) (eq-eqb (refusal e v t k (length out)) 0 r) h))
    (λ r. refl)

pub parameters_stand : ParametersStand
unfolding none_sets tables_after_all
parameters_stand [] t k h = refl
parameters_stand (x ∷ hs) t k h =
    let c = call x.event x.value t k x.output in
    let here : Bool = not (eqb (refusal x.event x.value t k (length x.output)) 0) || not (may_set_parameters x.event (line_of k)) in
    parameters_stand hs c.tables c.link (right here (none_sets hs c.tables c.link) h)
    ∙ step_keeps x.event x.value t k x.output (left here (none_sets hs c.tables c.link) h)

-- ---- the demands, read of the parameters
demand_2_reads_so : Demand2 → OfParameters2
demand_2_reads_so d =
    record {
      one_outcome = λ e v t k out r₁ r₂ t₁ t₂ k₁ k₂ out₁ out₂ a b. ap (λ (x : Tables). x.parameters) (d.one_outcome e v t k out r₁ r₂ t₁ t₂ k₁ k₂ out₁ out₂ a b).tables;
      errors_set_none = λ t m e. ap (λ (x : Tables). x.parameters) (d.errors_change_nothing t m e);
      error_calls_set_none = λ e v t k out c a err sent. ap (λ (x : Tables). x.parameters) (d.error_calls_change_nothing e v t k out c a err sent);
    }

demand_3_reads_so : Demand3 → OfParameters3
demand_3_reads_so d lent m ds t k s r p q = let o = d lent m ds t k s r p q in ap (λ (x : Tables). x.parameters) (o.tables ∙ o.carried)

-- both demands hold, and so these
of_parameters_2 : OfParameters2
of_parameters_2 = demand_2_reads_so demand_2

of_parameters_3 : OfParameters3
of_parameters_3 = demand_3_reads_so demand_3

pub setting_parameters : SettingParameters
setting_parameters =
    record {
      each_answered = each_answered;
      each_all_or_nothing = each_all_or_nothing;
      read_back = read_back;
      only_that_service = only_that_service;
      only_that_service_by_call = only_that_service_by_call;
      byte_carries_out = byte_carries_out;
      parameters_stand = parameters_stand;
      demand_2_reads_so = demand_2_reads_so;
      demand_3_reads_so = demand_3_reads_so;
      of_parameters_2 = of_parameters_2;
      of_parameters_3 = of_parameters_3;
    }
