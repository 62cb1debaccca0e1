-- The computed examples. Records are compared by a test, since a test computes in a fraction of the time that an equation takes; what the test
-- means is proved behind it.
use Prim.Native.Nat.{ℕ, zero, suc}
use lib.ListN.{get_or}
use mathlib.Core.Path.{◌≡◌, sym, subst}
use mathlib.Core.Bool.{Bool, true}
use mathlib.Core.List.Memᴰ
use mathlib.Core.List.{List, [], ◌∷◌, Memᴰ}
use mathlib.Core.Logic.{◌⊎◌, inl, inr}
use lib.Dec.{T, eqb, eqb→eq}
use Rattle.words.specs.Words.{every, same, same_by}
use Rattle.ft12.specs.declared.record.Link.{Link}
use Rattle.words.proofs.WordLaws.{left, right, same_by→eq, same→eq}
use Rattle.baos.specs.declared.datapoint.Datapoint.{Datapoint}
use Rattle.baos.specs.declared.item.Item.{Item}
use Rattle.baos.specs.Table.{Tables}
use Rattle.baos.proofs.TableLaws.{same_tables}
use Rattle.demands.specs.Run.{Ran}
use Rattle.examples.specs.Example.{Case, run_of, stated, line_at, exchange, item1, ask1, answer1, case1, case2, ask1even, case2even, datapoint, datapoint5, answer3, set5, case3, case4, one_byte_from, one_bytes, entries_from, case5, case5more, parameter_bytes, case6, case6more, case9, case9one, list_entry, lamp_texts, case_texts, long_texts_from, long_texts, long_strings, case_long_texts, case_long_texts_more, cases}
use Rattle.examples.proofs.Opened.{opened}

-- ---- the tests
abbrev pub all_pass : List Bool → Bool
all_pass bs = every (λ b. b) bs

abbrev datapoint_tests : Datapoint → Datapoint → List Bool
datapoint_tests a b = eqb a.id b.id ∷ eqb a.typecode b.typecode ∷ eqb a.flags b.flags ∷ eqb a.dpt b.dpt ∷ eqb a.state b.state ∷ same a.value b.value ∷ eqb a.mark b.mark ∷ []

abbrev item_tests : Item → Item → List Bool
item_tests a b = eqb a.id b.id ∷ eqb a.size b.size ∷ eqb a.writable b.writable ∷ same a.bytes b.bytes ∷ []

abbrev link_tests : Link → Link → List Bool
link_tests a b = same a.receiver b.receiver ∷ eqb a.received b.received ∷ eqb a.dropping b.dropping ∷ eqb a.expected b.expected ∷ eqb a.send b.send ∷ same a.outstanding b.outstanding ∷ eqb a.held b.held ∷ eqb a.resends b.resends ∷ []

unfoldable pub same_datapoint : Datapoint → Datapoint → Bool
same_datapoint a b = all_pass (datapoint_tests a b)

unfoldable pub same_item : Item → Item → Bool
same_item a b = all_pass (item_tests a b)

unfoldable pub same_link : Link → Link → Bool
same_link a b = all_pass (link_tests a b)

abbrev pub tables_tests : Tables → Tables → List Bool
tables_tests a b =
    same_by same_datapoint a.datapoints b.datapoints
    ∷ same_by same_item a.items b.items
    ∷ same a.parameters b.parameters
    ∷ same a.texts.site b.texts.site
    ∷ same a.texts.defaults b.texts.defaults
    ∷ []

unfoldable pub tables_same : Tables → Tables → Bool
tables_same a b = all_pass (tables_tests a b)

abbrev ran_tests : Ran → Ran → List Bool
ran_tests a b = same a.sent b.sent ∷ tables_same a.tables b.tables ∷ same_link a.link b.link ∷ []

unfoldable pub agrees : Case → Bool
agrees c = all_pass (ran_tests (run_of c) (stated c))

-- ---- computed
tested : T (every agrees cases)
unfolding cases opened run_of stated same_datapoint same_item tables_same same_link agrees line_at exchange item1 ask1 answer1 case1 case2 ask1even case2even datapoint datapoint5 answer3 set5 case3 case4 one_byte_from one_bytes entries_from case5 case5more parameter_bytes case6 case6more case9 case9one list_entry lamp_texts case_texts long_texts_from long_texts long_strings case_long_texts case_long_texts_more
tested = tt

-- ---- what the tests mean
nth : (bs : List Bool) → T (all_pass bs) → (k : ℕ) → T (get_or bs k true)
nth [] t k = tt
nth (b ∷ bs) t zero = left b (all_pass bs) t
nth (b ∷ bs) t (suc k) = nth bs (right b (all_pass bs) t) k

datapoint_eq : (a b : Datapoint) → T (same_datapoint a b) → a ≡ b
unfolding same_datapoint
datapoint_eq a b t =
    let g : (k : ℕ) → T (get_or (datapoint_tests a b) k true) = nth (datapoint_tests a b) t in
    λ i. record {
      id = eqb→eq a.id b.id (g 0) i;
      typecode = eqb→eq a.typecode b.typecode (g 1) i;
      flags = eqb→eq a.flags b.flags (g 2) i;
      dpt = eqb→eq a.dpt b.dpt (g 3) i;
      state = eqb→eq a.state b.state (g 4) i;
      value = same→eq a.value b.value (g 5) i;
      mark = eqb→eq a.mark b.mark (g 6) i;
    }

item_eq : (a b : Item) → T (same_item a b) → a ≡ b
unfolding same_item
item_eq a b t =
    let g : (k : ℕ) → T (get_or (item_tests a b) k true) = nth (item_tests a b) t in
    λ i. record { id = eqb→eq a.id b.id (g 0) i; size = eqb→eq a.size b.size (g 1) i; writable = eqb→eq a.writable b.writable (g 2) i; bytes = same→eq a.bytes b.bytes (g 3) i }

link_eq : (a b : Link) → T (same_link a b) → a ≡ b
unfolding same_link
link_eq a b t =
    let g : (k : ℕ) → T (get_or (link_tests a b) k true) = nth (link_tests a b) t in
    λ i. record {
      receiver = same→eq a.receiver b.receiver (g 0) i;
      received = eqb→eq a.received b.received (g 1) i;
      dropping = eqb→eq a.dropping b.dropping (g 2) i;
      expected = eqb→eq a.expected b.expected (g 3) i;
      send = eqb→eq a.send b.send (g 4) i;
      outstanding = same→eq a.outstanding b.outstanding (g 5) i;
      held = eqb→eq a.held b.held (g 6) i;
      resends = eqb→eq a.resends b.resends (g 7) i;
    }

pub tables_eq : (a b : Tables) → T (tables_same a b) → a ≡ b
unfolding tables_same
tables_eq a b t =
    let g : (k : ℕ) → T (get_or (tables_tests a b) k true) = nth (tables_tests a b) t in
    same_tables (same_by→eq same_datapoint datapoint_eq a.datapoints b.datapoints (g 0))
    (same_by→eq same_item item_eq a.items b.items (g 1)) (same→eq a.parameters b.parameters (g 2))
    (λ i. record { site = same→eq a.texts.site b.texts.site (g 3) i; defaults = same→eq a.texts.defaults b.texts.defaults (g 4) i })

ran_eq : (a b : Ran) → T (all_pass (ran_tests a b)) → a ≡ b
ran_eq a b t =
    let g : (k : ℕ) → T (get_or (ran_tests a b) k true) = nth (ran_tests a b) t in
    λ i. record {
      sent = same→eq a.sent b.sent (g 0) i;
      tables = tables_eq a.tables b.tables (g 1) i;
      link = link_eq a.link b.link (g 2) i;
    }

pub case_holds : (c : Case) → T (agrees c) → run_of c ≡ stated c
unfolding agrees
case_holds c t = ran_eq (run_of c) (stated c) t

each : (cs : List Case) → T (every agrees cs) → (c : Case) → Memᴰ c cs → run_of c ≡ stated c
each [] t c h = absurd (Memᴰ.not-nil h)
each (d ∷ cs) t c h = go (Memᴰ.cases_cons h) (each cs (right (agrees d) (every agrees cs) t) c)
  where
    go : (c ≡ d) ⊎ Memᴰ c cs → (Memᴰ c cs → run_of c ≡ stated c) → run_of c ≡ stated c
    go (inl e) r = subst (λ (x : Case). run_of x ≡ stated x) (sym e) (case_holds d (left (agrees d) (every agrees cs) t))
    go (inr m) r = r m

pub computed_hold : (c : Case) → Memᴰ c cases → run_of c ≡ stated c
computed_hold = each cases tested
