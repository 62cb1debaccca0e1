-- What the laws about cut set requests ask is needed: computed requests that meet all premises but one.
use Prim.Native.Nat.{ℕ, ◌≤◌}
use mathlib.Core.Path.{◌≡◌, refl, sym, ◌∙◌, ap}
use mathlib.Core.List.{List, [], ◌∷◌, ◌++◌}
use native.Mathlib.Omega.{arith}
use lib.ListN.{length, get_or, take}
use Rattle.baos.specs.Datapoint.{zero_datapoint}
use Rattle.baos.specs.Table.{Tables}
use Rattle.baos.specs.Service.{carried_out}
use Rattle.demands.specs.Cutting.{SetDatapointValue, sub_of, head_of, first_set_entry, asks_to_set, set_entries_in, no_id_in_common, Apart, Accepted, InTwo, bytes_of_first, request_of, first_part, second_part, EachAccepted, after_each}
use Rattle.demands.proofs.CuttingLaws.{cut_law}
use Rattle.demands.proofs.PartsLaws.{at_each_boundary}
use Rattle.examples.specs.Example.{datapoint, datapoint5}
use Rattle.examples.specs.CuttingNeeded.{PartsFor, InTurn, AtBoundary, AddUp, Some, AnyBytes, Anywhere, AnyNumbers, AnyNumber, AnyAnswer, CutLawFor, OrderLawFor, AnyPair}
use Rattle.examples.specs.CuttingNeeded.{setting5, entry5, answer5, Leaves5, fifty, both, set_both, set_one, CuttingNeeded}
use Rattle.examples.proofs.Opened.{opened}

-- ---- computed
abbrev start : Tables
start = datapoint5 0x00 0

abbrev one : List ℕ
one = setting5 1 (entry5 1)

abbrev zero_only : List ℕ
zero_only = setting5 1 (entry5 0)

-- datapoint 5 becomes 1 and then 0
abbrev two : List ℕ
two = setting5 2 (entry5 1 ++ entry5 0)

cut_inside : Leaves5 (setting5 1 (take 4 (entry5 1))) 10 0x00 0
unfolding opened datapoint datapoint5 setting5 entry5 answer5
cut_inside = refl

other_number : Leaves5 (setting5 2 (entry5 1)) 10 0x00 0
unfolding opened datapoint datapoint5 setting5 entry5 answer5
other_number = refl

no_entry : Leaves5 (setting5 0 []) 6 0x00 0
unfolding opened datapoint datapoint5 setting5 entry5 answer5
no_entry = refl

whole_refused : Leaves5 (setting5 2 (entry5 1 ++ entry5 2)) 8 0x00 0
unfolding opened datapoint datapoint5 setting5 entry5 answer5
whole_refused = refl

first_accepted : Leaves5 one 0 0x10 1
unfolding opened datapoint datapoint5 setting5 entry5 answer5
first_accepted = refl

three_refused : Leaves5 (setting5 3 (entry5 1 ++ entry5 0)) 10 0x00 0
unfolding opened datapoint datapoint5 setting5 entry5 answer5
three_refused = refl

two_accepted : EachAccepted start (one ∷ zero_only ∷ [])
unfolding opened datapoint datapoint5 setting5 entry5
two_accepted = (refl, (refl, tt))

zero_later : after_each start (one ∷ zero_only ∷ []) ≡ datapoint5 0x10 0
unfolding opened datapoint datapoint5 setting5 entry5 after_each
zero_later = refl

one_later : after_each start (zero_only ∷ one ∷ []) ≡ datapoint5 0x10 1
unfolding opened datapoint datapoint5 setting5 entry5 after_each
one_later = refl

between : after_each (both 0 0) (set_one 1 7 ∷ set_both 9 ∷ set_one 2 7 ∷ []) ≡ both 9 7
unfolding opened datapoint both set_both set_one after_each
between = refl

before : after_each (both 0 0) (set_both 9 ∷ set_both 7 ∷ []) ≡ both 7 7
unfolding opened datapoint both set_both set_one after_each
before = refl

behind : after_each (both 0 0) (set_both 7 ∷ set_both 9 ∷ []) ≡ both 9 9
unfolding opened datapoint both set_both set_one after_each
behind = refl

-- ---- a request that no frame carries
fifty_long : length fifty ≡ 256
unfolding opened setting5 entry5 fifty
fifty_long = refl

fifty_accepted : Accepted start fifty
unfolding opened datapoint datapoint5 setting5 entry5 fifty
fifty_accepted = refl

fifty_parts : (length (first_part SetDatapointValue 49 5 fifty) ≡ 251) × (length (second_part SetDatapointValue 49 5 fifty) ≡ 11)
unfolding opened setting5 entry5 fifty head_of sub_of bytes_of_first request_of first_part second_part
fifty_parts = (refl, refl)

fifty_in_two : InTwo start fifty (first_part SetDatapointValue 49 5 fifty) (second_part SetDatapointValue 49 5 fifty)
fifty_in_two =
    cut_law SetDatapointValue start fifty _ _
    (at_each_boundary SetDatapointValue fifty 49 5 5 (unfold opened setting5 entry5 fifty asks_to_set sub_of in tt) (unfold opened setting5 entry5 fifty head_of in tt) (omega arith) (unfold opened setting5 entry5 fifty in omega arith)).parts
    fifty_accepted

-- ---- one premise left out
-- a code above 0 is no acceptance
refused : (t : Tables) (m : List ℕ) (code : ℕ) → (carried_out t m).says ≡ answer5 code → 1 ≤ code → Accepted t m → ⊥
unfolding opened answer5
refused t m code says some accepted = omega (arith, some, ap (λ (a : List ℕ). get_or a 6 0) (sym says ∙ accepted))

-- datapoint 5 has one value
value : Tables → ℕ
value t = get_or (get_or t.datapoints 0 zero_datapoint).value 0 0

differ : (t u : Tables) → value t ≡ 1 → value u ≡ 0 → t ≡ u → ⊥
differ t u p q e = omega (arith, p, q, ap value e)

bytes : CutLawFor (PartsFor AnyBytes AtBoundary AddUp Some Some) Accepted → ⊥
unfolding opened datapoint datapoint5 setting5 entry5 asks_to_set sub_of head_of value
bytes law = differ _ _ refl refl (law SetDatapointValue start two zero_only one parts refl).tables
  where
    parts : PartsFor AnyBytes AtBoundary AddUp Some Some SetDatapointValue two zero_only one
    parts = record { whole = tt; first = tt; second = tt; bytes = tt; boundary = tt; numbers = refl; some_first = omega arith; some_second = omega arith }

boundary : CutLawFor (PartsFor InTurn Anywhere AddUp Some Some) Accepted → ⊥
unfolding opened datapoint datapoint5 setting5 entry5 answer5 asks_to_set sub_of head_of
boundary law = refused start short 10 refl (omega arith) (law SetDatapointValue start two short (setting5 1 (1 ∷ entry5 0)) parts refl).first
  where
    short : List ℕ
    short = setting5 1 (take 4 (entry5 1))

    parts : PartsFor InTurn Anywhere AddUp Some Some SetDatapointValue two short (setting5 1 (1 ∷ entry5 0))
    parts = record { whole = tt; first = tt; second = tt; bytes = refl; boundary = tt; numbers = refl; some_first = omega arith; some_second = omega arith }

numbers : CutLawFor (PartsFor InTurn AtBoundary AnyNumbers Some Some) Accepted → ⊥
unfolding opened datapoint datapoint5 setting5 entry5 answer5 asks_to_set sub_of head_of
numbers law = refused (carried_out start one).after (setting5 2 (entry5 0)) 10 refl (omega arith) (law SetDatapointValue start two one (setting5 2 (entry5 0)) parts refl).second
  where
    parts : PartsFor InTurn AtBoundary AnyNumbers Some Some SetDatapointValue two one (setting5 2 (entry5 0))
    parts = record { whole = tt; first = tt; second = tt; bytes = refl; boundary = tt; numbers = tt; some_first = omega arith; some_second = omega arith }

some_first : CutLawFor (PartsFor InTurn AtBoundary AddUp AnyNumber Some) Accepted → ⊥
unfolding opened datapoint datapoint5 setting5 entry5 answer5 asks_to_set sub_of head_of
some_first law = refused start (setting5 0 []) 6 refl (omega arith) (law SetDatapointValue start one (setting5 0 []) one parts refl).first
  where
    parts : PartsFor InTurn AtBoundary AddUp AnyNumber Some SetDatapointValue one (setting5 0 []) one
    parts = record { whole = tt; first = tt; second = tt; bytes = refl; boundary = tt; numbers = refl; some_first = tt; some_second = omega arith }

some_second : CutLawFor (PartsFor InTurn AtBoundary AddUp Some AnyNumber) Accepted → ⊥
unfolding opened datapoint datapoint5 setting5 entry5 answer5 asks_to_set sub_of head_of
some_second law = refused (carried_out start one).after (setting5 0 []) 6 refl (omega arith) (law SetDatapointValue start one one (setting5 0 []) parts refl).second
  where
    parts : PartsFor InTurn AtBoundary AddUp Some AnyNumber SetDatapointValue one one (setting5 0 [])
    parts = record { whole = tt; first = tt; second = tt; bytes = refl; boundary = tt; numbers = refl; some_first = omega arith; some_second = tt }

accepted : CutLawFor (PartsFor InTurn AtBoundary AddUp Some Some) AnyAnswer → ⊥
unfolding opened datapoint datapoint5 setting5 entry5 asks_to_set sub_of head_of value
accepted law = differ _ _ refl refl (law SetDatapointValue start (setting5 2 (entry5 1 ++ entry5 2)) one (setting5 1 (entry5 2)) parts tt).tables
  where
    parts : PartsFor InTurn AtBoundary AddUp Some Some SetDatapointValue (setting5 2 (entry5 1 ++ entry5 2)) one (setting5 1 (entry5 2))
    parts = record { whole = tt; first = tt; second = tt; bytes = refl; boundary = tt; numbers = refl; some_first = omega arith; some_second = omega arith }

no_id_in_common_lem : OrderLawFor AnyPair Accepted Accepted → ⊥
unfolding opened datapoint datapoint5 setting5 entry5 asks_to_set sub_of value
no_id_in_common_lem law = differ _ _ refl refl (law SetDatapointValue SetDatapointValue start zero_only one tt tt tt refl refl).tables

-- a request of no entry has no ID in common with any, and is refused before and after it
accepted_first : OrderLawFor Apart AnyAnswer Accepted → ⊥
unfolding opened datapoint datapoint5 setting5 entry5 answer5 asks_to_set sub_of head_of first_set_entry set_entries_in no_id_in_common
accepted_first law = refused (carried_out start one).after (setting5 0 []) 6 refl (omega arith) (law SetDatapointValue SetDatapointValue start (setting5 0 []) one tt tt (λ e. tt) tt refl).a_after

accepted_second : OrderLawFor Apart Accepted AnyAnswer → ⊥
unfolding opened datapoint datapoint5 setting5 entry5 answer5 asks_to_set sub_of head_of first_set_entry set_entries_in no_id_in_common
accepted_second law = refused (carried_out start one).after (setting5 0 []) 6 refl (omega arith) (law SetDatapointValue SetDatapointValue start one (setting5 0 []) tt tt (λ e. tt) refl tt).b_after

pub cutting_needed : CuttingNeeded
cutting_needed =
    record {
      cut_as_stated = λ law s t m m₁ m₂ p x. law s t m m₁ m₂ (record { whole = p.whole; first = p.first; second = p.second; bytes = p.bytes; boundary = p.boundary; numbers = p.numbers; some_first = p.some_first; some_second = p.some_second }) x;
      order_as_stated = λ law. law;
      bytes = bytes;
      boundary = boundary;
      numbers = numbers;
      some_first = some_first;
      some_second = some_second;
      accepted = accepted;
      no_common_id = no_id_in_common_lem;
      accepted_first = accepted_first;
      accepted_second = accepted_second;
      cut_inside = cut_inside;
      other_number = other_number;
      no_entry = no_entry;
      whole_refused = whole_refused;
      first_accepted = first_accepted;
      three_refused = three_refused;
      two_accepted = two_accepted;
      zero_later = zero_later;
      one_later = one_later;
      between = between;
      before = before;
      behind = behind;
      fifty_long = fifty_long;
      fifty_accepted = fifty_accepted;
      fifty_parts = fifty_parts;
      fifty_in_two = fifty_in_two;
    }
