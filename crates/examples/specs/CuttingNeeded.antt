-- What item 11 of document 02 asks of a cut and of a pair of set requests is needed: the order of the bytes, the
-- boundary, the numbers, a part that is not empty, acceptance, no ID in common. With one of these left out and all other
-- premises kept, the law is false. And they can be met by a request that outgrows a frame.
use Rattle.std.specs.Prelude.{ℕ, ◌+◌, ◌≤◌, ◌≡◌, length, take, drop, replicate, T}
use mathlib.Core.List.{List, [], ◌∷◌, ◌++◌, flatten}
use Rattle.baos.specs.Table.{Tables, datapoints_only}
use Rattle.baos.specs.Message.{number_of}
use Rattle.baos.specs.Set.{fills}
use Rattle.baos.specs.Service.{carried_out}
use Rattle.demands.specs.Cutting.{SetService, SetDatapointValue, head_of, asks_to_set, Accepted, InTwo, CutLaw}
use Rattle.demands.specs.Cutting.{first_part, second_part, EachAccepted, after_each, Apart, EitherOrder, OrderLaw}
use Rattle.examples.specs.Example.{datapoint, datapoint5}

-- ---- the cut, with other premises in the places of its own
pub record PartsFor (Bytes : List ℕ → List ℕ → List ℕ → Type 0) (Boundary : SetService → List ℕ → Type 0)
    (Numbers : List ℕ → List ℕ → List ℕ → Type 0) (First Second : List ℕ → Type 0) (s : SetService)
    (m m₁ m₂ : List ℕ) : Type 0 where
  pub whole : T (asks_to_set s m)
  pub first : T (asks_to_set s m₁)
  pub second : T (asks_to_set s m₂)
  pub bytes : Bytes m m₁ m₂
  pub boundary : Boundary s m₁
  pub numbers : Numbers m m₁ m₂
  pub some_first : First m₁
  pub some_second : Second m₂

abbrev pub InTurn : List ℕ → List ℕ → List ℕ → Type 0
InTurn m m₁ m₂ = drop 6 m ≡ drop 6 m₁ ++ drop 6 m₂

abbrev pub AtBoundary : SetService → List ℕ → Type 0
AtBoundary s m₁ = T (fills (head_of s) (number_of m₁) (drop 6 m₁))

abbrev pub AddUp : List ℕ → List ℕ → List ℕ → Type 0
AddUp m m₁ m₂ = number_of m ≡ number_of m₁ + number_of m₂

abbrev pub Some : List ℕ → Type 0
Some m = 1 ≤ number_of m

-- left out
abbrev pub AnyBytes : List ℕ → List ℕ → List ℕ → Type 0
AnyBytes m m₁ m₂ = Unit {0}

abbrev pub Anywhere : SetService → List ℕ → Type 0
Anywhere s m₁ = Unit {0}

abbrev pub AnyNumbers : List ℕ → List ℕ → List ℕ → Type 0
AnyNumbers m m₁ m₂ = Unit {0}

abbrev pub AnyNumber : List ℕ → Type 0
AnyNumber m = Unit {0}

abbrev pub AnyAnswer : Tables → List ℕ → Type 0
AnyAnswer t m = Unit {0}

abbrev pub CutLawFor : (SetService → List ℕ → List ℕ → List ℕ → Type 0) → (Tables → List ℕ → Type 0) → Type 0
CutLawFor Parts Answered = (s : SetService) (t : Tables) (m m₁ m₂ : List ℕ) → Parts s m m₁ m₂ → Answered t m
    → InTwo t m m₁ m₂

-- ---- either order
abbrev pub OrderLawFor : (SetService → SetService → List ℕ → List ℕ → Type 0) → (Tables → List ℕ → Type 0)
    → (Tables → List ℕ → Type 0) → Type 0
OrderLawFor Pair Answered₁ Answered₂ = (s r : SetService) (t : Tables) (a b : List ℕ) → T (asks_to_set s a)
    → T (asks_to_set r b) → Pair s r a b → Answered₁ t a → Answered₂ t b → EitherOrder t a b

abbrev pub AnyPair : SetService → SetService → List ℕ → List ℕ → Type 0
AnyPair s r a b = Unit {0}

-- ---- the requests that show it
-- a request to set datapoint 5 that states this number, whether it has so many entries or not
unfoldable pub setting5 : ℕ → List ℕ → List ℕ
setting5 number entries = 0xF0 ∷ 0x06 ∷ 0x00 ∷ 0x05 ∷ 0x00 ∷ number ∷ entries

-- set, without sending; its type has one bit
unfoldable pub entry5 : ℕ → List ℕ
entry5 value = 0x00 ∷ 0x05 ∷ 0x01 ∷ 0x01 ∷ value ∷ []

-- how they are answered, with code 0 too
unfoldable pub answer5 : ℕ → List ℕ
answer5 code = 0xF0 ∷ 0x86 ∷ 0x00 ∷ 0x05 ∷ 0x00 ∷ 0x00 ∷ code ∷ []

abbrev pub Leaves5 : List ℕ → ℕ → ℕ → ℕ → Type 0
Leaves5 m code state value =
    carried_out (datapoint5 0x00 0) m ≡ record { says = answer5 code; after = datapoint5 state value }

-- fifty entries, in 256 bytes
unfoldable pub fifty : List ℕ
fifty = setting5 50 (flatten (replicate 50 (entry5 1)))

-- datapoints 1 and 2, of a byte each, and requests to set one or both of them
unfoldable pub both : ℕ → ℕ → Tables
both first second = datapoints_only (datapoint 1 7 0x10 (first ∷ []) ∷ datapoint 2 7 0x10 (second ∷ []) ∷ [])

unfoldable pub set_both : ℕ → List ℕ
set_both v = 0xF0 ∷ 0x06 ∷ 0x00 ∷ 0x01 ∷ 0x00 ∷ 0x02 ∷ 0x00 ∷ 0x01 ∷ 0x01 ∷ 0x01 ∷ v ∷ 0x00 ∷ 0x02 ∷ 0x01 ∷ 0x01 ∷ v ∷ []

unfoldable pub set_one : ℕ → ℕ → List ℕ
set_one id v = 0xF0 ∷ 0x06 ∷ 0x00 ∷ 0x01 ∷ 0x00 ∷ 0x01 ∷ 0x00 ∷ id ∷ 0x01 ∷ 0x01 ∷ v ∷ []

pub record CuttingNeeded : Type 0 where
  -- with their premises in their places they are the laws
  pub cut_as_stated : CutLaw → CutLawFor (PartsFor InTurn AtBoundary AddUp Some Some) Accepted
  pub order_as_stated : OrderLaw → OrderLawFor Apart Accepted Accepted
  -- and false without one of them
  pub bytes : CutLawFor (PartsFor AnyBytes AtBoundary AddUp Some Some) Accepted → ⊥
  pub boundary : CutLawFor (PartsFor InTurn Anywhere AddUp Some Some) Accepted → ⊥
  pub numbers : CutLawFor (PartsFor InTurn AtBoundary AnyNumbers Some Some) Accepted → ⊥
  pub some_first : CutLawFor (PartsFor InTurn AtBoundary AddUp AnyNumber Some) Accepted → ⊥
  pub some_second : CutLawFor (PartsFor InTurn AtBoundary AddUp Some AnyNumber) Accepted → ⊥
  pub accepted : CutLawFor (PartsFor InTurn AtBoundary AddUp Some Some) AnyAnswer → ⊥
  pub no_common_id : OrderLawFor AnyPair Accepted Accepted → ⊥
  pub accepted_first : OrderLawFor Apart AnyAnswer Accepted → ⊥
  pub accepted_second : OrderLawFor Apart Accepted AnyAnswer → ⊥
  -- a part that is cut inside an entry, one that states another number, and one of no entry
  pub cut_inside : Leaves5 (setting5 1 (take 4 (entry5 1))) 10 0x00 0
  pub other_number : Leaves5 (setting5 2 (entry5 1)) 10 0x00 0
  pub no_entry : Leaves5 (setting5 0 []) 6 0x00 0
  -- a refused request, whose first part is accepted
  pub whole_refused : Leaves5 (setting5 2 (entry5 1 ++ entry5 2)) 8 0x00 0
  pub first_accepted : Leaves5 (setting5 1 (entry5 1)) 0 0x10 1
  -- a refused request, both parts of which are accepted: its number is not the sum of theirs
  pub three_refused : Leaves5 (setting5 3 (entry5 1 ++ entry5 0)) 10 0x00 0
  pub two_accepted : EachAccepted (datapoint5 0x00 0) (setting5 1 (entry5 1) ∷ setting5 1 (entry5 0) ∷ [])
  -- an ID in common, in either order
  pub zero_later : after_each (datapoint5 0x00 0) (setting5 1 (entry5 1) ∷ setting5 1 (entry5 0) ∷ []) ≡ datapoint5 0x10 0
  pub one_later : after_each (datapoint5 0x00 0) (setting5 1 (entry5 0) ∷ setting5 1 (entry5 1) ∷ []) ≡ datapoint5 0x10 1
  -- something between: what no order of the two whole requests leaves
  pub between : after_each (both 0 0) (set_one 1 7 ∷ set_both 9 ∷ set_one 2 7 ∷ []) ≡ both 9 7
  pub before : after_each (both 0 0) (set_both 9 ∷ set_both 7 ∷ []) ≡ both 7 7
  pub behind : after_each (both 0 0) (set_both 7 ∷ set_both 9 ∷ []) ≡ both 9 9
  -- a request that no frame carries, and its parts
  pub fifty_long : length fifty ≡ 256
  pub fifty_accepted : Accepted (datapoint5 0x00 0) fifty
  pub fifty_parts : (length (first_part SetDatapointValue 49 5 fifty) ≡ 251)
      × (length (second_part SetDatapointValue 49 5 fifty) ≡ 11)
  pub fifty_in_two :
      InTwo (datapoint5 0x00 0) fifty (first_part SetDatapointValue 49 5 fifty) (second_part SetDatapointValue 49 5 fifty)

-- To read it: without any one of the premises named, and with all the others, the law is false. Parts out of turn
-- may set another value last; a part that is cut inside an entry, or states another number, or no entry at all, is
-- refused; of a request that is refused for an entry behind the cut the first part is accepted, and sets something: once
-- cut, a request is no longer all or nothing. Two requests that set one datapoint leave the value of the later one. And a
-- request may be refused for its number where its parts, each with the number of entries that it has, are accepted;
-- where the numbers add up this cannot be (`CutAgain`).
