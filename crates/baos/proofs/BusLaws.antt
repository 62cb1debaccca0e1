-- Bus events at one record: what it takes, and what it becomes.
use Prim.Native.Nat.{ℕ, ◌≤◌, ◌<◌}
use mathlib.Core.Bool.{Bool, true, false, ◌&&◌, and-true}
use mathlib.Core.List.{List, [], ◌∷◌}
use mathlib.Core.Path.{◌≡◌, refl, sym}
use native.Mathlib.Omega.{arith}
use lib.Dec.{T, eqb, eqb→eq}
use lib.ListN.{length, get_or}
use Rattle.std.specs.Prelude.{if◌then◌else◌}
use Rattle.words.proofs.WordLaws.{left, right, true_T}
use Rattle.baos.specs.declared.datapoint.Datapoint.{Datapoint}
use Rattle.baos.specs.declared.bus.Outcome.{Outcome}
use Rattle.baos.specs.declared.bus.Outcome.TheVariants.{Sent, Failed, InProgress}
use Rattle.baos.specs.declared.bus.BusEvent.{BusEvent}
use Rattle.baos.specs.declared.bus.BusEvent.TheVariants.{Value}
use Rattle.baos.specs.Datapoint.{datapoint_id, size_of, unused_bits_ok, is_value, bus_value}
use Rattle.baos.specs.Lookup.{lookup_of, is_present}
use Rattle.baos.specs.Table.{found}
use Rattle.baos.specs.Bus.{status_of, takes, taken, found_takes}
use Rattle.baos.proofs.DatapointLaws.{size_fits}

-- ---- one record, which may be another ID's: whether the datapoint of the ID is found there, and takes the event
-- what `takes_event` answers
abbrev pub takes_event_at : BusEvent → ℕ → List ℕ → Datapoint → Bool
takes_event_at e id v d = found_takes e v (found datapoint_id id (d ∷ []))

module _ (e : BusEvent) (id : ℕ) (v : List ℕ) (d : Datapoint) where
  pub takes_present : is_present (lookup_of (found datapoint_id id (d ∷ []))) ≡ true → takes e v d ≡ takes_event_at e id v d
  unfolding found found_takes
  takes_present h = go (eqb d.id id) h
    where
      go : (y : Bool) → is_present (lookup_of (if y then d ∷ [] else [])) ≡ true → takes e v d ≡ found_takes e v (if y then d ∷ [] else [])
      go true h = rw h (sym (and-true (takes e v d)))
      go false h = absurd (true_T {b = false} (unfold lookup_of is_present in h))

  pub takes_absent : is_present (lookup_of (found datapoint_id id (d ∷ []))) ≡ false → false ≡ takes_event_at e id v d
  unfolding found_takes
  takes_absent h = rw h refl

  -- it is taken where the record is the one of the ID, and takes it
  pub taken_here : takes_event_at e id v d ≡ true → T (eqb d.id id && takes e v d)
  unfolding found found_takes
  taken_here h = go (eqb d.id id) h
    where
      go : (y : Bool) → found_takes e v (if y then d ∷ [] else []) ≡ true → T (y && takes e v d)
      go true h = left (takes e v d) true (right (is_present (lookup_of (d ∷ []))) (takes e v d && true) (true_T h))
      go false h = absurd (true_T {b = false} (unfold lookup_of is_present in h))

-- a value that is taken fits into the record
pub taken_fits : (v : List ℕ) (d : Datapoint) → T (takes Value v d) → length v ≤ 14
unfolding takes is_value
taken_fits v d t =
    let same : length v ≡ size_of d.typecode = eqb→eq (length v) (size_of d.typecode) (left (eqb (length v) (size_of d.typecode)) (unused_bits_ok d.typecode v) t) in
    let fits : size_of d.typecode ≤ 14 = size_fits d.typecode in
    omega arith

-- a value of one byte is its first byte
pub one_byte : (v : List ℕ) → T (eqb (length v) 1) → v ≡ get_or v 0 0 ∷ []
one_byte [] t = absurd t
one_byte (b ∷ []) t = refl
one_byte (b ∷ c ∷ v) t = absurd (omega (arith, eqb→eq (length (b ∷ c ∷ v)) 1 t))

-- it has a first byte
pub has_byte : (v : List ℕ) → T (eqb (length v) 1) → 0 < length v
has_byte v t = omega (arith, eqb→eq (length v) 1 t)

-- the status has two bits
pub status_fits : (o : Outcome) → status_of o ≤ 3
unfolding status_of
status_fits Sent = omega arith
status_fits Failed = omega arith
status_fits InProgress = omega arith

-- a value that is taken replaces the record's, and its outcome the status
pub value_taken : (v : List ℕ) (d : Datapoint) → taken Value v d ≡ bus_value v d
unfolding taken
value_taken v d = refl
