-- Looking up an ID: a finding is known by its number, and absent is all that is not present.
use Prim.Native.Nat.{ℕ}
use mathlib.Core.Path.{◌≡◌, refl, sym, ◌∙◌, ap}
use mathlib.Core.Bool.{Bool, true, false, not, ◌&&◌, and-false}
use mathlib.Core.List.{List, [], ◌∷◌}
use native.Mathlib.Omega.{arith}
use lib.Dec.{eqb}
use borrow.Author.Tests.{eqb-true, eq-eqb, ne_eqb}
use Rattle.std.specs.Prelude.{if◌then◌else◌}
use Rattle.words.specs.Words.{is_empty, keep}
use Rattle.baos.specs.declared.datapoint.Datapoint.{Datapoint}
use Rattle.baos.specs.declared.lookup.Lookup.{Lookup}
use Rattle.baos.specs.declared.lookup.Lookup.TheVariants.{Absent, Closed, Open}
use Rattle.baos.specs.Datapoint.{datapoint_id}
use Rattle.baos.specs.Table.{found}
use Rattle.baos.specs.Lookup.{communicates, lookup_of, lookup_number, is_present}

-- no two findings have the same number
pub same_lookup : (a b : Lookup) → lookup_number a ≡ lookup_number b → a ≡ b
unfolding lookup_number
same_lookup Absent Absent e = refl
same_lookup Absent Closed e = absurd (omega (arith, e))
same_lookup Absent Open e = absurd (omega (arith, e))
same_lookup Closed Absent e = absurd (omega (arith, e))
same_lookup Closed Closed e = refl
same_lookup Closed Open e = absurd (omega (arith, e))
same_lookup Open Absent e = absurd (omega (arith, e))
same_lookup Open Closed e = absurd (omega (arith, e))
same_lookup Open Open e = refl

pub present_one : (d : Datapoint) (ds : List Datapoint) → is_present (lookup_of (d ∷ ds)) ≡ true
unfolding lookup_of is_present
present_one d ds = go (communicates d.flags)
  where
    go : (u : Bool) → is_present (if u then Open else Closed) ≡ true
    go true = refl
    go false = refl

pub present_some : (ds : List Datapoint) → is_present (lookup_of ds) ≡ not (is_empty ds)
present_some [] = unfold lookup_of is_present in refl
present_some (d ∷ ds) = present_one d ds

-- ---- at one record, which may be another ID's
module _ (id : ℕ) (d : Datapoint) where
  pub absent_at : (d.id ≡ id → ⊥) → lookup_of (found datapoint_id id (d ∷ [])) ≡ Absent
  unfolding found lookup_of
  absent_at n = simp (ne_eqb d.id id n)

  pub present_at : d.id ≡ id → lookup_of (found datapoint_id id (d ∷ [])) ≡ lookup_of (d ∷ [])
  unfolding found
  present_at e = simp (eq-eqb d.id id e)

-- ---- of the datapoints whose IDs pass a test, as those in a get's range, an ID is one where it passes and is present
pub present_kept : (p : ℕ → Bool) (id : ℕ) (ds : List Datapoint)
    → is_present (lookup_of (found datapoint_id id (keep (λ (d : Datapoint). p d.id) ds))) ≡ (p id && is_present (lookup_of (found datapoint_id id ds)))
unfolding found lookup_of is_present
present_kept p id [] = sym (and-false (p id))
present_kept p id (d ∷ ds) = go (eqb d.id id) (p d.id) refl refl (present_kept p id ds)
  where
    kept : List Datapoint
    kept = keep (λ (x : Datapoint). p x.id) ds

    go : (u w : Bool) → eqb d.id id ≡ u → p d.id ≡ w → is_present (lookup_of (found datapoint_id id kept)) ≡ (p id && is_present (lookup_of (found datapoint_id id ds)))
        → is_present (lookup_of (found datapoint_id id (if w then d ∷ kept else kept))) ≡ (p id && is_present (lookup_of (if u then d ∷ [] else found datapoint_id id ds)))
    go true true e q rest = rw (e, found) (present_one d [] ∙ sym (rw (ap p (sym (eqb-true d.id id e)) ∙ q) (present_one d [])))
    go true false e q rest = rest ∙ rw (ap p (sym (eqb-true d.id id e)) ∙ q) refl
    go false true e q rest = rw e rest
    go false false e q rest = rest
