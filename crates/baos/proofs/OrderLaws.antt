-- Entries of sets one after the other: one that was applied changes no verdict, and those of different IDs leave the same
-- in either order.
use Prim.Native.Nat.{ℕ}
use mathlib.Core.Path.{◌≡◌, refl, sym, ◌∙◌, ap}
use mathlib.Core.Bool.{Bool, true, false, not}
use mathlib.Core.List.{List, [], ◌∷◌}
use lib.Dec.{T, eqb}
use borrow.Author.Tests.{eqb-true, eqb-false}
use Rattle.walks.proofs.Branches.{no_T}
use Rattle.std.specs.Prelude.{if◌then◌else◌}
use Rattle.words.specs.Words.{every}
use Rattle.words.proofs.WordLaws.{left, right}
use Rattle.baos.specs.declared.datapoint.Datapoint.{Datapoint}
use Rattle.baos.specs.declared.item.Item.{Item}
use Rattle.baos.specs.Item.{with_bytes}
use Rattle.baos.specs.Lookup.{lookup_of}
use Rattle.baos.specs.Table.{found, changed_at}
use Rattle.baos.specs.Set.{SetEntry, item_code, datapoint_code, judged_item, judged_datapoint, first_bad, applied, set_item, set_datapoint}
use Rattle.baos.proofs.DatapointLaws as DatapointLaws
use Rattle.baos.proofs.TableLaws.{id_stays}

-- what judges alike finds the same
pub first_same : (j k : SetEntry → ℕ) → ((e : SetEntry) → j e ≡ k e) → (es : List SetEntry) → first_bad j es ≡ first_bad k es
unfolding first_bad
first_same j k same [] = refl
first_same j k same (x ∷ es) = rw (same x, first_same j k same es)

module _ {A : Type 0} (id_of : A → ℕ) (f : SetEntry → A → A) (keeps-id : (e : SetEntry) (x : A) → id_of (f e x) ≡ id_of x) where
  abbrev one : SetEntry → A → A
  one e x = if eqb (id_of x) e.id then f e x else x

  -- ---- no verdict changes
  module _ (code : List A → SetEntry → ℕ) (keeps-code : (e p : SetEntry) (x : A) → code (f e x ∷ []) p ≡ code (x ∷ []) p) where
    one_code : (e p : SetEntry) (x : A) → code (one e x ∷ []) p ≡ code (x ∷ []) p
    one_code e p x = go (eqb (id_of x) e.id)
      where
        go : (u : Bool) → code ((if u then f e x else x) ∷ []) p ≡ code (x ∷ []) p
        go true = keeps-code e p x
        go false = refl

    changed_code : (e p : SetEntry) (xs : List A) → code (found id_of p.id (changed_at id_of e.id (f e) xs)) p ≡ code (found id_of p.id xs) p
    unfolding found changed_at
    changed_code e p [] = refl
    changed_code e p (x ∷ xs) = go (eqb (id_of x) p.id) refl (changed_code e p xs)
      where
        go : (u : Bool) → eqb (id_of x) p.id ≡ u → code (found id_of p.id (changed_at id_of e.id (f e) xs)) p ≡ code (found id_of p.id xs) p
            → code (found id_of p.id (changed_at id_of e.id (f e) (x ∷ xs))) p ≡ code (found id_of p.id (x ∷ xs)) p
        go true q r = rw (id_stays id_of e.id (f e) (keeps-id e) x) (simp q (one_code e p x))
        go false q r = rw (id_stays id_of e.id (f e) (keeps-id e) x) (simp q r)

    pub applied_code : (es : List SetEntry) (p : SetEntry) (xs : List A) → code (found id_of p.id (applied id_of f es xs)) p ≡ code (found id_of p.id xs) p
    unfolding applied
    applied_code [] p xs = refl
    applied_code (e ∷ es) p xs = applied_code es p (changed_at id_of e.id (f e) xs) ∙ changed_code e p xs

  -- ---- different IDs
  one_swap : (e p : SetEntry) → eqb e.id p.id ≡ false → (x : A) → one e (one p x) ≡ one p (one e x)
  one_swap e p d x = go (eqb (id_of x) e.id) (eqb (id_of x) p.id) refl refl
    where
      go : (u v : Bool) → eqb (id_of x) e.id ≡ u → eqb (id_of x) p.id ≡ v → one e (one p x) ≡ one p (one e x)
      go true true a b = absurd (eqb-false e.id p.id d (sym (eqb-true (id_of x) e.id a) ∙ eqb-true (id_of x) p.id b))
      go true false a b = simp (a, b) (rw (keeps-id e x) (simp b))
      go false true a b = simp (a, b) (rw (keeps-id p x) (simp a))
      go false false a b = simp (a, b)

  changed_swap : (e p : SetEntry) → eqb e.id p.id ≡ false → (xs : List A)
      → changed_at id_of e.id (f e) (changed_at id_of p.id (f p) xs) ≡ changed_at id_of p.id (f p) (changed_at id_of e.id (f e) xs)
  unfolding changed_at
  changed_swap e p d [] = refl
  changed_swap e p d (x ∷ xs) = let a = one_swap e p d x in let r = changed_swap e p d xs in λ i. a i ∷ r i

  abbrev other : SetEntry → SetEntry → Bool
  other e p = not (eqb e.id p.id)

  past : (e : SetEntry) (fs : List SetEntry) → T (every (other e) fs) → (xs : List A) → applied id_of f fs (changed_at id_of e.id (f e) xs) ≡ changed_at id_of e.id (f e) (applied id_of f fs xs)
  unfolding applied
  past e [] d xs = refl
  past e (p ∷ fs) d xs =
      ap (applied id_of f fs) (sym (changed_swap e p (no_T (eqb e.id p.id) (left (other e p) (every (other e) fs) d)) xs))
      ∙ past e fs (right (other e p) (every (other e) fs) d) (changed_at id_of p.id (f p) xs)

  pub either_order : (es fs : List SetEntry) → T (every (λ (e : SetEntry). every (other e) fs) es) → (xs : List A) → applied id_of f fs (applied id_of f es xs) ≡ applied id_of f es (applied id_of f fs xs)
  unfolding applied
  either_order [] fs d xs = refl
  either_order (e ∷ es) fs d xs =
      either_order es fs (right (every (other e) fs) (every (λ (y : SetEntry). every (other y) fs) es) d) (changed_at id_of e.id (f e) xs)
      ∙ ap (applied id_of f es) (past e fs (left (every (other e) fs) (every (λ (y : SetEntry). every (other y) fs) es) d) xs)

-- ---- what an item's and a datapoint's entry is judged by, no entry changes
pub item_code_stays : (e p : SetEntry) (i : Item) → judged_item (set_item e i ∷ []) p ≡ judged_item (i ∷ []) p
unfolding set_item with_bytes judged_item item_code
item_code_stays e p i = refl

pub datapoint_code_stays : (e p : SetEntry) (d : Datapoint) → judged_datapoint (set_datapoint e d ∷ []) p ≡ judged_datapoint (d ∷ []) p
unfolding set_datapoint judged_datapoint datapoint_code lookup_of
datapoint_code_stays e p d = rw ((DatapointLaws.command_same e.command e.value d).typecode, (DatapointLaws.command_same e.command e.value d).flags)
