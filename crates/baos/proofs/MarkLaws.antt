-- Where the first marked datapoint stands, record by record as a search goes.
use Prim.Native.Nat.{ℕ, zero, suc, ◌+◌, ◌<◌, ◌≤◌}
use mathlib.Core.Path.{◌≡◌, refl, ◌∙◌, ap, subst}
use mathlib.Core.Bool.{Bool, true, false, not}
use mathlib.Core.List.{List}
use native.Mathlib.Omega.{arith}
use lib.ListN.{length, get_or, drop, drop_of_length-le}
use lib.Dec.{T, ltb}
use borrow.Author.Tests.{ltb-true, ltb-false}
use Rattle.words.specs.Words.{is_yes}
use Rattle.words.proofs.WordLaws.{T_true}
use Rattle.walks.proofs.Branches.{no_T}
use Rattle.baos.specs.declared.datapoint.Datapoint.{Datapoint}
use Rattle.baos.specs.Datapoint.{zero_datapoint}
use Rattle.baos.specs.Inner.Gather.{first_marked}
use Rattle.baos.proofs.PassLaws.{drop-next}

module _ (xs : List Datapoint) where
  abbrev pub marked_at : ℕ → Bool
  marked_at i = is_yes (get_or xs i zero_datapoint).mark

  unmarked_end : (i : ℕ) → length xs ≤ i → first_marked (drop i xs) ≡ 0
  unfolding first_marked
  unmarked_end i l = ap first_marked (drop_of_length-le xs l)

  unmarked_here : (i : ℕ) → i < length xs → marked_at i ≡ true → first_marked (drop i xs) ≡ 0
  unfolding first_marked
  unmarked_here i l e = ap first_marked (drop-next xs i zero_datapoint l) ∙ simp e

  unmarked-next : (i : ℕ) → i < length xs → marked_at i ≡ false → first_marked (drop i xs) ≡ 1 + first_marked (drop (i + 1) xs)
  unfolding first_marked
  unmarked-next i l e = ap first_marked (drop-next xs i zero_datapoint l) ∙ simp e

  -- where some stand in front of the first marked one from i on, there is a record, and it is not marked
  some_left : (i k : ℕ) → first_marked (drop i xs) ≡ suc k → i < length xs
  some_left i k e = go (ltb i (length xs)) refl
    where
      go : (b : Bool) → ltb i (length xs) ≡ b → i < length xs
      go true h = ltb-true i (length xs) h
      go false h = absurd (omega (arith, e, unmarked_end i (ltb-false i (length xs) h)))

  is_unmarked : (i k : ℕ) → first_marked (drop i xs) ≡ suc k → T (not (marked_at i))
  is_unmarked i k e = go (marked_at i) refl
    where
      go : (b : Bool) → marked_at i ≡ b → T (not b)
      go true h = absurd (omega (arith, e, unmarked_here i (some_left i k e) h))
      go false h = tt

  -- ---- what holds at a place, and goes on over a record that is not marked, holds at the first marked one or at the end
  module _ (P : ℕ → Type 0) (on : (i : ℕ) → i < length xs → T (not (marked_at i)) → P i → P (i + 1)) where
    over : (k i : ℕ) → first_marked (drop i xs) ≡ k → P i → P (i + k)
    over zero i e p = subst P {x = i} {y = i + 0} (omega arith) p
    over (suc k) i e p =
        let l : i < length xs = some_left i k e in
        let u : T (not (marked_at i)) = is_unmarked i k e in
        subst P {x = i + 1 + k} {y = i + suc k} (omega arith) (over k (i + 1) (omega (arith, e, unmarked-next i l (no_T (marked_at i) u))) (on i l u p))

    pub over_unmarked : P 0 → P (first_marked xs)
    over_unmarked p = subst P {x = 0 + first_marked xs} {y = first_marked xs} (omega arith) (over (first_marked xs) 0 refl p)

  -- ---- a search: it has come to i, and none that it passed is marked
  abbrev pub SearchedTo : ℕ → Type 0
  SearchedTo i = i + first_marked (drop i xs) ≡ first_marked xs

  pub searched_none : SearchedTo 0
  searched_none = omega arith

  pub searched_other : (i j : ℕ) → j ≡ i + 1 → i < length xs → T (not (marked_at i)) → SearchedTo i → SearchedTo j
  searched_other i j e l u p = omega (arith, e, p, unmarked-next i l (no_T (marked_at i) u), ap (λ (k : ℕ). first_marked (drop k xs)) e)

  pub searched_here : (i : ℕ) → i < length xs → T (marked_at i) → SearchedTo i → i ≡ first_marked xs
  searched_here i l m p = omega (arith, p, unmarked_here i l (T_true (marked_at i) m))

  pub searched_all : (i : ℕ) → length xs ≤ i → SearchedTo i → i ≡ first_marked xs
  searched_all i l p = omega (arith, p, unmarked_end i l)
