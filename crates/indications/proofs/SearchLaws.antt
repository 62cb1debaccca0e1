-- The laws of the search for a mark, of a record as the code reads it: z is what it reads where no record stands.
use Rattle.std.proofs.Common.{ℕ, ◌+◌, ◌<◌, ◌≡◌, sym, ◌∙◌, ap, not, List, length, get_or, T, eq-eqb, ne_eqb}
use Rattle.std.proofs.lemmas.List.{get_or_default}
use Rattle.words.proofs.WordLaws.{true_T}
use Rattle.baos.specs.declared.datapoint.Datapoint.{Datapoint}
use Rattle.baos.specs.Datapoint.{zero_datapoint}
use Rattle.baos.specs.Inner.Gather.{first_marked}
use Rattle.baos.proofs.MarkLaws.{marked_at, SearchedTo, searched_other, searched_here}

module _ (xs : List Datapoint) (z : Datapoint) (i : ℕ) (l : i < length xs) where
  abbrev read : Datapoint
  read = get_or xs i z

  same_mark : (get_or xs i zero_datapoint).mark ≡ read.mark
  same_mark = ap (λ (d : Datapoint). d.mark) (get_or_default xs i zero_datapoint z l)

  pub marked : read.mark ≡ 1 → T (marked_at xs i)
  marked e = true_T (eq-eqb (get_or xs i zero_datapoint).mark 1 (same_mark ∙ e))

  pub unmarked : (read.mark ≡ 1 → ⊥) → T (not (marked_at xs i))
  unmarked n = true_T (ap not (ne_eqb (get_or xs i zero_datapoint).mark 1 (λ e. n (sym same_mark ∙ e))))

  pub found : read.mark ≡ 1 → SearchedTo xs i → i ≡ first_marked xs
  found e p = searched_here xs i l (marked e) p

  pub passed : (read.mark ≡ 1 → ⊥) → (j : ℕ) → j ≡ i + 1 → SearchedTo xs i → SearchedTo xs j
  passed n j e p = searched_other xs i j e l (unmarked n) p
