-- The test of a table as one recursion, record by record, as the loops go. One set of laws for items and datapoints.
use mathlib.Core.Path.{◌≡◌, refl, sym, ◌∙◌, ap}
use Prim.Native.Nat.{ℕ, suc, ◌<◌, ◌≤◌, ◌+◌}
use native.Mathlib.Omega.{arith}
use mathlib.Core.Bool.{Bool, true, false, not, ◌&&◌}
use mathlib.Core.List.{List, [], ◌∷◌, map}
use lib.ListN.{length, get_or, drop, drop_of_length-le}
use lib.Dec.{T, ltb}
use borrow.Author.Tests.{le-leb, lt-leb}
use Rattle.words.specs.Words.{every}
use Rattle.baos.specs.Table.{rising, table_ok}
use Rattle.walks.proofs.Loops.{drop_step}

swap : (a r p s : Bool) → (a && r) && (p && s) ≡ (a && p) && (r && s)
swap true true true s = refl
swap true true false s = refl
swap true false true s = refl
swap true false false s = refl
swap false r p s = refl

-- four parts at once, or one behind the other
four : (p q s t r : Bool) → (p && (q && (s && t))) && r ≡ p && (q && (s && (t && r)))
four true true true t r = refl
four true true false t r = refl
four true false s t r = refl
four false q s t r = refl

-- what is left of a test once its first part is known
pub stops : (y s r : Bool) → T (not y) → y && s ≡ r → false ≡ r
stops true s r t e = absurd t
stops false s r t e = e

pub goes_on : (y s r : Bool) → T (not (not y)) → y && s ≡ r → s ≡ r
goes_on true s r t e = e
goes_on false s r t e = absurd t

twice : (y : Bool) → not (not y) ≡ y
twice true = refl
twice false = refl

-- the answer y of a test, turned round
pub turned : {p y b : Bool} → y ≡ p → not y ≡ b → p ≡ not b
turned {y = y} e n = sym e ∙ sym (twice y) ∙ ap not n

-- a test of several parts, part by part, where y was the part's answer: it fails, or it holds and the rest decides
pub stops_at : {p y : Bool} (s : Bool) → y ≡ p → not y ≡ true → false ≡ p && s
stops_at s e fails = sym (ap (λ (z : Bool). z && s) (turned e fails))

pub and_also : {p y s r : Bool} → y ≡ p → not y ≡ false → r ≡ s → r ≡ p && s
and_also {s = s} e holds rest = rest ∙ sym (ap (λ (z : Bool). z && s) (turned e holds))

module _ {A : Type 0} (id_of : A → ℕ) (ok : A → Bool) where
  -- the record may stand behind one with the ID `last`
  abbrev pub fits_after : A → ℕ → Bool
  fits_after x last = ltb last (id_of x) && ok x

  abbrev pub risen : ℕ → List A → Bool
  risen last [] = true
  risen last (x ∷ xs) = fits_after x last && risen (id_of x) xs

  risen_is : (xs : List A) (last : ℕ) → rising last (map id_of xs) && every ok xs ≡ risen last xs
  unfolding rising
  risen_is [] last = refl
  risen_is (x ∷ xs) last = swap (ltb last (id_of x)) (rising (id_of x) (map id_of xs)) (ok x) (every ok xs) ∙ ap (λ (y : Bool). fits_after x last && y) (risen_is xs (id_of x))

  pub table_is : (most : ℕ) (xs : List A) → length xs ≤ most → table_ok most id_of ok xs ≡ risen 0 xs
  unfolding table_ok
  table_is most xs l = ap (λ (y : Bool). (y && rising 0 (map id_of xs)) && every ok xs) (le-leb (length xs) most l) ∙ risen_is xs 0

  pub too_many : (most : ℕ) (xs : List A) → most < length xs → false ≡ table_ok most id_of ok xs
  unfolding table_ok
  too_many most xs l = ap (λ (y : Bool). (y && rising 0 (map id_of xs)) && every ok xs) (sym (lt-leb (length xs) most l))

  -- ---- where the loop stands: i records are passed, and `last` is the ID of the one before
  pub here : (zero : A) (xs : List A) (last i : ℕ) → i < length xs → risen last (drop i xs) ≡ risen 0 xs
      → fits_after (get_or xs i zero) last && risen (id_of (get_or xs i zero)) (drop (suc i) xs) ≡ risen 0 xs
  here zero xs last i l e = sym (ap (risen last) (drop_step xs i zero l)) ∙ e

  -- the same, for four records a turn
  drop_four : (zero : A) (xs : List A) (i : ℕ) → i + 3 < length xs → drop i xs ≡ get_or xs i zero ∷ get_or xs (i + 1) zero ∷ get_or xs (i + 2) zero ∷ get_or xs (i + 3) zero ∷ drop (i + 4) xs
  drop_four zero xs i l = at i (i + 1) (omega (arith, l)) (omega arith) (at (i + 1) (i + 2) (omega (arith, l)) (omega arith) (at (i + 2) (i + 3) (omega (arith, l)) (omega arith) (at (i + 3) (i + 4) l (omega arith) refl)))
    where
      at : (j k : ℕ) → j < length xs → k ≡ suc j → {ys : List A} → drop k xs ≡ ys → drop j xs ≡ get_or xs j zero ∷ ys
      at j k m e r = drop_step xs j zero m ∙ ap (λ (zs : List A). get_or xs j zero ∷ zs) (ap (λ (u : ℕ). drop u xs) (sym e) ∙ r)

  pub four_here : (zero : A) (xs : List A) (last i : ℕ) → i + 3 < length xs → risen last (drop i xs) ≡ risen 0 xs
      → (fits_after (get_or xs i zero) last && (fits_after (get_or xs (i + 1) zero) (id_of (get_or xs i zero)) && (fits_after (get_or xs (i + 2) zero) (id_of (get_or xs (i + 1) zero)) && fits_after (get_or xs (i + 3) zero) (id_of (get_or xs (i + 2) zero)))))
      && risen (id_of (get_or xs (i + 3) zero)) (drop (i + 4) xs)
      ≡ risen 0 xs
  four_here zero xs last i l e = four (fits_after (get_or xs i zero) last) (fits_after (get_or xs (i + 1) zero) (id_of (get_or xs i zero))) (fits_after (get_or xs (i + 2) zero) (id_of (get_or xs (i + 1) zero))) (fits_after (get_or xs (i + 3) zero) (id_of (get_or xs (i + 2) zero))) (risen (id_of (get_or xs (i + 3) zero)) (drop (i + 4) xs))
      ∙ sym (ap (risen last) (drop_four zero xs i l)) ∙ e

  pub at_end : (xs : List A) (last i : ℕ) → length xs ≤ i → risen last (drop i xs) ≡ risen 0 xs → true ≡ risen 0 xs
  at_end xs last i l e = sym (ap (risen last) (drop_of_length-le xs l)) ∙ e
