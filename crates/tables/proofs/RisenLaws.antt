-- The test of a table whose first records are read one by one.
use Rattle.std.proofs.Common.{◌≡◌, ℕ, suc, ◌<◌, ◌≤◌, Bool, true, false, ◌&&◌, List, [], ◌∷◌, length, get_or, drop, refl, sym, ap, ◌∙◌, arith, drop-cons}
use Rattle.baos.proofs.RisenLaws.{fits_after, risen}

-- four parts at once, or one behind the other
four : (p q s t r : Bool) → (p && (q && (s && t))) && r ≡ p && (q && (s && (t && r)))
four true true true t r = refl
four true true false t r = refl
four true false s t r = refl
four false q s t r = refl

module _ {A : Type 0} (id_of : A → ℕ) (ok : A → Bool) (last : ℕ) where
  -- the record of the turn
  pub one_left : (xs : List A) (i : ℕ) (a : A) → i < length xs → a ≡ get_or xs i a → fits_after id_of ok a last && risen id_of ok (id_of a) (drop (suc i) xs) ≡ risen id_of ok last (drop i xs)
  one_left xs i a l e = sym (ap (risen id_of ok last) (drop-cons xs i a l ∙ ap (λ (x : A). x ∷ drop (suc i) xs) (sym e)))

  -- the four of the turn, which are the first of those that are left
  pub four_left : (xs : List A) (a b c d : A) → 4 ≤ length xs → a ≡ get_or xs 0 a → b ≡ get_or xs 1 b → c ≡ get_or xs 2 c → d ≡ get_or xs 3 d
      → (fits_after id_of ok a last && (fits_after id_of ok b (id_of a) && (fits_after id_of ok c (id_of b) && fits_after id_of ok d (id_of c))))
      && risen id_of ok (id_of d) (drop 4 xs) ≡ risen id_of ok last xs
  four_left [] a b c d l e f g h = absurd (omega (arith, l))
  four_left (w ∷ []) a b c d l e f g h = absurd (omega (arith, l))
  four_left (w ∷ x ∷ []) a b c d l e f g h = absurd (omega (arith, l))
  four_left (w ∷ x ∷ y ∷ []) a b c d l e f g h = absurd (omega (arith, l))
  four_left (w ∷ x ∷ y ∷ z ∷ xs) a b c d l e f g h =
      rw (e, f, g, h) (four (fits_after id_of ok w last) (fits_after id_of ok x (id_of w)) (fits_after id_of ok y (id_of x)) (fits_after id_of ok z (id_of y)) (risen id_of ok (id_of z) xs))
