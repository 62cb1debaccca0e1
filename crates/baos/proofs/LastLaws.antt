-- The last ID: what a range that starts at 65535 holds, and what a get of it finds. "The range is [..] worked out without wrapping".
use Prim.Native.Nat.{ℕ, ◌+◌, ◌≤◌, ◌<◌}
use mathlib.Core.Path.{◌≡◌, refl, ◌∙◌, ap}
use mathlib.Core.Bool.{Bool, true, false, ◌&&◌}
use mathlib.Core.List.{List, [], ◌∷◌, map}
use native.Mathlib.Omega.{arith}
use native.Mathlib.Decide.{ℕ_discrete}
use lib.Dec.{T, leb, ltb, eqb, ltb→lt}
use borrow.Author.Tests.{le-leb, lt-leb, lt-ltb, eq-eqb, ne_eqb, eqb-true}
use Rattle.std.specs.Prelude.{if◌then◌else◌}
use Rattle.words.specs.Words.{keep, every}
use Rattle.words.proofs.WordLaws.{left, right}
use Rattle.baos.specs.Table.{rising, found}
use Rattle.baos.specs.Message.{start_of, number_of}
use Rattle.baos.specs.Get.{in_request}

-- of the IDs of two bytes it holds 65535 alone, and it holds that
pub last_in_request : (m : List ℕ) (n : ℕ) → start_of m ≡ 0xFFFF → 1 ≤ number_of m → n < 0x1_0000 → in_request m n ≡ eqb n 0xFFFF
unfolding in_request
last_in_request m n s k h = go (ℕ_discrete n 0xFFFF)
  where
    go : Dec (n ≡ 0xFFFF) → (leb (start_of m) n && ltb n (start_of m + number_of m)) ≡ eqb n 0xFFFF
    go (yes e) = simp (le-leb (start_of m) n (omega (arith, s, e)), lt-ltb n (start_of m + number_of m) (omega (arith, s, e, k)), eq-eqb n 0xFFFF e)
    go (no d) = simp (lt-leb (start_of m) n (below d), ne_eqb n 0xFFFF d)
      where
        below : (n ≡ 0xFFFF → ⊥) → n < start_of m
        below d = omega (arith, s, h, d)

-- two tests that agree keep the same
pub keep_same : {A : Type 0} (p q b : A → Bool) → ((x : A) → T (b x) → p x ≡ q x) → (xs : List A) → T (every b xs) → keep p xs ≡ keep q xs
keep_same p q b h [] t = refl
keep_same {A} p q b h (x ∷ xs) t =
    ap (λ (u : Bool). if u then x ∷ keep p xs else keep p xs) (h x (left (b x) (every b xs) t))
    ∙ ap (λ (r : List A). if q x then x ∷ r else r) (keep_same p q b h xs (right (b x) (every b xs) t))

-- two tests at once, or one behind the other
pub keep-both : {A : Type 0} (p q : A → Bool) (xs : List A) → keep (λ x. p x && q x) xs ≡ keep q (keep p xs)
keep-both p q [] = refl
keep-both {A} p q (x ∷ xs) = go (p x) (q x) refl refl (keep-both p q xs)
  where
    go : (u v : Bool) → p x ≡ u → q x ≡ v → keep (λ (y : A). p y && q y) xs ≡ keep q (keep p xs) → keep (λ (y : A). p y && q y) (x ∷ xs) ≡ keep q (keep p (x ∷ xs))
    go true true e f ih = simp (e, f) (ap {B = List A} (λ (r : List A). x ∷ r) ih)
    go true false e f ih = simp (e, f) ih
    go false v e f ih = simp e ih

-- where IDs rise, those with one ID are what is found of it
module _ {A : Type 0} (id_of : A → ℕ) (n : ℕ) where
  abbrev is_of : A → Bool
  is_of x = eqb (id_of x) n

  none_above : (last : ℕ) (xs : List A) → n ≤ last → T (rising last (map id_of xs)) → keep is_of xs ≡ []
  unfolding rising
  none_above last [] l t = refl
  none_above last (x ∷ xs) l t =
      let above : last < id_of x = ltb→lt last (id_of x) (left (ltb last (id_of x)) (rising (id_of x) (map id_of xs)) t) in
      simp (ne_eqb (id_of x) n (λ e. omega (arith, e, l, above))) (none_above (id_of x) xs (omega (arith, l, above)) (right (ltb last (id_of x)) (rising (id_of x) (map id_of xs)) t))

  pub keep-found : (last : ℕ) (xs : List A) → T (rising last (map id_of xs)) → keep is_of xs ≡ found id_of n xs
  unfolding rising found
  keep-found last [] t = refl
  keep-found last (x ∷ xs) t =
      let rest : T (rising (id_of x) (map id_of xs)) = right (ltb last (id_of x)) (rising (id_of x) (map id_of xs)) t in
      go (eqb (id_of x) n) refl rest (keep-found (id_of x) xs rest)
    where
      go : (u : Bool) → eqb (id_of x) n ≡ u → T (rising (id_of x) (map id_of xs)) → keep is_of xs ≡ found id_of n xs
          → (if u then x ∷ keep is_of xs else keep is_of xs) ≡ (if u then x ∷ [] else found id_of n xs)
      go true e rest ih = ap {B = List A} (λ (r : List A). x ∷ r) (none_above (id_of x) xs (omega (arith, eqb-true (id_of x) n e)) rest)
      go false e rest ih = ih
