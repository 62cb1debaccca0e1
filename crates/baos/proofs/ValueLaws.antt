-- Laws of a value by its type code: its size, the limit of its first byte, its test.
use Prim.Native.Nat.{ℕ, zero, suc, ◌+◌, ◌*◌, ◌^◌, ◌≤◌, ◌<◌}
use mathlib.Core.Path.{◌≡◌, refl, sym, ◌∙◌, ap, subst}
use mathlib.Core.Bool.{Bool, true, false, ◌&&◌}
use mathlib.Core.Logic.{◌⊎◌, inl, inr}
use mathlib.Core.List.{List, [], ◌∷◌}
use native.Mathlib.Omega.{arith}
use native.Mathlib.Nat.{not-suc-le-zero, eq-or-lt_of_le, lt_irrefl}
use lib.ListN.{length, get_or}
use lib.Dec.{T, ltb, eqb, eqb→eq}
use lib.Pow.{pow-add, pow_mono, pow_pos}
use borrow.Author.Tests.{lt-ltb, le-ltb, ne_eqb, ltb-true, ltb-false}
use Rattle.std.specs.Prelude.{if◌then◌else◌}
use Rattle.words.proofs.WordLaws.{left, right}
use Rattle.baos.specs.Datapoint.{size_of, limit_of, unused_bits_ok}

-- ---- what a match tells
-- what its last arm knows, where the arms before it are the numbers from a on, n of them
abbrev pub Others : ℕ → ℕ → ℕ → Type 0
Others a zero k = Unit
Others a (suc n) k = Others a n k × (k ≡ a + n → ⊥)

beyond : (a n k : ℕ) → a ≤ k → Others a n k → a + n ≤ k
beyond a zero k h o = omega arith
beyond a (suc n) k h o = elim (eq-or-lt_of_le (beyond a n k h o.0)) [ inl e ↦ absurd (o.1 (sym e)) | inr u ↦ omega (arith, u) ]

pub exhausted : (a n k : ℕ) → a ≤ k → Others a (suc n) k → k ≤ a + n → ⊥
exhausted a n k h o m = let b = beyond a (suc n) k h o in lt_irrefl k (omega arith)

-- ---- a fact of each number below n, computed once
abbrev pub upto : (ℕ → Bool) → ℕ → Bool
upto f zero = true
upto f (suc n) = f n && upto f n

at_or_below : (a b : ℕ) → a < suc b → (a < b) ⊎ (a ≡ b)
at_or_below a b l = by_test (ltb a b) refl
  where
    by_test : (y : Bool) → ltb a b ≡ y → (a < b) ⊎ (a ≡ b)
    by_test true e = inl (ltb-true a b e)
    by_test false e = inr (omega (arith, ltb-false a b e))

tested : (f : ℕ → Bool) (n k : ℕ) → T (upto f n) → k < n → T (f k)
tested f zero k t l = absurd (not-suc-le-zero l)
tested f (suc n) k t l = elim (at_or_below k n l) [ inl u ↦ tested f n k (right (f n) (upto f n) t) u | inr e ↦ subst (λ (x : ℕ). T (f x)) (sym e) (left (f n) (upto f n) t) ]

-- ---- the size
pub size_of_bits : (k : ℕ) → k < 8 → size_of k ≡ 1
unfolding size_of
size_of_bits k h = simp (lt-ltb k 8 h)

pub size_of_none : (k : ℕ) → 15 ≤ k → size_of k ≡ 0
unfolding size_of
size_of_none k h = simp (le-ltb k 8 (omega arith), le-ltb k 11 (omega arith), le-ltb k 14 (omega arith), ne_eqb k 14 (λ e. omega (arith, e)))

-- a fact of a code's size: computed for the codes that have one, and shown for the others
pub each_size : (f : ℕ → ℕ → Bool) → T (upto (λ k. f k (size_of k)) 15) → ((k : ℕ) → 15 ≤ k → T (f k 0)) → (k : ℕ) → T (f k (size_of k))
each_size f t none k = by_test (ltb k 15) refl
  where
    by_test : (b : Bool) → ltb k 15 ≡ b → T (f k (size_of k))
    by_test true e = tested (λ i. f i (size_of i)) 15 k t (ltb-true k 15 e)
    by_test false e = subst (λ (n : ℕ). T (f k n)) (sym (size_of_none k (ltb-false k 15 e))) (none k (ltb-false k 15 e))

-- the list of sizes that document 01 gives, by type code
abbrev pub listed : List ℕ
listed = 1 ∷ 1 ∷ 1 ∷ 1 ∷ 1 ∷ 1 ∷ 1 ∷ 1 ∷ 2 ∷ 3 ∷ 4 ∷ 6 ∷ 8 ∷ 10 ∷ 14 ∷ []

past_end : (xs : List ℕ) (k : ℕ) → length xs ≤ k → get_or xs k 0 ≡ 0
past_end [] k h = refl
past_end (x ∷ xs) zero h = absurd (not-suc-le-zero h)
past_end (x ∷ xs) (suc k) h = past_end xs k (omega arith)

-- the rule gives the list, and 0 behind it: no size moved when the rule came in its place
pub sizes_listed : (k : ℕ) → size_of k ≡ get_or listed k 0
unfolding size_of
sizes_listed k = eqb→eq (size_of k) (get_or listed k 0) (each_size (λ k n. eqb n (get_or listed k 0)) tt (λ k h. subst (λ (n : ℕ). T (eqb 0 n)) (sym (past_end listed k h)) tt) k)

-- ---- the limit
pub limit_of_whole : (k : ℕ) → 7 ≤ k → limit_of k ≡ 256
unfolding limit_of
limit_of_whole k h = simp (le-ltb k 7 h)

-- a byte against it, by the code alone: from code 7 on twice the power is beyond every byte
pub below_limit : (k v : ℕ) → v < 256 → ltb v (2 * 2 ^ k) ≡ ltb v (limit_of k)
unfolding limit_of
below_limit k v b = go (ltb k 7) refl
  where
    go : (t : Bool) → ltb k 7 ≡ t → ltb v (2 * 2 ^ k) ≡ ltb v (if ltb k 7 then 2 ^ (k + 1) else 256)
    go true e = simp (e, pow-add 2 k 1) (ap (ltb v) (omega arith))
    go false e = simp e (lt-ltb v (2 * 2 ^ k) (omega (arith, b, pow_mono {i = 7} {j = k} (ltb-false k 7 e))) ∙ sym (lt-ltb v 256 b))

limit_positive : (k : ℕ) → 0 < limit_of k
unfolding limit_of
limit_positive k = go (ltb k 7)
  where
    go : (b : Bool) → 0 < (if b then 2 ^ (k + 1) else 256)
    go true = pow_pos (k + 1)
    go false = omega arith

-- ---- the test
pub none_unused : (k : ℕ) (v : List ℕ) → length v ≡ 0 → unused_bits_ok k v ≡ true
unfolding unused_bits_ok
none_unused k [] e = lt-ltb 0 (limit_of k) (limit_positive k)
none_unused k (x ∷ v) e = absurd (omega arith)
