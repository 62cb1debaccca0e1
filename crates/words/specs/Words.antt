-- Words that all definitions share: two-byte numbers, padding, tests on lists. The library's own tests on
-- lists do not compute (`all`) or ask for proofs (`filter`), so these have names of their own.
use Rattle.std.specs.Prelude.{if◌then◌else◌, cond, ℕ, ◌+◌, ◌-◌, ◌*◌, ◌/◌, ◌%◌, ◌≤◌, ◌≡◌, Bool, true, false, ◌&&◌, List, [], ◌∷◌, ◌++◌, length, get_or, take, drop, replicate, leb, ltb, eqb}

-- "Numbers of two bytes are big-endian."
abbrev pub two_bytes : ℕ → List ℕ
two_bytes n = n / 256 ∷ n % 256 ∷ []

abbrev pub of_two_bytes : ℕ → ℕ → ℕ
of_two_bytes high low = high * 256 + low

-- A two-valued thing in lent memory is a byte, 0 or 1: whether it is one of the two, whether it says yes, and how it is
-- written.
abbrev pub is_yes_or_no : ℕ → Bool
is_yes_or_no b = ltb b 2

abbrev pub is_yes : ℕ → Bool
is_yes b = eqb b 1

abbrev pub yes_or_no : Bool → ℕ
yes_or_no said = if said then 1 else 0

-- the bytes s in an array of n places, with 0 behind them
abbrev pub pad : ℕ → List ℕ → List ℕ
pad n s = s ++ replicate (n - length s) 0

-- the buffer l with vs written over what stands from place `at` on, and as it was to its end
unfoldable pub put : List ℕ → ℕ → List ℕ → List ℕ
put l at vs = take at l ++ vs ++ drop (at + length vs) l

abbrev pub is_empty {ℓ} : {A : Type ℓ} → List A → Bool
is_empty [] = true
is_empty (x ∷ xs) = false

-- each element passes the test
abbrev pub every {ℓ} : {A : Type ℓ} → (A → Bool) → List A → Bool
every p [] = true
every p (x ∷ xs) = p x && every p xs

-- the elements that pass the test, in their order
abbrev pub keep {ℓ} : {A : Type ℓ} → (A → Bool) → List A → List A
keep p [] = []
keep p (x ∷ xs) = let rest = keep p xs in cond (p x) (x ∷ rest) rest

-- the two lists are the same, by a test of their elements
abbrev pub same_by {ℓ} : {A : Type ℓ} → (A → A → Bool) → List A → List A → Bool
same_by eq [] [] = true
same_by eq [] (y ∷ ys) = false
same_by eq (x ∷ xs) [] = false
same_by eq (x ∷ xs) (y ∷ ys) = eq x y && same_by eq xs ys

abbrev pub same : List ℕ → List ℕ → Bool
same = same_by eqb

unfoldable pub are_zero : List ℕ → Bool
are_zero s = every (λ x. eqb x 0) s

-- the array a of so many places has n bytes in use, and its unused bytes are 0
unfoldable pub is_padded : ℕ → ℕ → List ℕ → Bool
is_padded places n a = eqb (length a) places && leb n places && are_zero (drop n a)

-- the same as a statement
pub record Padded (places n : ℕ) (a : List ℕ) : Type 0 where
  pub memory : length a ≡ places
  pub within : n ≤ places
  pub unused : (i : ℕ) → n ≤ i → get_or a i 0 ≡ 0

-- every number is a byte
unfoldable pub are_bytes : List ℕ → Bool
are_bytes s = every (λ x. ltb x 256) s
