-- How many bytes are in use, as the code tests it.
use Rattle.std.proofs.Common.{◌≡◌, ℕ, zero, suc, ◌≤◌, List, [], ◌∷◌, length, take, eqb, refl, arith, ne_eqb}
use Rattle.words.specs.Words.{is_empty}

pub empty_take : (n : ℕ) (a : List ℕ) → n ≤ length a → eqb n 0 ≡ is_empty (take n a)
empty_take zero a h = refl
empty_take (suc n) [] h = absurd (omega arith)
empty_take (suc n) (x ∷ a) h = ne_eqb (suc n) 0 (λ e. omega (arith, e))
