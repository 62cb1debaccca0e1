-- Two-byte numbers: the library's big-endian bytes are those of the paper.
use Rattle.std.proofs.Common.{◌≡◌, ℕ, ◌/◌, ◌%◌, ◌^◌, ◌<◌, [], ◌∷◌, ap, arith}
use Rattle.std.specs.Int.{w16, to_be_bytes}
use Rattle.words.specs.Words.{two_bytes}

pub two_big_endian : (n : ℕ) → n < 2 ^ 16 → to_be_bytes w16 n ≡ two_bytes n
two_big_endian n h = ap (λ (b : ℕ). b ∷ n % 256 ∷ []) {x = n / 256 ^ 1 % 256} {y = n / 256} (omega arith)
