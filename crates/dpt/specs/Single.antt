-- DPT 14, a single: four octets that are a number of 32-bit floating point by its bits (document 02, item 3).
use Rattle.std.specs.Prelude.{ℕ, ◌+◌, ◌*◌, Bool, true, false, Float}
use Rattle.std.specs.Float.{nan, inf, fin, binary32}
use Rattle.std.specs.Float.Ieee.{of_bits}
use Rattle.words.specs.Words.{of_two_bytes}

-- the highest first
abbrev pub of_four_bytes : ℕ → ℕ → ℕ → ℕ → ℕ
of_four_bytes a b c d = of_two_bytes a b * 65536 + of_two_bytes c d

unfoldable pub single : ℕ → Float
single bits = of_bits binary32 bits

-- "infinite or not a number" is what is not finite. Minus zero is finite, and so are subnormal numbers
abbrev pub is_finite : Float → Bool
is_finite nan = false
is_finite (inf s) = false
is_finite (fin s m e) = true
