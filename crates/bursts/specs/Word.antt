-- Four bytes as one number, as a word of memory holds them. Inner contracts alone cite it.
use Rattle.std.specs.Prelude.{ℕ, ◌+◌, ◌*◌}

abbrev pub four_bytes : ℕ → ℕ → ℕ → ℕ → ℕ
four_bytes a b c d = a + b * 0x100 + c * 0x10000 + d * 0x1000000
