-- DPT 9, a value of two octets (document 02, item 3).
use Rattle.std.specs.Prelude.{if◌then◌else◌, ℕ, suc, ◌*◌, ◌/◌, ◌%◌, ◌^◌, ◌≤◌, Bool, true, false, ℤ, pos, negsuc, neg_ℤ, nat_abs, ◌*ℤ◌, ◌-ℤ◌, leb, Float}
use Rattle.std.specs.Float.{nan, inf, fin, binary32}
use Rattle.std.specs.Float.Ieee.{up, down, round}
use Rattle.std.specs.Float.Ieee.Exact.{HasValue}
use Rattle.words.specs.Words.{of_two_bytes}

-- ---- "DPT 9 is sign, four bits of exponent E and 11 bits that with the sign make the 12-bit two's complement mantissa
-- M": bit 7 of the high octet; its bits 6 to 3; its bits 2 to 0 and the low octet
abbrev pub sign_is_set : ℕ → Bool
sign_is_set high = leb 128 high

abbrev pub exponent : ℕ → ℕ
exponent high = high / 8 % 16

abbrev pub eleven_bits : ℕ → ℕ → ℕ
eleven_bits high low = of_two_bytes (high % 8) low

-- in two's complement the sign counts -2048
unfoldable pub mantissa : ℕ → ℕ → ℤ
mantissa high low = if sign_is_set high then pos (eleven_bits high low) -ℤ pos 2048 else pos (eleven_bits high low)

-- "the value is M times 2 to the E hundredths"
unfoldable pub hundredths : ℕ → ℕ → ℤ
hundredths high low = mantissa high low *ℤ pos (2 ^ exponent high)

abbrev pub is_below_zero : ℤ → Bool
is_below_zero (pos n) = false
is_below_zero (negsuc n) = true

-- x is the whole number h exactly, and 0 has no minus. Said of the number that h is taken to in that format, it is "exact
-- in 32-bit floating point"
abbrev pub IsWhole : Float → ℤ → Type 0
IsWhole x h = HasValue x (is_below_zero h) (nat_abs h) 1

-- "7FFF aside, hundredths run from -67,108,864 to 67,043,328"
abbrev pub HundredthsInRange : ℤ → Type 0
HundredthsInRange (pos n) = n ≤ 67043328
HundredthsInRange (negsuc n) = suc n ≤ 67108864

-- ---- "the reading is that number divided by 100, rounded once"
-- `round` takes a sign, a numerator and a denominator to the nearest number of the format; of two equally near ones, to
-- the even one
unfoldable pub divided_by100 : ℤ → Float
divided_by100 h = round binary32 (is_below_zero h) (nat_abs h) 100

-- of 7FFF too: that it is unreadable is said by `two_octet_reading`
unfoldable pub two_octet : ℕ → ℕ → Float
two_octet high low = divided_by100 (hundredths high low)

-- ---- "over whole numbers, with the reading taken as the exact binary fraction it is, that 100 times it differs from the
-- hundredths by at most their size divided by 2 to the 24"
-- `fin s m e` is m times 2 to the e, below zero where s is true, and 2 to the e is up e / down e. So it is the fraction
-- z / d, where d is `down e` and z is:
abbrev pub numerator : Bool → ℕ → ℤ → ℤ
numerator s m e = if s then neg_ℤ (pos (m * up e)) else pos (m * up e)

-- |100 * (z / d) - h| ≤ |h| / 2 ^ 24, with both sides multiplied by d and by 2 ^ 24. Where h is 0, so is z
unfoldable pub Near : Float → ℤ → Type 0
Near nan h = ⊥
Near (inf s) h = ⊥
Near (fin s m e) h = nat_abs (pos 100 *ℤ numerator s m e -ℤ h *ℤ pos (down e)) * 2 ^ 24 ≤ nat_abs h * down e
