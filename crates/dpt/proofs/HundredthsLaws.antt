-- The hundredths of a DPT 9 value: their sign and size, and their range.
use mathlib.Core.Path.{◌≡◌, refl, sym, ap, ◌∙◌, subst}
use mathlib.Core.Logic.{inl, inr}
use mathlib.Core.Bool.{Bool, true, false}
use Prim.Native.Nat.{ℕ, zero, suc, ◌-◌, ◌*◌, ◌^◌, ◌≤◌, ◌<◌}
use native.Mathlib.Nat.{le_trans, lt_irrefl, zero-mul, mul-pos, mul-le-mul, eq-or-lt_of_le}
use native.Mathlib.Omega.{arith}
use lib.Dec.{leb, ltb, leb→le, nleb→lt, lt→ltb}
use lib.IntN.{ℤ, pos, negsuc, neg_ℤ, nat_abs, ◌*ℤ◌, ◌-ℤ◌}
use lib.Pow.{pow_pos, pow_mono}
use Rattle.std.specs.Prelude.{if◌then◌else◌}
use Rattle.words.specs.Words.{of_two_bytes}
use Rattle.words.proofs.WordLaws.{T_true}
use Rattle.dpt.specs.TwoOctet.{sign_is_set, exponent, eleven_bits, mantissa, hundredths, is_below_zero, HundredthsInRange}

-- ---- a whole number by its sign and size
abbrev pub signed : Bool → ℕ → ℤ
signed s n = if s then neg_ℤ (pos n) else pos n

pub signed_again : (h : ℤ) → signed (is_below_zero h) (nat_abs h) ≡ h
signed_again (pos n) = refl
signed_again (negsuc n) = refl

pub signed_size : (s : Bool) (n : ℕ) → nat_abs (signed s n) ≡ n
signed_size false n = refl
signed_size true zero = refl
signed_size true (suc n) = refl

pub signed_below : (s : Bool) (n : ℕ) → (s ≡ true → 0 < n) → is_below_zero (signed s n) ≡ s
signed_below false n h = refl
signed_below true zero h = absurd (lt_irrefl 0 (h refl))
signed_below true (suc n) h = refl

pub signed_times : (s : Bool) (n p : ℕ) → signed s n *ℤ pos p ≡ signed s (n * p)
signed_times false n p = refl
signed_times true zero p = ap pos (zero-mul p) ∙ sym (ap (λ (z : ℕ). neg_ℤ (pos z)) (zero-mul p))
signed_times true (suc n) p = refl

-- ---- the mantissa, and the hundredths
abbrev pub mantissa_size : ℕ → ℕ → ℕ
mantissa_size high low = if sign_is_set high then 2048 - eleven_bits high low else eleven_bits high low

unfoldable pub size : ℕ → ℕ → ℕ
size high low = mantissa_size high low * 2 ^ exponent high

eleven_below : (high low : ℕ) → low < 256 → eleven_bits high low < 2048
eleven_below high low h = omega (arith, h)

one_more : (a : ℕ) → a < 2048 → 2048 - a ≡ suc (2048 - suc a)
one_more a h = omega (arith, h)

less_2048 : (a : ℕ) → a < 2048 → pos a -ℤ pos 2048 ≡ neg_ℤ (pos (2048 - a))
less_2048 a h = rw (T_true (ltb a 2048) (lt→ltb a 2048 h)) (sym (ap (λ (z : ℕ). neg_ℤ (pos z)) (one_more a h)))

mantissa_is : (high low : ℕ) → low < 256 → mantissa high low ≡ signed (sign_is_set high) (mantissa_size high low)
unfolding mantissa
mantissa_is high low h = go (sign_is_set high)
  where
    go : (s : Bool) → (if s then pos (eleven_bits high low) -ℤ pos 2048 else pos (eleven_bits high low)) ≡ signed s (if s then 2048 - eleven_bits high low else eleven_bits high low)
    go true = less_2048 (eleven_bits high low) (eleven_below high low h)
    go false = refl

hundredths_are : (high low : ℕ) → low < 256 → hundredths high low ≡ signed (sign_is_set high) (size high low)
unfolding hundredths size
hundredths_are high low h =
    ap (λ (z : ℤ). z *ℤ pos (2 ^ exponent high)) (mantissa_is high low h)
    ∙ signed_times (sign_is_set high) (mantissa_size high low) (2 ^ exponent high)

pub mantissa_le : (high low : ℕ) → low < 256 → mantissa_size high low ≤ 2048
mantissa_le high low h = go (sign_is_set high) (eleven_below high low h)
  where
    go : (s : Bool) → eleven_bits high low < 2048 → (if s then 2048 - eleven_bits high low else eleven_bits high low) ≤ 2048
    go true l = omega arith
    go false l = omega arith

pub exponent_le : (high : ℕ) → exponent high ≤ 15
exponent_le high = omega arith

-- where the sign is set there is something to negate
negative_some : (high low : ℕ) → low < 256 → sign_is_set high ≡ true → 0 < size high low
unfolding size
negative_some high low h e =
    subst (λ (s : Bool). 0 < (if s then 2048 - eleven_bits high low else eleven_bits high low) * 2 ^ exponent high) (sym e)
    (mul-pos (some (eleven_below high low h)) (pow_pos (exponent high)))
  where
    some : eleven_bits high low < 2048 → 0 < 2048 - eleven_bits high low
    some l = omega arith

pub hundredths_size : (high low : ℕ) → low < 256 → nat_abs (hundredths high low) ≡ size high low
hundredths_size high low h = ap nat_abs (hundredths_are high low h) ∙ signed_size (sign_is_set high) (size high low)

pub hundredths_below : (high low : ℕ) → low < 256 → is_below_zero (hundredths high low) ≡ sign_is_set high
hundredths_below high low h =
    ap is_below_zero (hundredths_are high low h) ∙ signed_below (sign_is_set high) (size high low) (negative_some high low h)

-- ---- the range
pub size_le : (high low : ℕ) → low < 256 → size high low ≤ 67108864
unfolding size
size_le high low h = mul-le-mul (mantissa_le high low h) (pow_mono (exponent_le high))

pub hundredths_le : (high low : ℕ) → low < 256 → nat_abs (hundredths high low) ≤ 67108864
hundredths_le high low h = subst (λ (n : ℕ). n ≤ 67108864) (sym (hundredths_size high low h)) (size_le high low h)

-- the greatest exponent and 11 bits set are 7FFF
not_all_ones : (high low : ℕ) → high < 128 → low < 256 → (of_two_bytes high low ≡ 0x7FFF → ⊥) → exponent high ≡ 15 → eleven_bits high low ≤ 2046
not_all_ones high low h l n e = omega arith

to_2047 : (high low : ℕ) → low < 256 → eleven_bits high low ≤ 2047
to_2047 high low h = omega arith

to_14 : (e : ℕ) → e < 15 → e ≤ 14
to_14 e h = omega arith

positive_le : (high low : ℕ) → high < 128 → low < 256 → (of_two_bytes high low ≡ 0x7FFF → ⊥) → eleven_bits high low * 2 ^ exponent high ≤ 67043328
positive_le high low h l n =
    elim (eq-or-lt_of_le (exponent_le high)) [
      | inl e ↦ mul-le-mul (not_all_ones high low h l n e) (pow_mono (exponent_le high))
      | inr x ↦ le_trans (mul-le-mul (to_2047 high low l) (pow_mono (to_14 (exponent high) x))) (leb→le (2047 * 2 ^ 14) 67043328 tt)
    ]

below_in_range : (n : ℕ) → n ≤ 67108864 → HundredthsInRange (neg_ℤ (pos n))
below_in_range zero h = leb→le 0 67043328 tt
below_in_range (suc n) h = h

pub in_range_lem : (high low : ℕ) → low < 256 → (of_two_bytes high low ≡ 0x7FFF → ⊥) → HundredthsInRange (hundredths high low)
unfolding size
in_range_lem high low l n = subst HundredthsInRange (sym (hundredths_are high low l)) (go (sign_is_set high) refl)
  where
    go : (s : Bool) → sign_is_set high ≡ s → HundredthsInRange (signed s ((if s then 2048 - eleven_bits high low else eleven_bits high low) * 2 ^ exponent high))
    go true e = below_in_range ((2048 - eleven_bits high low) * 2 ^ exponent high) (mul-le-mul (negative_le (eleven_below high low l)) (pow_mono (exponent_le high)))
      where
        negative_le : eleven_bits high low < 2048 → 2048 - eleven_bits high low ≤ 2048
        negative_le k = omega arith
    go false e = positive_le high low (positive e) l n
      where
        positive : leb 128 high ≡ false → high < 128
        positive q = nleb→lt 128 high (rw q tt)
