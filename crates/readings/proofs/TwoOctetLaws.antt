-- What the code works out for DPT 9, with 32-bit shifts and signed numbers as bit patterns, is what the definitions say.
use Rattle.std.proofs.Common.{◌≡◌, ℕ, ◌-◌, ◌*◌, ◌%◌, ◌^◌, ◌<◌, ◌≤◌, Bool, true, false, T, leb, ℤ, pos, ◌-ℤ◌, nat_abs, sym, refl, ap, ◌∙◌, subst, lt_of_lt_of_le, lt_irrefl, mod-eq_of_lt, arith, le→leb, leb→le, w32, SFits, to_z, of_z}
use lib.Ieee.{Float, binary32, div, of_int, of_bits, in_float}
use mir.ValLaws.{to_z-of_z}
use Rattle.words.proofs.WordLaws.{T_true, T_false}
use Rattle.calls.proofs.NumberLaws.{fits_minus, is_minus, fits_plus, is_plus}
use Rattle.dpt.specs.TwoOctet.{sign_is_set, exponent, eleven_bits, mantissa, hundredths, is_below_zero, IsWhole, two_octet}
use Rattle.dpt.proofs.HundredthsLaws.{signed, signed_again, size, size_le, hundredths_size, hundredths_below, hundredths_le}
use Rattle.dpt.proofs.Distance.{hundredths_exact, hundred_is, divided}

-- ---- the sign
negative : (high : ℕ) → 128 ≤ high → sign_is_set high ≡ true
negative high h = T_true (leb 128 high) (le→leb 128 high h)

positive : (high : ℕ) → high < 128 → sign_is_set high ≡ false
positive high h = T_false (leb 128 high) (λ (t : T (leb 128 high)). lt_irrefl high (lt_of_lt_of_le h (leb→le 128 high t)))

-- ---- the size: no bit is shifted out
within : (n : ℕ) → n ≤ 67108864 → n < 4294967296
within n h = omega arith

module _ (high low : ℕ) (l : low < 256) where
  shifted : (n : ℕ) → n ≡ size high low → n % 4294967296 ≡ nat_abs (hundredths high low)
  shifted n e =
      ap (λ (z : ℕ). z % 4294967296) e
      ∙ mod-eq_of_lt (within (size high low) (size_le high low l))
      ∙ sym (hundredths_size high low l)

  pub size_negative : 128 ≤ high → (2048 - eleven_bits high low) * 2 ^ exponent high % 4294967296 ≡ nat_abs (hundredths high low)
  unfolding size
  size_negative h = shifted ((2048 - eleven_bits high low) * 2 ^ exponent high) (rw (negative high h) refl)

  pub size_positive : high < 128 → eleven_bits high low * 2 ^ exponent high % 4294967296 ≡ nat_abs (hundredths high low)
  unfolding size
  size_positive h = shifted (eleven_bits high low * 2 ^ exponent high) (rw (positive high h) refl)

-- ---- signed numbers: n is the size of the hundredths
module _ (high low n : ℕ) (l : low < 256) (e : n ≡ nat_abs (hundredths high low)) where
  low_enough : n < 2147483648
  low_enough = omega (arith, e, hundredths_le high low l)

  pub size_fits : SFits w32 (pos n)
  size_fits = fits_plus n low_enough

  pub negated_fits : SFits w32 (pos 0 -ℤ to_z w32 n)
  negated_fits = fits_minus n low_enough

  by_sign : (s : Bool) → sign_is_set high ≡ s → signed s n ≡ hundredths high low
  by_sign s q =
      ap (λ (b : Bool). signed b n) (sym q ∙ sym (hundredths_below high low l))
      ∙ ap (λ (z : ℕ). signed (is_below_zero (hundredths high low)) z) e
      ∙ signed_again (hundredths high low)

  pub hundredths_negative : 128 ≤ high → to_z w32 (of_z w32 (pos 0 -ℤ to_z w32 n)) ≡ hundredths high low
  hundredths_negative h = is_minus n low_enough ∙ by_sign true (negative high h)

  pub hundredths_positive : high < 128 → to_z w32 n ≡ hundredths high low
  hundredths_positive h = is_plus n low_enough ∙ by_sign false (positive high h)

-- ---- the floating number, and the division
pub code_exact : (high low : ℕ) (z : ℤ) (x : Float) → low < 256 → z ≡ hundredths high low → SFits w32 z → x ≡ of_int binary32 (to_z w32 (of_z w32 z)) → IsWhole x (hundredths high low)
code_exact high low z x l e k f =
    subst (λ (y : Float). IsWhole y (hundredths high low)) (sym (f ∙ ap (λ (y : ℤ). of_int binary32 y) (to_z-of_z w32 z k ∙ e))) (hundredths_exact high low l)

pub code_divided : (high low : ℕ) (x : Float) → IsWhole x (hundredths high low) → div binary32 x (of_bits binary32 1120403456) ≡ two_octet high low
unfolding two_octet
code_divided high low x v = ap (λ (y : Float). div binary32 x y) hundred_is ∙ divided x (hundredths high low) v

-- why the code does not say `as`: it is undefined at the greatest hundredths
as_undefined : in_float binary32 (hundredths 127 254) ≡ false
unfolding in_float hundredths mantissa
as_undefined = refl
