-- A reading of DPT 9: the hundredths are exact as a floating number, that number divided by 100 is the reading, and the
-- reading is near.
use mathlib.Core.Path.{◌≡◌, refl, sym, ap, ◌∙◌, subst}
use mathlib.Core.Bool.{Bool, true, false, not}
use Prim.Native.Nat.{ℕ, zero, suc, ◌+◌, ◌-◌, ◌*◌, ◌^◌, ◌≤◌, ◌<◌}
use native.Mathlib.Nat.{le_refl, le_trans, le_of_eq, mul_comm, mul_assoc, mul_right_comm, mul-one, mul-le-mul_right, mul-pos, mul-le-mul, lt_of_le_of_lt}
use native.Mathlib.Omega.{arith}
use lib.Dec.{T, ltb, ltb→lt, leb→le, nltb→le}
use lib.IntN.{ℤ, pos, negsuc, nat_abs, sub_ℕ, ◌*ℤ◌, ◌-ℤ◌, *ℤ_comm}
use lib.Pow.{pow-add, pow_pos, pow_mono}
use lib.Ieee.{Float, nan, inf, fin, binary32, up, down, round, div, of_int, of_bits, unlike}
use lib.Ieee.Fits.{round_is, down_pos}
use lib.Ieee.Exact.{HasValue, units_val, round_exact}
use lib.Ieee.Order.{drop, kept}
use lib.Ieee.Scale.{grid, normal_of_fraction, round_same}
use mathlib.Core.Bool.{cond}
use Rattle.dpt.specs.TwoOctet.{exponent, hundredths, is_below_zero, IsWhole, divided_by100, two_octet, Near}
use Rattle.dpt.proofs.Rounding.{Close, kept_close, close_scale}
use Rattle.dpt.proofs.HundredthsLaws.{signed, signed_again, signed_size, signed_times, mantissa_size, size, mantissa_le, exponent_le, hundredths_size, hundredths_le}

-- ---- the hundredths as a floating number
of_whole : (h : ℤ) → of_int binary32 h ≡ round binary32 (is_below_zero h) (nat_abs h) 1
unfolding of_int
of_whole (pos n) = refl
of_whole (negsuc n) = refl

-- q * 2 ^ j with q up to 2048 and j up to 15 is exact
exact : (s : Bool) (q j : ℕ) → q ≤ 2048 → j ≤ 15 → HasValue (round binary32 s (q * 2 ^ j) 1) s (q * 2 ^ j) 1
exact s q j h k =
    let e : q * 2 ^ j * 2 ^ 149 ≡ q * 2 ^ (j + 149) = mul_assoc q (2 ^ j) (2 ^ 149) ∙ ap (λ (z : ℕ). q * z) (sym (pow-add 2 j 149)) in
    let C : 0 < 1 = omega arith in
    let u : q < 2 ^ 24 = omega arith in
    let r : j + 149 ≤ 164 = omega arith in
    let t : q * 2 ^ (j + 149) < 2 ^ 277 = lt_of_le_of_lt (mul-le-mul h (pow_mono r)) (ltb→lt (2048 * 2 ^ 164) (2 ^ 277) tt) in
    round_exact binary32 s (q * 2 ^ j) 1 q (j + 149) C u t (e ∙ sym (mul-one (q * 2 ^ (j + 149))))

pub hundredths_exact : (high low : ℕ) → low < 256 → IsWhole (of_int binary32 (hundredths high low)) (hundredths high low)
unfolding size
hundredths_exact high low l =
    let h = hundredths high low in
    subst (λ (x : Float). IsWhole x h) (sym (of_whole h))
    (subst (λ (n : ℕ). HasValue (round binary32 (is_below_zero h) n 1) (is_below_zero h) n 1) (sym (hundredths_size high low l))
    (exact (is_below_zero h) (mantissa_size high low) (exponent high) (mantissa_le high low l) (exponent_le high)))

-- ---- one division
abbrev pub hundred : Float
hundred = fin false 25 (pos 2)

pub hundred_is : of_bits binary32 1120403456 ≡ hundred
unfolding of_bits
hundred_is = refl

unlike_false : (s : Bool) → unlike s false ≡ s
unlike_false true = refl
unlike_false false = refl

-- a floating number that is the whole number h, divided by 100: h / 100, rounded once
pub divided : (x : Float) (h : ℤ) → IsWhole x h → div binary32 x hundred ≡ divided_by100 h
unfolding div divided_by100
divided nan h v = absurd v
divided (inf t) h v = absurd v
divided (fin t m e) h v =
    let w = m * up e in
    let d = down e in
    let a = nat_abs h in
    let p : w * 1 * 100 ≡ a * (100 * d) = ap (λ (z : ℕ). z * 100) v.1 ∙ mul_assoc a d 100 ∙ ap (λ (z : ℕ). a * z) (mul_comm d 100) in
    let C : 0 < 100 = omega arith in
    ap (λ (z : Bool). round binary32 z (w * 1) (100 * d)) (unlike_false t ∙ v.0)
    ∙ round_same binary32 (is_below_zero h) (w * 1) (100 * d) a 100 (mul-pos C (down_pos e)) C p

-- ---- the distance, by sign and size
abbrev apart : ℕ → ℕ → ℕ
apart a b = (a - b) + (b - a)

abbrev NearSize : Float → Bool → ℕ → Type 0
NearSize nan s n = ⊥
NearSize (inf t) s n = ⊥
NearSize (fin t m e) s n = (t ≡ s) × (apart (100 * (m * up e)) (n * down e) * 2 ^ 24 ≤ n * down e)

at_most : (x y : ℕ) → x * 16777216 ≤ y * 16777216 + y → y * 16777216 ≤ x * 16777216 + y → apart x y * 16777216 ≤ y
at_most x y h k = omega arith

near_of_value : (x : Float) (s : Bool) (a g l : ℕ) → 0 < l → HasValue x s g l → Close (g * 100) (a * l) → NearSize x s a
near_of_value nan s a g l L v c = v
near_of_value (inf t) s a g l L v c = v
near_of_value (fin t m e) s a g l L v c =
    let w = m * up e in
    let d = down e in
    let p : 100 * w * l ≡ g * 100 * d = mul_assoc 100 w l ∙ ap (λ (z : ℕ). 100 * z) v.1 ∙ mul_comm 100 (g * d) ∙ mul_right_comm g d 100 in
    let k = close_scale (g * 100) (a * l) (100 * w) (a * d) d l (down_pos e) L p (mul_right_comm a d l) c in
    (v.0, at_most (100 * w) (a * d) k.over k.under)

-- `omega` takes no number of more than 38 digits: the two powers are compared by computation
half_of : (g n : ℕ) → g * 100 ≤ n * 2 → g ≤ n
half_of g n h = omega arith

below_top : (g n : ℕ) → g * 100 ≤ n * 2 → n ≤ 2 ^ 175 → g < 2 ^ 277
below_top g n h k = lt_of_le_of_lt (le_trans (half_of g n h) k) (ltb→lt (2 ^ 175) (2 ^ 277) tt)

normal : (a : ℕ) → 0 < a → 8388608 * 100 ≤ a * 2 ^ 149
normal a h = le_trans (leb→le (8388608 * 100) (1 * 2 ^ 149) tt) (mul-le-mul_right (2 ^ 149) h)

-- up to 2 ^ 26
round_near : (s : Bool) (a : ℕ) → a ≤ 67108864 → NearSize (round binary32 s a 100) s a
unfolding round
round_near s zero h = (refl, le_refl 0)
round_near s (suc b) h =
    let a = suc b in
    let n = a * 2 ^ 149 in
    let A : 0 < a = omega arith in
    let C : 0 < 100 = omega arith in
    let N = normal_of_fraction binary32 a 100 C (normal a A) in
    let c = kept_close n 100 C N in
    let top : n ≤ 2 ^ 175 = mul-le-mul_right (2 ^ 149) h in
    let g = grid binary32 a 100 in
    let v : HasValue (round binary32 s a 100) s g (2 ^ 149) =
    subst (λ (z : Float). HasValue z s g (2 ^ 149)) (sym (round_is binary32 s a 100)) (units_val binary32 s (kept 24 n 100) (drop 24 n 100) (below_top g n c.most top)) in
    near_of_value (round binary32 s a 100) s a g (2 ^ 149) (pow_pos 149) v c

-- ---- the distance over whole numbers
difference_size : (a b : ℕ) → nat_abs (sub_ℕ a b) ≡ apart a b
difference_size a b = go (ltb a b) (ltb→lt a b) (nltb→le a b)
  where
    go : (c : Bool) → (T c → a < b) → (T (not c) → b ≤ a) → nat_abs (cond c (negsuc (b - suc a)) (pos (a - b))) ≡ apart a b
    go true h k = let l = h tt in omega arith
    go false h k = let l = k tt in omega arith

swap : (a b : ℕ) → apart a b ≡ apart b a
swap a b = omega arith

shift : (a b : ℕ) → apart (suc b) (suc a) ≡ apart (suc a) (suc b)
shift a b = omega arith

difference : (s : Bool) (a b : ℕ) → nat_abs (signed s a -ℤ signed s b) ≡ apart a b
difference false a zero = omega arith
difference false a (suc b) = difference_size a (suc b)
difference true zero zero = refl
difference true zero (suc b) = omega arith
difference true (suc a) zero = difference_size zero (suc a) ∙ swap zero (suc a)
difference true (suc a) (suc b) = difference_size (suc b) (suc a) ∙ shift a b

hundred_times : (s : Bool) (n : ℕ) → pos 100 *ℤ signed s n ≡ signed s (100 * n)
hundred_times s n = *ℤ_comm (pos 100) (signed s n) ∙ signed_times s n 100 ∙ ap (λ (z : ℕ). signed s z) (mul_comm n 100)

near_of_size : (x : Float) (s : Bool) (n : ℕ) → NearSize x s n → Near x (signed s n)
unfolding Near
near_of_size nan s n h = h
near_of_size (inf t) s n h = h
near_of_size (fin t m e) s n h =
    let v = m * up e in
    let d = down e in
    let p : nat_abs (pos 100 *ℤ signed t v -ℤ signed s n *ℤ pos d) ≡ apart (100 * v) (n * d) =
    ap (λ (b : Bool). nat_abs (pos 100 *ℤ signed b v -ℤ signed s n *ℤ pos d)) h.0
    ∙ ap (λ (z : ℤ). nat_abs (z -ℤ signed s n *ℤ pos d)) (hundred_times s v)
    ∙ ap (λ (z : ℤ). nat_abs (signed s (100 * v) -ℤ z)) (signed_times s n d)
    ∙ difference s (100 * v) (n * d) in
    le_trans (le_of_eq (ap (λ (z : ℕ). z * 16777216) p)) (le_trans h.1 (le_of_eq (ap (λ (z : ℕ). z * d) (sym (signed_size s n)))))

-- every whole number up to 2 ^ 26 in size, divided by 100 and rounded once
divided_near : (h : ℤ) → nat_abs h ≤ 67108864 → Near (divided_by100 h) h
unfolding divided_by100
divided_near h l =
    subst (λ (z : ℤ). Near (divided_by100 h) z) (signed_again h)
    (near_of_size (divided_by100 h) (is_below_zero h) (nat_abs h) (round_near (is_below_zero h) (nat_abs h) l))

pub two_octet_near : (high low : ℕ) → low < 256 → Near (two_octet high low) (hundredths high low)
unfolding two_octet
two_octet_near high low l = divided_near (hundredths high low) (hundredths_le high low l)
