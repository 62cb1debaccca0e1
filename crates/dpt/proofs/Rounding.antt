-- How far `round` is from its fraction, in the normal range: half a unit of the last digit that it keeps, or less. Nothing
-- here is of KNX.
use mathlib.Core.Path.{◌≡◌, sym, ap, ◌∙◌, subst}
use Prim.Native.Nat.{ℕ, suc, ◌+◌, ◌-◌, ◌*◌, ◌/◌, ◌%◌, ◌^◌, ◌≤◌, ◌<◌, compare, Ordering}
use native.Mathlib.Nat.{le_trans, le_of_eq, mul_comm, mul_assoc, mul_right_comm, add-mul, mul-le-mul_right, mul-pos, div-add-mod', le-div_iff_mul-le, le_of_mul-le-mul_right, mod-lt}
use native.Mathlib.Omega.{arith}
use mathlib.Core.Bool.{not}
use lib.Dec.{T, is_le, compare_is_eq, eqb, leb→le, nleb→lt, eqb→eq, eqb_refl}
use lib.Arith.{lt_of_le-ne}
use lib.Pow.{pow-add, pow_pos}
use lib.Ieee.{size, nearest}
use lib.Ieee.Digits.{size_reaches}
use lib.Ieee.Nearest.{closest}
use lib.Ieee.Order.{drop, kept}

-- ---- the nearest whole number is at most a half away
pub record Half (g n u : ℕ) : Type 0 where
  pub over : g * 2 ≤ n * 2 + u
  pub under : n * 2 ≤ g * 2 + u

abbrev Cmp : Ordering → ℕ → ℕ → Type 0
Cmp Ordering.lt a b = a < b
Cmp Ordering.eq a b = a ≡ b
Cmp Ordering.gt a b = b < a

cmp : (a b : ℕ) → Cmp (compare a b) a b
cmp a b = go (compare a b) (leb→le a b) (nleb→lt a b) (eqb→eq a b) (λ (e : a ≡ b). subst (λ (x : ℕ). T (eqb a x)) e (eqb_refl a))
  where
    go : (o : Ordering) → (T (is_le o) → a ≤ b) → (T (not (is_le o)) → b < a) → (T (compare_is_eq o) → a ≡ b) → (a ≡ b → T (compare_is_eq o)) → Cmp o a b
    go Ordering.lt h k e n = lt_of_le-ne (h tt) n
    go Ordering.eq h k e n = e tt
    go Ordering.gt h k e n = k tt

half : (o : Ordering) (q r u n : ℕ) → q * u + r ≡ n → r < u → Cmp o (r * 2) u → Half (nearest q o * u) n u
half Ordering.lt q r u n e l c = record { over = omega arith; under = omega arith }
half Ordering.eq q r u n e l c =
    let a : q % 2 ≤ 1 = omega arith in
    let b : q % 2 * u ≤ 1 * u = mul-le-mul_right u a in
    let d : (q + q % 2) * u ≡ q * u + q % 2 * u = add-mul q (q % 2) u in
    record { over = omega arith; under = omega arith }
half Ordering.gt q r u n e l c =
    let d : suc q * u ≡ q * u + u = omega arith in
    record { over = omega arith; under = omega arith }

closest_half : (n u : ℕ) → 0 < u → Half (closest n u * u) n u
closest_half n u U = half (compare (n % u * 2) u) (n / u) (n % u) u n (div-add-mod' n u) (mod-lt n U) (cmp (n % u * 2) u)

-- ---- g / l is a / c rounded: twice g * c is within u of twice n = a * l, and u is at most a 2 ^ 23 th of n
widen : (x n u : ℕ) → x * 2 ≤ n * 2 + u → 8388608 * u ≤ n → x * 16777216 ≤ n * 16777216 + n
widen x n u h k = omega arith

widen' : (x n u : ℕ) → n * 2 ≤ x * 2 + u → 8388608 * u ≤ n → n * 16777216 ≤ x * 16777216 + n
widen' x n u h k = omega arith

pred_lt : (z : ℕ) → 24 ≤ z → z - 1 < z
pred_lt z h = omega arith

split : (z : ℕ) → 24 ≤ z → z - 1 ≡ 23 + (z - 24)
split z h = omega arith

pub record Close (x n : ℕ) : Type 0 where
  pub over : x * 16777216 ≤ n * 16777216 + n
  pub under : n * 16777216 ≤ x * 16777216 + n
  pub most : x ≤ n * 2

-- for every n / c in units of the smallest value, in the normal range
pub kept_close : (n c : ℕ) → 0 < c → 24 ≤ size (n / c) → Close (kept 24 n c * 2 ^ drop 24 n c * c) n
kept_close n c C N =
    let k = drop 24 n c in
    let u = c * 2 ^ k in
    let z = size (n / c) in
    let h = closest_half n u (mul-pos C (pow_pos k)) in
    let e : closest n u * 2 ^ k * c ≡ closest n u * u = mul_assoc (closest n u) (2 ^ k) c ∙ ap (λ (x : ℕ). closest n u * x) (mul_comm (2 ^ k) c) in
    let lo : 2 ^ (z - 1) * c ≤ n = (le-div_iff_mul-le C).0 (size_reaches (n / c) (z - 1) (pred_lt z N)) in
    let p : 2 ^ (z - 1) * c ≡ 8388608 * u = ap (λ (x : ℕ). 2 ^ x * c) (split z N) ∙ ap (λ (x : ℕ). x * c) (pow-add 2 23 k) ∙ mul_assoc 8388608 (2 ^ k) c ∙ ap (λ (x : ℕ). 8388608 * x) (mul_comm (2 ^ k) c) in
    let l : 8388608 * u ≤ n = le_trans (le_of_eq (sym p)) lo in
    subst (λ (x : ℕ). Close x n) (sym e)
    (record {
      over = widen (closest n u * u) n u h.over l;
      under = widen' (closest n u * u) n u h.under l;
      most = top (closest n u * u) n u h.over l;
    })
  where
    top : (x n u : ℕ) → x * 2 ≤ n * 2 + u → 8388608 * u ≤ n → x ≤ n * 2
    top x n u h k = omega arith

-- ---- v / d is the fraction g / l, which is close to a * l / c: so v * c is close to a * d
cancel : (x y w l : ℕ) → 0 < l → x * l * 16777216 ≤ y * l * 16777216 + w * l → x * 16777216 ≤ y * 16777216 + w
cancel x y w l L h =
    let a : x * 16777216 * l ≡ x * l * 16777216 = mul_right_comm x 16777216 l in
    let b : (y * 16777216 + w) * l ≡ y * 16777216 * l + w * l = add-mul (y * 16777216) w l in
    let c : y * 16777216 * l ≡ y * l * 16777216 = mul_right_comm y 16777216 l in
    le_of_mul-le-mul_right (omega arith) L

-- x / l and z / d are one fraction
pub close_scale : (x n z w d l : ℕ) → 0 < d → 0 < l → z * l ≡ x * d → w * l ≡ n * d → Close x n → Close z w
close_scale x n z w d l D L e f c = record {
  over = cancel z w w l L (omega (arith, mul-le-mul_right d c.over, add-mul (n * 16777216) n d, mul_right_comm x 16777216 d, mul_right_comm n 16777216 d));
  under = cancel w z w l L (omega (arith, mul-le-mul_right d c.under, add-mul (x * 16777216) n d, mul_right_comm x 16777216 d, mul_right_comm n 16777216 d));
  most = le_of_mul-le-mul_right (omega (arith, mul-le-mul_right d c.most, mul_right_comm n 2 d, mul_right_comm w 2 l)) L;
}
