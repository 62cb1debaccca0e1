-- The checksum of short runs, and of a run in two parts.
use Rattle.std.proofs.Common.{◌≡◌, ℕ, ◌+◌, ◌%◌, ◌<◌, ◌≤◌, List, length, get_or, take, drop, sym, ap, ◌∙◌, arith, take-append-drop, take_all}
use Rattle.ft12.specs.Frame.{total, checksum}
use Rattle.ft12.proofs.ChecksumLaws.{total-append, checksum_none, checksum-next}

-- in two parts
pub checksum_parts : (n : ℕ) (s : List ℕ) → (checksum (take n s) + checksum (drop n s)) % 256 ≡ checksum s
unfolding checksum
checksum_parts n s = omega (arith, total-append (take n s) (drop n s), ap total (take-append-drop n s))

module _ (s : List ℕ) where
  -- of its first bytes
  first_2 : 2 ≤ length s → checksum (take 2 s) ≡ (get_or s 0 0 + get_or s 1 0) % 256
  first_2 h = omega (arith, h, checksum_none, checksum-next s 0 (omega (arith, h)), checksum-next s 1 (omega (arith, h)))

  first_3 : 3 ≤ length s → checksum (take 3 s) ≡ ((get_or s 0 0 + get_or s 1 0) % 256 + get_or s 2 0) % 256
  first_3 h = omega (arith, first_2 (omega (arith, h)), checksum-next s 2 (omega (arith, h)))

  pub first_4 : 4 ≤ length s → checksum (take 4 s) ≡ (((get_or s 0 0 + get_or s 1 0) % 256 + get_or s 2 0) % 256 + get_or s 3 0) % 256
  first_4 h = omega (arith, first_3 (omega (arith, h)), checksum-next s 3 (omega (arith, h)))

  -- of all
  all : (n : ℕ) → length s ≡ n → checksum s ≡ checksum (take n s)
  all n h = ap checksum (sym (take_all n s (omega (arith, h))))

  pub sum_0 : length s ≡ 0 → checksum s ≡ 0
  sum_0 h = all 0 h ∙ checksum_none

  pub sum_1 : length s ≡ 1 → get_or s 0 0 < 256 → checksum s ≡ get_or s 0 0
  sum_1 h k = all 1 h ∙ omega (arith, k, checksum_none, checksum-next s 0 (omega (arith, h)))

  pub sum_2 : length s ≡ 2 → checksum s ≡ (get_or s 0 0 + get_or s 1 0) % 256
  sum_2 h = all 2 h ∙ first_2 (omega (arith, h))

  pub sum_3 : length s ≡ 3 → checksum s ≡ ((get_or s 0 0 + get_or s 1 0) % 256 + get_or s 2 0) % 256
  sum_3 h = all 3 h ∙ first_3 (omega (arith, h))

-- of so many bytes
pub ruleset sums = (sum_0, sum_1, sum_2, sum_3, first_4)
