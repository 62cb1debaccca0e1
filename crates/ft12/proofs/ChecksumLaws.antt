-- The checksum, byte by byte.
use Rattle.std.proofs.Common.{◌≡◌, ℕ, ◌+◌, ◌%◌, ◌<◌, List, [], ◌∷◌, ◌++◌, length, take, get_or, fold, refl, ◌∙◌, ap, arith, add-one, take-suc}
use Rattle.ft12.specs.Frame.{total, checksum}

pub total-append : (xs ys : List ℕ) → total (xs ++ ys) ≡ total xs + total ys
unfolding total
total-append [] ys = omega arith
total-append (x ∷ xs) ys = omega (arith, total-append xs ys)

pub checksum_none : checksum [] ≡ 0
unfolding checksum total
checksum_none = refl

pub checksum-next : (s : List ℕ) (i : ℕ) → i < length s → checksum (take (i + 1) s) ≡ (checksum (take i s) + get_or s i 0) % 256
unfolding checksum total
checksum-next s i h =
    let e : total (take (i + 1) s) ≡ total (take i s) + get_or s i 0 = rw (add-one, take-suc s i 0, total-append) (omega arith) in
    omega arith

-- by adding up with the carry dropped each time
folded_from : (s : List ℕ) (sum : ℕ) → fold (λ a x. (a + x) % 256) (sum % 256) s ≡ (sum + total s) % 256
unfolding total
folded_from [] sum = ap (λ (k : ℕ). k % 256) (omega arith)
folded_from (x ∷ s) sum =
    let e : (sum % 256 + x) % 256 ≡ (sum + x) % 256 = omega arith in
    rw e (folded_from s (sum + x) ∙ ap (λ (k : ℕ). k % 256) (omega arith))

pub checksum_folded : (s : List ℕ) → fold (λ a x. (a + x) % 256) 0 s ≡ checksum s
unfolding checksum
checksum_folded s = folded_from s 0 ∙ ap (λ (k : ℕ). k % 256) (omega arith)
