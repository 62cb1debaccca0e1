-- Words against masks: the unused bytes and bits of a record are 0 exactly when two words have no bit of its masks set.
use Rattle.std.proofs.Common.{ℕ, zero, suc, ◌+◌, ◌-◌, ◌*◌, ◌/◌, ◌%◌, ◌^◌, ◌<◌, ◌≤◌, ◌≡◌, refl, sym, ◌∙◌, ap, subst, Bool, true, false, ◌&&◌, List, [], ◌∷◌, ◌++◌, arith, mod-lt, length, get_or, take, drop, length-drop, take-append-drop, drop-cons, take_all, leb, ltb, eqb, eqb→eq, ltb→lt, lt→ltb, lit<, pow_pos, pow_mono, pow-add, bit_and, lt-ltb, le-ltb, le-leb, eq-eqb, leb-true, leb-false, ltb-true, ltb-false}
use Rattle.std.proofs.Math.Bool.{and_assoc, and-true, and-false}
use Rattle.std.proofs.Math.Nat.{div-eq_of_lt}
use Rattle.std.proofs.Math.Seq.{drop-nil}
use Rattle.std.proofs.Math.Pow.{split, shr_mod}
use Rattle.std.proofs.lemmas.Nat.Bits.{and_high}
use Rattle.std.proofs.lemmas.Nat.{and_block}
use Rattle.std.specs.Int.Bits.{and_zero_r}
use Rattle.std.proofs.lemmas.Bool.{lt-leb}
use Rattle.std.specs.Int.{w64, from_le_bytes}
use Rattle.words.specs.Words.{is_yes_or_no, are_zero, is_padded}
use Rattle.words.proofs.WordLaws.{left, right, both, true_T, same_test}
use Rattle.baos.specs.declared.datapoint.Datapoint.{Datapoint}
use Rattle.baos.specs.declared.item.Item.{Item}
use Rattle.baos.specs.Datapoint.{size_of, limit_of, unused_bits_ok, value_of, datapoint_ok}
use Rattle.baos.specs.Item.{item_ok}
use Rattle.masks.specs.Mask.{word, bits_from, used_bits, datapoint_masks, item_masks, are_clear}
use Rattle.baos.proofs.DatapointLaws.{size_fits}
use Rattle.baos.proofs.ValueLaws.{size_of_bits, limit_of_whole}

-- ---- eight bytes as the library reads them
pub word_read : (b0 b1 b2 b3 b4 b5 b6 b7 : ℕ) → from_le_bytes w64 (b0 ∷ b1 ∷ b2 ∷ b3 ∷ b4 ∷ b5 ∷ b6 ∷ b7 ∷ []) ≡ word (b0 ∷ b1 ∷ b2 ∷ b3 ∷ b4 ∷ b5 ∷ b6 ∷ b7 ∷ [])
unfolding word
word_read b0 b1 b2 b3 b4 b5 b6 b7 = omega arith

-- ---- one word against a mask
only_rest : (q r n k : ℕ) → q + r ≡ n → q ≡ 0 → r < k → n < k
only_rest q r n k e z h = omega arith

none_times : (k : ℕ) → 0 * k ≡ 0
none_times k = omega arith

-- no bit from b up to m is set: the number is below 2 ^ b
pub clear_below : (n b m : ℕ) → n < 2 ^ m → eqb (bit_and n (bits_from b m)) 0 ≡ ltb n (2 ^ b)
clear_below n b m h = go (leb b m) refl
  where
    go : (t : Bool) → leb b m ≡ t → eqb (bit_and n (bits_from b m)) 0 ≡ ltb n (2 ^ b)
    go true e =
        let le : b ≤ m = leb-true b m e in
        let up : m ≡ (m - b) + b = omega arith in
        let top : bit_and n (bits_from b m) ≡ n / 2 ^ b * 2 ^ b =
        ap (λ (k : ℕ). bit_and n (2 ^ k - 2 ^ b)) up ∙ and_high n (m - b) b ∙ ap (λ (k : ℕ). k * 2 ^ b) (shr_mod (m - b) b (subst (λ (k : ℕ). n < 2 ^ k) up h)) in
        ap (λ (k : ℕ). eqb k 0) top
        ∙ same_test (eqb (n / 2 ^ b * 2 ^ b) 0) (ltb n (2 ^ b))
        (λ t. lt→ltb n (2 ^ b) (only_rest (n / 2 ^ b * 2 ^ b) (n % 2 ^ b) n (2 ^ b) (split n b) (eqb→eq (n / 2 ^ b * 2 ^ b) 0 t) (mod-lt n (pow_pos b))))
        (λ t. true_T (eq-eqb (n / 2 ^ b * 2 ^ b) 0 (ap (λ (k : ℕ). k * 2 ^ b) (div-eq_of_lt (ltb→lt n (2 ^ b) t)) ∙ none_times (2 ^ b))))
    go false e =
        let lt : m < b = leb-false b m e in
        let up : 2 ^ m ≤ 2 ^ b = pow_mono (omega arith) in
        let no : bits_from b m ≡ 0 = omega arith in
        ap (λ (k : ℕ). eqb (bit_and n k) 0) no ∙ ap (λ (k : ℕ). eqb k 0) (and_zero_r n) ∙ sym (lt-ltb n (2 ^ b) (omega arith))

-- ---- bytes as a number
abbrev pub Bytes : List ℕ → Type 0
Bytes vs = (i : ℕ) → get_or vs i 0 < 256

next_byte : (s : ℕ) → 2 ^ (8 * suc s) ≡ 2 ^ (8 * s) * 256
next_byte s = ap (λ (k : ℕ). 2 ^ k) {x = 8 * suc s} {y = 8 * s + 8} (omega arith) ∙ pow-add 2 (8 * s) 8

word_below : (vs : List ℕ) → Bytes vs → word vs < 2 ^ (8 * length vs)
unfolding word
word_below [] b = lit< tt
word_below (v ∷ vs) b = rw (next_byte (length vs)) (omega (arith, b 0, word_below vs (λ i. b (suc i))))

zero_word : (vs : List ℕ) → are_zero vs ≡ ltb (word vs) 1
unfolding word are_zero
zero_word [] = refl
zero_word (v ∷ vs) =
    ap (λ (t : Bool). eqb v 0 && t) (zero_word vs)
    ∙ same_test (eqb v 0 && ltb (word vs) 1) (ltb (v + 256 * word vs) 1)
    (λ t. lt→ltb (v + 256 * word vs) 1 (omega (arith, eqb→eq v 0 (left (eqb v 0) (ltb (word vs) 1) t), ltb→lt (word vs) 1 (right (eqb v 0) (ltb (word vs) 1) t))))
    (λ t. let h = ltb→lt (v + 256 * word vs) 1 t in both (eqb v 0) (ltb (word vs) 1) (true_T (eq-eqb v 0 (omega arith))) (lt→ltb (word vs) 1 (omega arith)))

-- all bytes from place s on are 0: the number is below 2 ^ (8 * s)
zero_below : (s : ℕ) (vs : List ℕ) → Bytes vs → are_zero (drop s vs) ≡ ltb (word vs) (2 ^ (8 * s))
unfolding word are_zero
zero_below zero vs b = zero_word vs
zero_below (suc s) [] b = sym (lt-ltb 0 (2 ^ (8 * suc s)) (pow_pos (8 * suc s)))
zero_below (suc s) (v ∷ vs) b =
    zero_below s vs (λ i. b (suc i))
    ∙ same_test (ltb (word vs) (2 ^ (8 * s))) (ltb (v + 256 * word vs) (2 ^ (8 * s) * 256))
    (λ t. lt→ltb (v + 256 * word vs) (2 ^ (8 * s) * 256) (omega (arith, b 0, ltb→lt (word vs) (2 ^ (8 * s)) t)))
    (λ t. lt→ltb (word vs) (2 ^ (8 * s)) (omega (arith, ltb→lt (v + 256 * word vs) (2 ^ (8 * s) * 256) t)))
    ∙ ap (ltb (v + 256 * word vs)) (sym (next_byte s))

-- the law of a word: no bit behind its first s bytes is set exactly when its other bytes are 0
pub clear_bytes : (s : ℕ) (vs : List ℕ) → Bytes vs → eqb (bit_and (word vs) (bits_from (8 * s) (8 * length vs))) 0 ≡ are_zero (drop s vs)
clear_bytes s vs b = clear_below (word vs) (8 * s) (8 * length vs) (word_below vs b) ∙ sym (zero_below s vs b)

few_bits : (v t : ℕ) (r : List ℕ) → t ≤ 256 → (ltb v t && are_zero r) ≡ ltb (word (v ∷ r)) t
unfolding word
few_bits v t r l =
    ap (λ (y : Bool). ltb v t && y) (zero_word r)
    ∙ same_test (ltb v t && ltb (word r) 1) (ltb (v + 256 * word r) t)
    (λ s. lt→ltb (v + 256 * word r) t (omega (arith, ltb→lt v t (left (ltb v t) (ltb (word r) 1) s), ltb→lt (word r) 1 (right (ltb v t) (ltb (word r) 1) s))))
    (λ s. let h = ltb→lt (v + 256 * word r) t s in both (ltb v t) (ltb (word r) 1) (lt→ltb v t (omega arith)) (lt→ltb (word r) 1 (omega arith)))

few_used : (k : ℕ) → ltb k 7 ≡ true → used_bits k ≡ k + 1
unfolding used_bits
few_used k e = simp e

whole_used : (k : ℕ) → ltb k 7 ≡ false → used_bits k ≡ 8 * size_of k
unfolding used_bits
whole_used k e = simp e

few_limit : (k : ℕ) → ltb k 7 ≡ true → limit_of k ≡ 2 ^ (k + 1)
unfolding limit_of
few_limit k e = simp e

few_le : (k : ℕ) → ltb k 7 ≡ true → 2 ^ (k + 1) ≤ 256
few_le k e = let h = ltb-true k 7 e in pow_mono {i = k + 1} {j = 8} (omega arith)

-- the same for a value that may end within its first byte; ys are the value's bytes behind the word
clear_bits : (k v : ℕ) (r ys : List ℕ) → Bytes (v ∷ r)
    → eqb (bit_and (word (v ∷ r)) (bits_from (used_bits k) (8 * length (v ∷ r)))) 0 ≡ (unused_bits_ok k (take (size_of k) (v ∷ (r ++ ys))) && are_zero (drop (size_of k) (v ∷ r)))
unfolding unused_bits_ok
clear_bits k v r ys b = clear_below (word (v ∷ r)) (used_bits k) (8 * length (v ∷ r)) (word_below (v ∷ r) b) ∙ by (ltb k 7) refl
  where
    first : (s : ℕ) → ltb (get_or (take s (v ∷ (r ++ ys))) 0 0) 256 ≡ true
    first zero = refl
    first (suc s) = lt-ltb v 256 (b 0)

    by : (t : Bool) → ltb k 7 ≡ t → ltb (word (v ∷ r)) (2 ^ used_bits k) ≡ (ltb (get_or (take (size_of k) (v ∷ (r ++ ys))) 0 0) (limit_of k) && are_zero (drop (size_of k) (v ∷ r)))
    by true e = rw (size_of_bits k (omega (arith, ltb-true k 7 e)), few_used k e, few_limit k e) (sym (few_bits v (2 ^ (k + 1)) r (few_le k e)))
    by false e = rw (whole_used k e, limit_of_whole k (ltb-false k 7 e), first (size_of k)) (sym (zero_below (size_of k) (v ∷ r) b))

-- ---- bytes in two words
zero_append : (xs ys : List ℕ) → are_zero (xs ++ ys) ≡ (are_zero xs && are_zero ys)
unfolding are_zero
zero_append [] ys = refl
zero_append (x ∷ xs) ys = ap (λ (t : Bool). eqb x 0 && t) (zero_append xs ys) ∙ sym (and_assoc (eqb x 0) (are_zero xs) (are_zero ys))

zero_none : (s : ℕ) → are_zero (drop s []) ≡ true
unfolding are_zero
zero_none s = ap are_zero (drop-nil s)

zero_parts : (s : ℕ) (xs ys : List ℕ) → are_zero (drop s (xs ++ ys)) ≡ (are_zero (drop s xs) && are_zero (drop (s - length xs) ys))
zero_parts s [] ys = ap (λ (k : ℕ). are_zero (drop k ys)) {x = s} {y = s - 0} (omega arith) ∙ sym (ap (λ (t : Bool). t && are_zero (drop (s - 0) ys)) (zero_none s))
zero_parts zero (x ∷ xs) ys =
    zero_append (x ∷ xs) ys ∙ ap (λ (k : ℕ). are_zero (x ∷ xs) && are_zero (drop k ys)) {x = 0} {y = 0 - suc (length xs)} (omega arith)
zero_parts (suc s) (x ∷ xs) ys =
    zero_parts s xs ys ∙ ap (λ (k : ℕ). are_zero (drop s xs) && are_zero (drop k ys)) {x = s - length xs} {y = suc s - suc (length xs)} (omega arith)

-- n bytes of the list from place i on, one by one
abbrev pub places : List ℕ → ℕ → ℕ → List ℕ
places vs i zero = []
places vs i (suc n) = get_or vs i 0 ∷ places vs (suc i) n

places_are : (vs : List ℕ) (i n : ℕ) → i + n ≤ length vs → take n (drop i vs) ≡ places vs i n
places_are vs i zero h = refl
places_are vs i (suc n) h = ap (take (suc n)) (drop-cons vs i 0 (omega arith)) ∙ ap (λ (l : List ℕ). get_or vs i 0 ∷ l) (places_are vs (suc i) n (omega arith))

all_places : (vs : List ℕ) (n m : ℕ) → length vs ≡ n + m → vs ≡ places vs 0 n ++ places vs n m
all_places vs n m e =
    sym (take-append-drop n vs)
    ∙ (λ i. places_are vs 0 n (omega arith) i ++ (sym (take_all m (drop n vs) (omega (arith, length-drop n vs))) ∙ places_are vs n m (omega arith)) i)

bytes_at : (vs : List ℕ) (i n : ℕ) → Bytes vs → Bytes (places vs i n)
bytes_at vs i zero b j = lit< tt
bytes_at vs i (suc n) b zero = b i
bytes_at vs i (suc n) b (suc j) = bytes_at vs (suc i) n b j

-- the unused bytes of an array, as they lie in two words
zero_places : (s n m : ℕ) (vs : List ℕ) → length vs ≡ n + m → length (places vs 0 n) ≡ n
    → (are_zero (drop s (places vs 0 n)) && are_zero (drop (s - n) (places vs n m))) ≡ are_zero (drop s vs)
zero_places s n m vs e h =
    ap (λ (k : ℕ). are_zero (drop s (places vs 0 n)) && are_zero (drop (s - k) (places vs n m))) (sym h)
    ∙ sym (zero_parts s (places vs 0 n) (places vs n m))
    ∙ ap (λ (l : List ℕ). are_zero (drop s l)) (sym (all_places vs n m e))

-- ---- the state in front of a word, the mark behind one
no_product : (x k : ℕ) → x * 2 ^ k ≡ 0 → x ≡ 0
no_product zero k e = refl
no_product (suc x) k e = absurd (omega (arith, pow_pos k, e))

zero_sum : (k x y : ℕ) → eqb (x * 2 ^ k + y) 0 ≡ (eqb y 0 && eqb x 0)
zero_sum k x y =
    same_test (eqb (x * 2 ^ k + y) 0) (eqb y 0 && eqb x 0)
    (λ t. let e = eqb→eq (x * 2 ^ k + y) 0 t in both (eqb y 0) (eqb x 0) (true_T (eq-eqb y 0 (omega arith))) (true_T (eq-eqb x 0 (no_product x k (omega arith)))))
    (λ t. true_T (eq-eqb (x * 2 ^ k + y) 0 (ap (λ (z : ℕ). z * 2 ^ k + y) (eqb→eq x 0 (right (eqb y 0) (eqb x 0) t)) ∙ omega (arith, eqb→eq y 0 (left (eqb y 0) (eqb x 0) t)))))

-- two numbers in one word
clear_both : (k a m b n : ℕ) → b < 2 ^ k → n < 2 ^ k → eqb (bit_and (a * 2 ^ k + b) (m * 2 ^ k + n)) 0 ≡ (eqb (bit_and b n) 0 && eqb (bit_and a m) 0)
clear_both k a m b n h l = ap (λ (w : ℕ). eqb w 0) (and_block k a m b n h l) ∙ zero_sum k (bit_and a m) (bit_and b n)

head_word : (st : ℕ) (xs : List ℕ) → word (st ∷ xs) ≡ word xs * 2 ^ 8 + st
unfolding word
head_word st xs = omega arith

clear_head : (st m : ℕ) (xs : List ℕ) → st < 256 → eqb (bit_and (word (st ∷ xs)) (m * 2 ^ 8 + bits_from 5 8)) 0 ≡ (ltb st 32 && eqb (bit_and (word xs) m) 0)
clear_head st m xs b =
    ap (λ (k : ℕ). eqb (bit_and k (m * 2 ^ 8 + bits_from 5 8)) 0) (head_word st xs)
    ∙ clear_both 8 (word xs) m st (bits_from 5 8) b (lit< tt)
    ∙ ap (λ (t : Bool). t && eqb (bit_and (word xs) m) 0) (clear_below st 5 8 b)

tail_word : (mark : ℕ) (ys : List ℕ) → word (ys ++ mark ∷ []) ≡ mark * 2 ^ (8 * length ys) + word ys
unfolding word
tail_word mark [] = omega arith
tail_word mark (y ∷ ys) = rw (next_byte (length ys), tail_word mark ys) (omega arith)

clear_tail : (mark s : ℕ) (ys : List ℕ) → mark < 256 → Bytes ys
    → eqb (bit_and (word (ys ++ mark ∷ [])) (bits_from 1 8 * 2 ^ (8 * length ys) + bits_from (8 * s) (8 * length ys))) 0 ≡ (are_zero (drop s ys) && is_yes_or_no mark)
clear_tail mark s ys h b =
    let m : ℕ = 8 * length ys in
    ap (λ (k : ℕ). eqb (bit_and k (bits_from 1 8 * 2 ^ m + bits_from (8 * s) m)) 0) (tail_word mark ys)
    ∙ clear_both m mark (bits_from 1 8) (word ys) (bits_from (8 * s) m) (word_below ys b) (omega (arith, pow_pos (8 * s), pow_pos m))
    ∙ (λ i. clear_bytes s ys b i && clear_below mark 1 8 h i)

-- ---- a record behind another
pub not_above : (last id : ℕ) (ok : Bool) → id ≤ last → (ltb last id && ok) ≡ false
not_above last id ok h = ap (λ (t : Bool). t && ok) (le-ltb last id h)

regroup : (a u x y m : Bool) → ((a && (u && x)) && (y && m)) ≡ ((a && (u && (x && y))) && m)
regroup true true true y m = refl
regroup true true false y m = refl
regroup true false x y m = refl
regroup false u x y m = refl

module _ (d : Datapoint) (last : ℕ) where
  pub not_coded : 14 < d.typecode → (ltb last d.id && datapoint_ok d) ≡ false
  unfolding datapoint_ok
  not_coded h = simp (lt-leb d.typecode 14 h, and-false)

  tests_left : d.typecode ≤ 14 → last < d.id → length d.value ≡ 14
      → ((ltb d.state 32 && (unused_bits_ok d.typecode (take (size_of d.typecode) d.value) && are_zero (drop (size_of d.typecode) d.value))) && is_yes_or_no d.mark) ≡ (ltb last d.id && datapoint_ok d)
  unfolding datapoint_ok value_of is_padded
  tests_left k h n =
      simp (lt-ltb last d.id h, le-leb d.typecode 14 k, eq-eqb (length d.value) 14 n, le-leb (size_of d.typecode) 14 (size_fits d.typecode), and_assoc)

  pub datapoint_fits_lem : d.typecode ≤ 14 → last < d.id → length d.value ≡ 14 → Bytes d.value → d.state < 256 → d.mark < 256
      → are_clear (datapoint_masks d.typecode) (word (d.state ∷ places d.value 0 7)) (word (places d.value 7 7 ++ d.mark ∷ [])) ≡ (ltb last d.id && datapoint_ok d)
  unfolding are_clear datapoint_masks
  datapoint_fits_lem k h n b bs bm =
      let s : ℕ = size_of d.typecode in
      let xs : List ℕ = places d.value 0 7 in
      let ys : List ℕ = places d.value 7 7 in
      let u : Bool = unused_bits_ok d.typecode (take s (xs ++ ys)) in
      let m : Bool = is_yes_or_no d.mark in
      (λ i. clear_head d.state (bits_from (used_bits d.typecode) 56) xs bs i && clear_tail d.mark (s - 7) ys bm (bytes_at d.value 7 7 b) i)
      ∙ ap (λ (t : Bool). (ltb d.state 32 && t) && (are_zero (drop (s - 7) ys) && m)) (clear_bits d.typecode (get_or d.value 0 0) (places d.value 1 6) ys (bytes_at d.value 0 7 b))
      ∙ regroup (ltb d.state 32) u (are_zero (drop s xs)) (are_zero (drop (s - 7) ys)) m
      ∙ ap (λ (t : Bool). (ltb d.state 32 && (u && t)) && m) (zero_places s 7 7 d.value n refl)
      ∙ ap (λ (l : List ℕ). (ltb d.state 32 && (unused_bits_ok d.typecode (take s l) && are_zero (drop s d.value))) && m) (sym (all_places d.value 7 7 n))
      ∙ tests_left k h n

-- ---- an item's size and its byte writable as one number, lessened by 1 and with a bit above them
abbrev pub size_and_writable : ℕ → ℕ → ℕ
size_and_writable size writable = size + writable * 0x100 + 0xFFFF

module _ (size writable : ℕ) where
  sized : 1 ≤ size → size ≤ 16 → size_and_writable size writable / 0x10 % 0x10 ≡ 0
  sized l h = omega arith

  size_of_lem : size < 256 → size_and_writable size writable / 0x10 % 0x10 ≡ 0 → (1 ≤ size) × (size ≤ 16)
  size_of_lem b e = (omega arith, omega arith)

  two_valued_lem : 1 ≤ size → size ≤ 16 → writable < 2 → size_and_writable size writable / 0x200 % 0x80 ≡ 0
  two_valued_lem l h b = omega arith

  two_valued_of : 1 ≤ size → size ≤ 16 → writable < 256 → size_and_writable size writable / 0x200 % 0x80 ≡ 0 → writable < 2
  two_valued_of l h b e = omega arith

  -- the place of the last byte in use
  last_of : 1 ≤ size → size ≤ 16 → size_and_writable size writable % 0x10 + 1 ≡ size
  last_of l h = omega arith

module _ (i : Item) (last : ℕ) where
  pub no_size : (size_and_writable i.size i.writable / 0x10 % 0x10 ≡ 0 → ⊥) → (ltb last i.id && item_ok i) ≡ false
  unfolding item_ok is_padded
  no_size n = go (leb 1 i.size) (leb i.size 16) refl refl
    where
      go : (u v : Bool) → leb 1 i.size ≡ u → leb i.size 16 ≡ v → (ltb last i.id && item_ok i) ≡ false
      go true true p q = absurd (n (sized i.size i.writable (leb-true 1 i.size p) (leb-true i.size 16 q)))
      go true false p q = simp (q, and-false)
      go false v p q = simp (p, and-false)

  pub no_writable : i.size < 256 → size_and_writable i.size i.writable / 0x10 % 0x10 ≡ 0 → (size_and_writable i.size i.writable / 0x200 % 0x80 ≡ 0 → ⊥) → (ltb last i.id && item_ok i) ≡ false
  unfolding item_ok
  no_writable b e n = go (is_yes_or_no i.writable) refl
    where
      go : (u : Bool) → is_yes_or_no i.writable ≡ u → (ltb last i.id && item_ok i) ≡ false
      go true p = let s = size_of_lem i.size i.writable b e in absurd (n (two_valued_lem i.size i.writable s.0 s.1 (ltb-true i.writable 2 p)))
      go false p = simp (p, and-false)

  pub item_fits_lem : i.size < 256 → i.writable < 256 → size_and_writable i.size i.writable / 0x10 % 0x10 ≡ 0 → size_and_writable i.size i.writable / 0x200 % 0x80 ≡ 0 → last < i.id → length i.bytes ≡ 16 → Bytes i.bytes
      → are_clear (item_masks (size_and_writable i.size i.writable % 0x10 + 1)) (word (places i.bytes 0 8)) (word (places i.bytes 8 8)) ≡ (ltb last i.id && item_ok i)
  unfolding are_clear item_masks item_ok is_padded
  item_fits_lem bs bw e f h n b =
      let s = size_of_lem i.size i.writable bs e in
      let m : i.writable < 2 = two_valued_of i.size i.writable s.0 s.1 bw f in
      ap (λ (k : ℕ). are_clear (item_masks k) (word (places i.bytes 0 8)) (word (places i.bytes 8 8))) (last_of i.size i.writable s.0 s.1)
      ∙ (λ j. clear_bytes i.size (places i.bytes 0 8) (bytes_at i.bytes 0 8 b) j && clear_bytes (i.size - 8) (places i.bytes 8 8) (bytes_at i.bytes 8 8 b) j)
      ∙ zero_places i.size 8 8 i.bytes n refl
      ∙ simp (lt-ltb last i.id h, le-leb 1 i.size s.0, le-leb i.size 16 s.1, eq-eqb (length i.bytes) 16 n, lt-ltb i.writable 2 m, and-true)
