-- Laws of the words that all definitions share: tests taken apart and put together, lists compared, arrays padded.
use Rattle.std.proofs.Common.{◌≡◌, ℕ, zero, suc, ◌+◌, ◌-◌, ◌≤◌, ◌<◌, Bool, true, false, not, ◌&&◌, T, eqb, leb, ltb, ◌↔◌, List, [], ◌∷◌, ◌++◌, map, length, get_or, take, drop, replicate, refl, sym, ◌∙◌, ap, arith, length-append, length-drop, take-append-drop, length-take-le, get_or-drop, take_all, eqb→eq, leb→le, le→leb, ltb→lt, lt→ltb, eq-eqb}
use lib.ListN.{length-replicate}
use lib.Seq.{take-append_seam, drop-append_seam}
use lib.Dec.{eqb_refl}
use Rattle.words.specs.Words.{is_yes_or_no, is_yes, yes_or_no, is_empty, every, keep, pad, same, same_by, are_zero, is_padded, Padded, are_bytes}

-- ---- tests
pub left : (a b : Bool) → T (a && b) → T a
left true b t = tt
left false b t = t

pub right : (a b : Bool) → T (a && b) → T b
right true b t = t
right false b t = absurd t

pub both : (a b : Bool) → T a → T b → T (a && b)
both true b s t = t
both false b s t = absurd s

-- three and four tests
pub parts3 : (a b c : Bool) → T (a && b && c) → T a × T b × T c
parts3 a b c t = (left a b (left (a && b) c t), right a b (left (a && b) c t), right (a && b) c t)

pub parts4 : (a b c d : Bool) → T (a && b && c && d) → T a × T b × T c × T d
parts4 a b c d t = let p = parts3 a b c (left (a && b && c) d t) in (p.0, p.1, p.2, right (a && b && c) d t)

pub join3 : (a b c : Bool) → T a → T b → T c → T (a && b && c)
join3 a b c s t u = both (a && b) c (both a b s t) u

pub join4 : (a b c d : Bool) → T a → T b → T c → T d → T (a && b && c && d)
join4 a b c d s t u v = both (a && b && c) d (join3 a b c s t u) v

pub T_true : (b : Bool) → T b → b ≡ true
T_true true t = refl
T_true false t = absurd t

pub true_T : {b : Bool} → b ≡ true → T b
true_T {b} e = rw e tt

pub T_false : (b : Bool) → (T b → ⊥) → b ≡ false
T_false true f = absurd (f tt)
T_false false f = refl

-- two tests that decide the same are one
pub same_test : (a b : Bool) → (T a → T b) → (T b → T a) → a ≡ b
same_test true b f g = sym (T_true b (f tt))
same_test false b f g = sym (T_false b g)

-- ---- a byte that is 0 or 1: written and read, read and written
pub read_written : (said : Bool) → is_yes (yes_or_no said) ≡ said
read_written true = refl
read_written false = refl

pub written_is : (said : Bool) → T (is_yes_or_no (yes_or_no said))
written_is true = tt
written_is false = tt

pub written_read : (b : ℕ) → T (is_yes_or_no b) → yes_or_no (is_yes b) ≡ b
written_read b t = go (is_yes b) refl
  where
    go : (u : Bool) → is_yes b ≡ u → yes_or_no u ≡ b
    go true e = omega (arith, eqb→eq b 1 (true_T e))
    go false e = let n : (b ≡ 1 → ⊥) = λ q. absurd (simp e at (true_T (eq-eqb b 1 q))) in omega (arith, ltb→lt b 2 t, n)

-- ---- every
pub every_imp : {A : Type 0} (p q : A → Bool) → ((x : A) → T (p x) → T (q x)) → (xs : List A) → T (every p xs) → T (every q xs)
every_imp p q h [] t = tt
every_imp p q h (x ∷ xs) t = both (q x) (every q xs) (h x (left (p x) (every p xs) t)) (every_imp p q h xs (right (p x) (every p xs) t))

pub every_true : {A : Type 0} (xs : List A) → T (every (λ (x : A). true) xs)
every_true [] = tt
every_true (x ∷ xs) = every_true xs

pub every_map : {A B : Type 0} (f : A → B) (p : B → Bool) (q : A → Bool) → ((x : A) → T (q x) → T (p (f x))) → (xs : List A) → T (every q xs) → T (every p (map f xs))
every_map f p q h [] t = tt
every_map f p q h (x ∷ xs) t = both (p (f x)) (every p (map f xs)) (h x (left (q x) (every q xs) t)) (every_map f p q h xs (right (q x) (every q xs) t))

pub every-keep : {A : Type 0} (p q : A → Bool) (xs : List A) → T (every q xs) → T (every q (keep p xs))
every-keep p q [] t = tt
every-keep {A} p q (x ∷ xs) t = go (p x) refl (every-keep p q xs (right (q x) (every q xs) t))
  where
    go : (u : Bool) → p x ≡ u → T (every q (keep p xs)) → T (every q (keep p (x ∷ xs)))
    go true e r = simp e (both (q x) (every q (keep p xs)) (left (q x) (every q xs) t) r)
    go false e r = simp e r

pub every_append : {A : Type 0} (p : A → Bool) (xs ys : List A) → T (every p xs) → T (every p ys) → T (every p (xs ++ ys))
every_append p [] ys s t = t
every_append p (x ∷ xs) ys s t = both (p x) (every p (xs ++ ys)) (left (p x) (every p xs) s) (every_append p xs ys (right (p x) (every p xs) s) t)

pub every_prefix : {A : Type 0} (p : A → Bool) (xs ys : List A) → T (every p (xs ++ ys)) → T (every p xs)
every_prefix p [] ys t = tt
every_prefix p (x ∷ xs) ys t = both (p x) (every p xs) (left (p x) (every p (xs ++ ys)) t) (every_prefix p xs ys (right (p x) (every p (xs ++ ys)) t))

pub every_suffix : {A : Type 0} (p : A → Bool) (xs ys : List A) → T (every p (xs ++ ys)) → T (every p ys)
every_suffix p [] ys t = t
every_suffix p (x ∷ xs) ys t = every_suffix p xs ys (right (p x) (every p (xs ++ ys)) t)

-- ---- what is kept
pub keep_append : {A : Type 0} (p : A → Bool) (xs ys : List A) → keep p (xs ++ ys) ≡ keep p xs ++ keep p ys
keep_append p [] ys = refl
keep_append {A} p (x ∷ xs) ys = go (p x) refl (keep_append p xs ys)
  where
    go : (u : Bool) → p x ≡ u → keep p (xs ++ ys) ≡ keep p xs ++ keep p ys → keep p ((x ∷ xs) ++ ys) ≡ keep p (x ∷ xs) ++ keep p ys
    go true e r = simp e (ap (λ (l : List A). x ∷ l) r)
    go false e r = simp e r

-- what passes a test and what does not are all
pub kept_and_not : {A : Type 0} (p : A → Bool) (xs : List A) → length (keep (λ x. not (p x)) xs) + length (keep p xs) ≡ length xs
kept_and_not p [] = refl
kept_and_not {A} p (x ∷ xs) = go (p x) refl (kept_and_not p xs)
  where
    go : (u : Bool) → p x ≡ u → length (keep (λ (y : A). not (p y)) xs) + length (keep p xs) ≡ length xs
        → length (keep (λ (y : A). not (p y)) (x ∷ xs)) + length (keep p (x ∷ xs)) ≡ length (x ∷ xs)
    go true e r = simp e (omega (arith, r))
    go false e r = simp e (omega (arith, r))

-- ---- lists compared
pub same_by→eq : {A : Type 0} (eq : A → A → Bool) → ((x y : A) → T (eq x y) → x ≡ y) → (xs ys : List A) → T (same_by eq xs ys) → xs ≡ ys
same_by→eq eq h [] [] t = refl
same_by→eq eq h [] (y ∷ ys) t = absurd t
same_by→eq eq h (x ∷ xs) [] t = absurd t
same_by→eq {A} eq h (x ∷ xs) (y ∷ ys) t =
    let p : x ≡ y = h x y (left (eq x y) (same_by eq xs ys) t) in
    let q : xs ≡ ys = same_by→eq eq h xs ys (right (eq x y) (same_by eq xs ys) t) in
    λ i. p i ∷ q i

pub some_filled : {A : Type 0} (s : List A) → 0 < length s → is_empty s ≡ false
some_filled [] h = absurd (omega arith)
some_filled (x ∷ s) h = refl

pub empty_eq : {A : Type 0} (s : List A) → is_empty s ≡ true → s ≡ []
empty_eq [] e = refl
empty_eq (x ∷ s) e = absurd (true_T e)

pub same→eq : (xs ys : List ℕ) → T (same xs ys) → xs ≡ ys
same→eq = same_by→eq eqb eqb→eq

pub same_refl : (s : List ℕ) → T (same s s)
same_refl [] = tt
same_refl (x ∷ s) = both (eqb x x) (same s s) (eqb_refl x) (same_refl s)

pub eq→same : (xs ys : List ℕ) → xs ≡ ys → T (same xs ys)
eq→same xs ys e = rw e (same_refl ys)

-- what a call with the part of a slice from place k on is lent
pub rest_whole : (k : ℕ) (s : List ℕ) → take (length s - k) (drop k s) ≡ drop k s
rest_whole k s = take_all (length s - k) (drop k s) (omega (arith, length-drop k s))

-- ---- padding
pub take-pad : (n : ℕ) (s : List ℕ) → take (length s) (pad n s) ≡ s
take-pad n s = take-append_seam s (replicate (n - length s) 0)

zeros : (k : ℕ) → T (are_zero (replicate k 0))
unfolding are_zero
zeros zero = tt
zeros (suc k) = zeros k

length-pad : (n : ℕ) (s : List ℕ) → length s ≤ n → length (pad n s) ≡ n
length-pad n s h = omega (arith, length-append s (replicate (n - length s) 0), length-replicate {A = ℕ} (n - length s) 0)

pub pad_padded : (places n : ℕ) (s : List ℕ) → length s ≡ n → n ≤ places → T (is_padded places n (pad places s))
unfolding is_padded
pad_padded places n s e h =
    join3 (eqb (length (pad places s)) places) (leb n places) (are_zero (drop n (pad places s)))
    (true_T (eq-eqb (length (pad places s)) places (length-pad places s (omega arith))))
    (le→leb n places h)
    (rw (← e) (rw (drop-append_seam s (replicate (places - length s) 0)) (zeros (places - length s))))

-- ---- bytes
-- at a place behind them 0 is had
pub bytes_at : (s : List ℕ) (i : ℕ) → T (are_bytes s) → get_or s i 0 < 256
unfolding are_bytes
bytes_at [] i t = omega arith
bytes_at (x ∷ s) zero t = ltb→lt x 256 (left (ltb x 256) (every (λ b. ltb b 256) s) t)
bytes_at (x ∷ s) (suc i) t = bytes_at s i (right (ltb x 256) (every (λ b. ltb b 256) s) t)

pub bytes_take : (n : ℕ) (s : List ℕ) → T (are_bytes s) → T (are_bytes (take n s))
unfolding are_bytes
bytes_take n s t = every_prefix (λ x. ltb x 256) (take n s) (drop n s) (rw (take-append-drop n s) t)

pub bytes_drop : (n : ℕ) (s : List ℕ) → T (are_bytes s) → T (are_bytes (drop n s))
unfolding are_bytes
bytes_drop n s t = every_suffix (λ x. ltb x 256) (take n s) (drop n s) (rw (take-append-drop n s) t)

pub byte_first : (x : ℕ) (s : List ℕ) → x < 256 → T (are_bytes s) → T (are_bytes (x ∷ s))
unfolding are_bytes
byte_first x s low t = both (ltb x 256) (every (λ b. ltb b 256) s) (lt→ltb x 256 low) t

-- ---- a padded array
zeros_at : (s : List ℕ) (i : ℕ) → T (are_zero s) → get_or s i 0 ≡ 0
unfolding are_zero
zeros_at [] i t = refl
zeros_at (x ∷ s) zero t = eqb→eq x 0 (left (eqb x 0) (are_zero s) t)
zeros_at (x ∷ s) (suc i) t = zeros_at s i (right (eqb x 0) (are_zero s) t)

at_zeros : (s : List ℕ) → ((i : ℕ) → get_or s i 0 ≡ 0) → T (are_zero s)
unfolding are_zero
at_zeros [] h = tt
at_zeros (x ∷ s) h = both (eqb x 0) (are_zero s) (true_T (eq-eqb x 0 (h 0))) (at_zeros s (λ i. h (suc i)))

pub padded_decided : (places n : ℕ) (a : List ℕ) → T (is_padded places n a) ↔ Padded places n a
unfolding is_padded
padded_decided places n a = (to, from)
  where
    to : T (is_padded places n a) → Padded places n a
    to t =
        let p = parts3 (eqb (length a) places) (leb n places) (are_zero (drop n a)) t in
        record {
          memory = eqb→eq (length a) places p.0;
          within = leb→le n places p.1;
          unused = λ i h. ap (λ (k : ℕ). get_or a k 0) (omega arith) ∙ sym (get_or-drop n a (i - n) 0) ∙ zeros_at (drop n a) (i - n) p.2;
        }

    from : Padded places n a → T (is_padded places n a)
    from p =
        join3 (eqb (length a) places) (leb n places) (are_zero (drop n a)) (true_T (eq-eqb (length a) places p.memory)) (le→leb n places p.within)
        (at_zeros (drop n a) (λ i. get_or-drop n a i 0 ∙ p.unused (n + i) (omega arith)))

pub zeros_are : (s : List ℕ) → T (are_zero s) → s ≡ replicate (length s) 0
unfolding are_zero
zeros_are [] t = refl
zeros_are (x ∷ s) t =
    let p : x ≡ 0 = eqb→eq x 0 (left (eqb x 0) (are_zero s) t) in
    let q : s ≡ replicate (length s) 0 = zeros_are s (right (eqb x 0) (are_zero s) t) in
    λ i. p i ∷ q i

-- a padded array is its used bytes, padded
pub pad-take : (places n : ℕ) (a : List ℕ) → T (is_padded places n a) → pad places (take n a) ≡ a
unfolding is_padded
pad-take places n a t =
    let p = parts3 (eqb (length a) places) (leb n places) (are_zero (drop n a)) t in
    let e : length a ≡ places = eqb→eq (length a) places p.0 in
    let h : n ≤ places = leb→le n places p.1 in
    let k : length (take n a) ≡ n = length-take-le n a (omega arith) in
    let j : length (drop n a) ≡ places - length (take n a) = omega (arith, length-drop n a) in
    let z : drop n a ≡ replicate (places - length (take n a)) 0 = zeros_are (drop n a) p.2 ∙ ap {B = List ℕ} (λ (i : ℕ). replicate i 0) j in
    ap {B = List ℕ} (λ (r : List ℕ). take n a ++ r) (sym z) ∙ take-append-drop n a

-- how many bytes of it are in use
pub padded_length : (places n : ℕ) (a : List ℕ) → T (is_padded places n a) → length (take n a) ≡ n
unfolding is_padded
padded_length places n a t =
    let p = parts3 (eqb (length a) places) (leb n places) (are_zero (drop n a)) t in
    length-take-le n a (omega (arith, eqb→eq (length a) places p.0, leb→le n places p.1))
