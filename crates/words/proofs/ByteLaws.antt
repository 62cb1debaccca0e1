-- Laws of bytes: tested to be 0, made 0, written over a part of a buffer.
use Rattle.std.proofs.Common.{◌≡◌, ℕ, ◌+◌, ◌-◌, ◌<◌, ◌≤◌, Bool, true, false, ◌&&◌, eqb, List, [], ◌∷◌, ◌++◌, length, get_or, take, drop, bit_or, fold, sym, refl, ap, ◌∙◌, append_assoc, arith, length-append, length-take, length-drop, take-append-drop, length-take-le, take_at, drop_at, drop-drop, take-take, get_or-append-add, get_or-take, get_or-drop, ne_eqb}
use mathlib.Core.Bool.{and-true, and_assoc}
use native.Mathlib.Decide.{ℕ_discrete}
use lib.Bits.{or_zero_l, or_add_and, and_le_r}
use Rattle.std.proofs.lemmas.List.{take-append-le, drop-append-le}
use Rattle.std.proofs.lemmas.List.Edits.{sets, sets-eq}
use lib.ListN.{get_or-append}
use lib.Seq.{drop-append-add}
use Rattle.words.specs.Words.{are_zero, put}

-- ---- bytes tested to be 0
or_zero : (a b : ℕ) → eqb (bit_or a b) 0 ≡ (eqb a 0 && eqb b 0)
or_zero a b = go (ℕ_discrete a 0)
  where
    go : Dec (a ≡ 0) → eqb (bit_or a b) 0 ≡ (eqb a 0 && eqb b 0)
    go (yes e) = rw e (ap (λ (k : ℕ). eqb k 0) (or_zero_l b))
    go (no n) = ne_eqb (bit_or a b) 0 (λ e. n (omega (arith, or_add_and a b, and_le_r a b))) ∙ sym (ap (λ (t : Bool). t && eqb b 0) (ne_eqb a 0 n))

-- by the bits that any byte has
pub zero_folded : (s : List ℕ) (any : ℕ) → eqb (fold bit_or any s) 0 ≡ (eqb any 0 && are_zero s)
unfolding are_zero
zero_folded [] any = sym (and-true (eqb any 0))
zero_folded (x ∷ s) any = zero_folded s (bit_or any x) ∙ ap (λ (t : Bool). t && are_zero s) (or_zero any x) ∙ and_assoc (eqb any 0) (eqb x 0) (are_zero s)

and_second : (a b : Bool) → (a && b) ≡ true → b ≡ true
and_second true b e = e
and_second false true e = refl
and_second false false e = e

zero_append : (xs ys : List ℕ) → are_zero (xs ++ ys) ≡ (are_zero xs && are_zero ys)
unfolding are_zero
zero_append [] ys = refl
zero_append (x ∷ xs) ys = ap (λ (t : Bool). eqb x 0 && t) (zero_append xs ys) ∙ sym (and_assoc (eqb x 0) (are_zero xs) (are_zero ys))

-- s from its start up to `rest`, all of it 0
pub record ZeroUpTo (s rest : List ℕ) : Type 0 where
  pub passed : List ℕ
  pub split : s ≡ passed ++ rest
  pub zero : are_zero passed ≡ true

pub zero_none : (s : List ℕ) → ZeroUpTo s s
zero_none s = record { passed = []; split = refl; zero = unfold are_zero in refl }

pub zero_more : (s run rest : List ℕ) → ZeroUpTo s (run ++ rest) → are_zero run ≡ true → ZeroUpTo s rest
zero_more s run rest z e =
    record {
      passed = z.passed ++ run;
      split = z.split ∙ sym (append_assoc z.passed run rest);
      zero = zero_append z.passed run ∙ rw (z.zero, e);
    }

pub zero_fails : (s run rest : List ℕ) → ZeroUpTo s (run ++ rest) → are_zero run ≡ false → are_zero s ≡ false
zero_fails s run rest z e = ap are_zero z.split ∙ rw (zero_append z.passed (run ++ rest), z.zero, zero_append run rest, e)

-- the last bytes, more than `rest` has, are tested anew
pub zero_last : (s rest : List ℕ) (k : ℕ) → ZeroUpTo s rest → k + length rest ≤ length s → are_zero (drop k s) ≡ are_zero s
zero_last s rest k z h =
    let n : k ≤ length z.passed = omega (arith, ap length z.split, length-append z.passed rest) in
    let p : (are_zero (take k z.passed) && are_zero (drop k z.passed)) ≡ true = sym (zero_append (take k z.passed) (drop k z.passed)) ∙ ap are_zero (take-append-drop k z.passed) ∙ z.zero in
    ap (λ (l : List ℕ). are_zero (drop k l)) z.split
    ∙ rw (drop-append-le k z.passed rest n, zero_append (drop k z.passed) rest, and_second (are_zero (take k z.passed)) (are_zero (drop k z.passed)) p)
    (sym (ap are_zero z.split ∙ zero_append z.passed rest ∙ ap (λ (t : Bool). t && are_zero rest) z.zero))

-- ---- bytes written over a part of a buffer
pub length-put : (l : List ℕ) (at : ℕ) (vs : List ℕ) → at + length vs ≤ length l → length (put l at vs) ≡ length l
unfolding put
length-put l at vs h = simp (length-append, length-take, length-drop) (omega arith)

-- stores in a row are one write
pub put_sets : (vs l : List ℕ) (at : ℕ) → at + length vs ≤ length l → sets l at vs ≡ put l at vs
unfolding put
put_sets vs l at h = sets-eq vs l at h

-- two writes in a row are one
pub put-put : (l : List ℕ) (at k : ℕ) (vs ws : List ℕ) → k ≡ at + length vs → at + length vs + length ws ≤ length l → put (put l at vs) k ws ≡ put l at (vs ++ ws)
unfolding put
put-put l at k vs ws e h =
    let p : List ℕ = take at l ++ vs in
    let d : List ℕ = drop (at + length vs) l in
    let n : length p ≡ at + length vs = simp (length-append, length-take) (omega arith) in
    let t : take k (p ++ d) ≡ p = take_at p d k (omega arith) in
    let r : drop (k + length ws) (p ++ d) ≡ drop (length ws) d =
    ap (λ (j : ℕ). drop j (p ++ d)) {x = k + length ws} {y = length p + length ws} (omega arith) ∙ drop-append-add p d (length ws) in
    let q : drop (length ws) d ≡ drop (at + length (vs ++ ws)) l =
    drop-drop (length ws) (at + length vs) l ∙ ap (λ (j : ℕ). drop j l) {x = at + length vs + length ws} {y = at + length (vs ++ ws)} (omega (arith, length-append vs ws)) in
    rw (t, r, q) (ap (λ (x : List ℕ). x ++ drop (at + length (vs ++ ws)) l) (append_assoc (take at l) vs ws))

-- a write right in front of another
pub put_in_front : (l : List ℕ) (at k : ℕ) (vs ws : List ℕ) → k ≡ at + length vs → k + length ws ≤ length l → put (put l k ws) at vs ≡ put l at (vs ++ ws)
unfolding put
put_in_front l at k vs ws e h =
    let r : List ℕ = drop (k + length ws) l in
    let t : take at (take k l ++ ws ++ r) ≡ take at l =
    ap (take at) (append_assoc (take k l) ws r) ∙ take-append-le at (take k l) (ws ++ r) (simp length-take (omega arith)) ∙ take-take at k l (omega arith) in
    let d : drop (at + length vs) (take k l ++ ws ++ r) ≡ ws ++ r =
    ap (drop (at + length vs)) (append_assoc (take k l) ws r) ∙ drop_at (take k l) (ws ++ r) (at + length vs) (length-take-le k l (omega arith) ∙ e) in
    let q : r ≡ drop (at + length (vs ++ ws)) l = ap (λ (j : ℕ). drop j l) {x = k + length ws} {y = at + length (vs ++ ws)} (omega (arith, length-append vs ws)) in
    rw (t, d) (ap (λ (x : List ℕ). take at l ++ vs ++ (ws ++ x)) q ∙ simp append_assoc)

-- what stands behind the bytes written may count as written
pub put_with : (l : List ℕ) (at n : ℕ) (vs : List ℕ) → at + length vs + n ≤ length l → put l at vs ≡ put l at (vs ++ take n (drop (at + length vs) l))
unfolding put
put_with l at n vs h =
    let d : List ℕ = drop (at + length vs) l in
    let k : length (take n d) ≡ n = length-take-le n d (omega (arith, length-drop (at + length vs) l)) in
    let e : drop n d ≡ drop (at + length (vs ++ take n d)) l =
    drop-drop n (at + length vs) l ∙ ap (λ (j : ℕ). drop j l) {x = at + length vs + n} {y = at + length (vs ++ take n d)} (omega (arith, length-append vs (take n d))) in
    ap (λ (r : List ℕ). take at l ++ vs ++ r) (sym (take-append-drop n d) ∙ ap (λ (r : List ℕ). take n d ++ r) e)
    ∙ simp append_assoc

-- what was written is read
pub put_read : (l : List ℕ) (at k n : ℕ) (vs ws : List ℕ) → at + length vs + length ws ≤ length l → k ≡ at + length vs → n ≡ length ws → take n (drop k (put l at (vs ++ ws))) ≡ ws
unfolding put
put_read l at k n vs ws h e m =
    let p : List ℕ = take at l ++ vs in
    let r : List ℕ = drop (at + length (vs ++ ws)) l in
    let g : put l at (vs ++ ws) ≡ p ++ (ws ++ r) = simp append_assoc in
    let d : drop k (p ++ (ws ++ r)) ≡ ws ++ r = drop_at p (ws ++ r) k (simp (length-append, length-take) (omega arith)) in
    rw (g, d) (take_at ws r n (sym m))

-- byte by byte: those written where they are, and the buffer's in front and behind
module _ (l : List ℕ) (at : ℕ) (vs : List ℕ) (h : at + length vs ≤ length l) where
  abbrev front : List ℕ
  front = take at l ++ vs

  abbrev behind : List ℕ
  behind = drop (at + length vs) l

  taken_long : length (take at l) ≡ at
  taken_long = length-take-le at l (omega (arith, h))

  front_long : length front ≡ at + length vs
  front_long = omega (arith, length-append (take at l) vs, taken_long)

  pub get_d_put_within : (k : ℕ) → at ≤ k → k < at + length vs → get_or (put l at vs) k 0 ≡ get_or vs (k - at) 0
  unfolding put
  get_d_put_within k a b =
      get_or-append front behind 0 k (omega (arith, front_long, b))
      ∙ ap (λ (n : ℕ). get_or front n 0) {x = k} {y = length (take at l) + (k - at)} (omega (arith, taken_long, a))
      ∙ get_or-append-add (take at l) vs (k - at) 0

  pub get_d_put_front : (k : ℕ) → k < at → get_or (put l at vs) k 0 ≡ get_or l k 0
  unfolding put
  get_d_put_front k b =
      get_or-append front behind 0 k (omega (arith, front_long, b)) ∙ get_or-append (take at l) vs 0 k (omega (arith, taken_long, b)) ∙ get_or-take at l k 0 b

  pub get_d_put_behind : (k : ℕ) → at + length vs ≤ k → get_or (put l at vs) k 0 ≡ get_or l k 0
  unfolding put
  get_d_put_behind k b =
      let j : ℕ = k - (at + length vs) in
      ap (λ (n : ℕ). get_or (front ++ behind) n 0) {x = k} {y = length front + j} (omega (arith, front_long, b))
      ∙ get_or-append-add front behind j 0 ∙ get_or-drop (at + length vs) l j 0 ∙ ap (λ (n : ℕ). get_or l n 0) {x = at + length vs + j} {y = k} (omega (arith, b))
