-- Data frames as code builds and tests them: framed where the message stands, and tested by their parts, with a law for each answer.
use Rattle.std.proofs.Common.{◌≡◌, ℕ, suc, ◌+◌, ◌-◌, ◌<◌, ◌≤◌, true, false, ◌&&◌, T, eqb, List, [], ◌∷◌, ◌++◌, length, get_or, take, drop, sym, refl, ap, ◌∙◌, append_assoc, add-one, arith, eqb→eq, length-drop, take-append-drop, length-take-le, get_or-drop, take_all, drop-cons, get_or-take, take-suc, take_at, get_or-append-add, eq-eqb}
use mathlib.Core.Bool.{and-true}
use lib.Seq.{get_or_at}
use Rattle.words.specs.Words.{put, same}
use Rattle.ft12.specs.Frame.{checksum, data_frame, is_whole}
use Rattle.words.proofs.WordLaws.{T_false, true_T, same_test, same→eq, eq→same}
use Rattle.words.proofs.ByteLaws.{put-put, put_with, put_read}
use Rattle.ft12.proofs.ChecksumLaws.{checksum_none, checksum-next}
use Rattle.ft12.proofs.ReceiverLaws.{headed}
use Rattle.ft12.proofs.FrameLaws.{frame_length, whole_tested, tested_whole}

-- the checksum byte by byte
pub ruleset sums = (checksum_none, checksum-next, take_all)

-- the five bytes in front of a message, by L and control
abbrev pub head_of : ℕ → ℕ → List ℕ
head_of l c = headed l (c ∷ [])

-- ---- framed in place
-- head and end written around the n bytes of a message make its frame
pub framed_in_place : (o : List ℕ) (at n c sum : ℕ) → at + n + 7 ≤ length o
    → sum ≡ checksum (take (at + 5 + n - (at + 4)) (drop (at + 4) (put o at (head_of (n + 1) c))))
    → put (put o at (head_of (n + 1) c)) (at + 5 + n) (sum ∷ 0x16 ∷ []) ≡ put o at (data_frame c (take n (drop (at + 5) o)))
unfolding data_frame
framed_in_place o at n c sum h e =
    let m : List ℕ = take n (drop (at + 5) o) in
    let g : List ℕ = head_of (n + 1) c in
    let k : length m ≡ n = length-take-le n (drop (at + 5) o) (omega (arith, length-drop (at + 5) o)) in
    let p : put o at g ≡ put o at (g ++ m) = put_with o at n g (omega arith) in
    let r : take (at + 5 + n - (at + 4)) (drop (at + 4) (put o at (g ++ m))) ≡ c ∷ m =
    put_read o at (at + 4) (at + 5 + n - (at + 4)) (headed (n + 1) []) (c ∷ m) (omega arith) (omega arith) (omega arith) in
    let s : sum ≡ checksum (c ∷ m) = e ∙ rw (p, r) in
    rw p (put-put o at (at + 5 + n) (g ++ m) (sum ∷ 0x16 ∷ []) (omega arith) (omega arith) ∙ rw (s, add-one n, k))

-- ---- the head tested
head_test : (f : List ℕ) (l c : ℕ) → 5 ≤ length f
    → same (take 5 f) (head_of l c) ≡ (eqb (get_or f 0 0) 0x68 && (eqb (get_or f 1 0) l && (eqb (get_or f 2 0) l && (eqb (get_or f 3 0) 0x68 && eqb (get_or f 4 0) c))))
head_test [] l c h = absurd (omega arith)
head_test (x ∷ []) l c h = absurd (omega arith)
head_test (x ∷ y ∷ []) l c h = absurd (omega arith)
head_test (x ∷ y ∷ z ∷ []) l c h = absurd (omega arith)
head_test (x ∷ y ∷ z ∷ u ∷ []) l c h = absurd (omega arith)
head_test (x ∷ y ∷ z ∷ u ∷ v ∷ f) l c h = simp and-true

module _ (f : List ℕ) (l c : ℕ) (h : 5 ≤ length f) where
  pub control_test : get_or f 0 0 ≡ 0x68 → get_or f 1 0 ≡ l → get_or f 2 0 ≡ l → get_or f 3 0 ≡ 0x68 → eqb (get_or f 4 0) c ≡ same (take 5 f) (head_of l c)
  control_test p q r s = rw (head_test f l c h) (simp (eq-eqb _ _ p, eq-eqb _ _ q, eq-eqb _ _ r, eq-eqb _ _ s))

-- ---- the parts of a frame
module _ (c : ℕ) (m : List ℕ) where
  frame_head : take 5 (data_frame c m) ≡ head_of (length (data_frame c m) - 6) c
  frame_head =
      let e : length (data_frame c m) - 6 ≡ suc (length m) = omega (arith, frame_length c m) in
      rw e (unfold data_frame in refl)

  frame_sum : get_or (data_frame c m) (length (data_frame c m) - 2) 0 ≡ checksum (take (length (data_frame c m) - 6) (drop 4 (data_frame c m)))
  frame_sum =
      let e : length (data_frame c m) - 6 ≡ suc (length m) = omega (arith, frame_length c m) in
      let d : length (data_frame c m) - 2 ≡ length (head_of (suc (length m)) c ++ m) = omega (arith, frame_length c m) in
      rw (e, d)
      (unfold data_frame in (get_or_at (head_of (suc (length m)) c ++ m) (checksum (c ∷ m)) (0x16 ∷ []) 0 (length (head_of (suc (length m)) c ++ m)) refl
      ∙ ap checksum (sym (take_at (c ∷ m) (checksum (c ∷ m) ∷ 0x16 ∷ []) (suc (length m)) refl))))

  frame_end : get_or (data_frame c m) (length (data_frame c m) - 1) 0 ≡ 0x16
  frame_end =
      let d : length (data_frame c m) - 1 ≡ length (head_of (suc (length m)) c ++ m) + 1 = omega (arith, frame_length c m) in
      rw d (unfold data_frame in get_or-append-add (head_of (suc (length m)) c ++ m) (checksum (c ∷ m) ∷ 0x16 ∷ []) 1 0)

-- the last two bytes apart
last_two : (xs : List ℕ) (n : ℕ) → length xs ≡ suc (suc n) → xs ≡ take n xs ++ (get_or xs n 0 ∷ get_or xs (suc n) 0 ∷ [])
last_two xs n h =
    sym (take_all (suc (suc n)) xs (omega arith))
    ∙ take-suc xs (suc n) 0 (omega arith)
    ∙ ap (λ (r : List ℕ). r ++ (get_or xs (suc n) 0 ∷ [])) (take-suc xs n 0 (omega arith))
    ∙ append_assoc (take n xs) (get_or xs n 0 ∷ []) (get_or xs (suc n) 0 ∷ [])

-- right parts make a whole frame
parts_whole : (c : ℕ) (f : List ℕ) → 7 ≤ length f → length f ≤ 261
    → take 5 f ≡ head_of (length f - 6) c
    → get_or f (length f - 2) 0 ≡ checksum (take (length f - 6) (drop 4 f))
    → get_or f (length f - 1) 0 ≡ 0x16
    → T (is_whole c f)
parts_whole c f h k p s e = whole_tested c f (record { carried = m; short = omega (arith, l); frame = whole })
  where
    n : ℕ
    n = length f - 7

    m : List ℕ
    m = take n (drop 5 f)

    l : length m ≡ n
    l = length-take-le n (drop 5 f) (omega (arith, length-drop 5 f))

    behind : drop 4 f ≡ c ∷ drop 5 f
    behind = drop-cons f 4 0 (omega arith) ∙ ap (λ (x : ℕ). x ∷ drop 5 f) (sym (get_or-take 5 f 4 0 (omega arith)) ∙ ap (λ (r : List ℕ). get_or r 4 0) p)

    count : length f - 6 ≡ suc n
    count = omega arith

    sum : get_or (drop 5 f) n 0 ≡ checksum (c ∷ m)
    sum = get_or-drop 5 f n 0 ∙ ap (λ (i : ℕ). get_or f i 0) {x = 5 + n} {y = length f - 2} (omega arith) ∙ s ∙ rw (count, behind)

    last : get_or (drop 5 f) (suc n) 0 ≡ 0x16
    last = get_or-drop 5 f (suc n) 0 ∙ ap (λ (i : ℕ). get_or f i 0) {x = 5 + suc n} {y = length f - 1} (omega arith) ∙ e

    whole : f ≡ data_frame c m
    whole =
        sym (take-append-drop 5 f)
        ∙ (λ i. (p ∙ ap (λ (j : ℕ). head_of j c) count) i ++ (last_two (drop 5 f) n (omega (arith, length-drop 5 f)) ∙ (λ j. m ++ (sum j ∷ last j ∷ []))) i)
        ∙ (unfold data_frame in rw l)

-- ---- a law for each answer
module _ (c : ℕ) (f : List ℕ) where
  pub whole_short : length f < 7 → false ≡ is_whole c f
  whole_short h = sym (T_false (is_whole c f) (λ t. let w = tested_whole c f t in omega (arith, ap length w.frame, frame_length c w.carried)))

  pub whole_long : 261 < length f → false ≡ is_whole c f
  whole_long h = sym (T_false (is_whole c f) (λ t. let w = tested_whole c f t in omega (arith, ap length w.frame, frame_length c w.carried, w.short)))

  whole_headed : T (is_whole c f) → take 5 f ≡ head_of (length f - 6) c
  whole_headed t = let w = tested_whole c f t in rw w.frame (frame_head c w.carried)

  pub whole_head : false ≡ same (take 5 f) (head_of (length f - 6) c) → false ≡ is_whole c f
  whole_head e = sym (T_false (is_whole c f) (λ t. rw (← e) at (eq→same (take 5 f) (head_of (length f - 6) c) (whole_headed t))))

  whole_summed : T (is_whole c f) → get_or f (length f - 2) 0 ≡ checksum (take (length f - 6) (drop 4 f))
  whole_summed t = let w = tested_whole c f t in rw w.frame (frame_sum c w.carried)

  whole_ended : T (is_whole c f) → get_or f (length f - 1) 0 ≡ 0x16
  whole_ended t = let w = tested_whole c f t in rw w.frame (frame_end c w.carried)

  -- s is the sum as the code takes it
  module _ (h : 7 ≤ length f) (k : length f ≤ 261) (t : true ≡ same (take 5 f) (head_of (length f - 6) c)) (s : ℕ) (e : s ≡ checksum (take (length f - 2 - 4) (drop 4 f))) where
    summed : s ≡ checksum (take (length f - 6) (drop 4 f))
    summed = e ∙ ap (λ (n : ℕ). checksum (take n (drop 4 f))) {x = length f - 2 - 4} {y = length f - 6} (omega arith)

    pub whole_sum : (get_or f (length f - 2) 0 ≡ s → ⊥) → false ≡ is_whole c f
    whole_sum p = sym (T_false (is_whole c f) (λ w. p (whole_summed w ∙ sym summed)))

    pub whole_end : get_or f (length f - 2) 0 ≡ s → eqb (get_or f (length f - 1) 0) 0x16 ≡ is_whole c f
    whole_end p =
        same_test (eqb (get_or f (length f - 1) 0) 0x16) (is_whole c f)
        (λ q. parts_whole c f h k (same→eq (take 5 f) (head_of (length f - 6) c) (true_T (sym t))) (p ∙ summed) (eqb→eq (get_or f (length f - 1) 0) 0x16 q))
        (λ w. true_T (eq-eqb (get_or f (length f - 1) 0) 0x16 (whole_ended w)))
