-- A line is read byte by byte, and a script line by line.
use Rattle.std.proofs.Common.{◌≡◌, ℕ, zero, suc, min, ◌+◌, ◌-◌, ◌*◌, ◌/◌, ◌<◌, ◌≤◌, Bool, true, false, eqb, ltb, List, [], ◌∷◌, length, get_or, take, drop, set, replicate, sym, refl, ap, ◌∙◌, add-one, arith, drop-drop, ltb-false, ltb-true, eq-eqb, ne_eqb}
use Rattle.std.proofs.lemmas.List.{drop-set-lt}
use Rattle.script.specs.Line.{line_end, onto, lines, byte_of, byte_count, written, read_line}

-- ---- the bytes of a line, one after the other: k of them stand, and behind them 0
pub record Reading (s bytes : List ℕ) (k : ℕ) : Type 0 where
  pub first : bytes ≡ written s k
  pub behind : drop k bytes ≡ replicate (264 - k) 0

pub reading_begins : (s : List ℕ) → Reading s (replicate 264 0) 0
unfolding written
reading_begins s = record { first = refl; behind = refl }

less_behind : (bytes : List ℕ) (k : ℕ) → k < 264 → drop k bytes ≡ replicate (264 - k) 0 → drop (k + 1) bytes ≡ replicate (264 - (k + 1)) 0
less_behind bytes k l e =
    let m : 264 - k ≡ suc (264 - (k + 1)) = omega arith in
    sym (drop-drop 1 k bytes) ∙ ap (drop 1) (e ∙ ap (λ (n : ℕ). replicate n 0) m)

pub reading_goes : (s bytes : List ℕ) (k b : ℕ) → b ≡ byte_of (get_or s (3 * k + 2) 0) (get_or s (3 * k + 3) 0) → k < 264 → Reading s bytes k → Reading s (set bytes k b) (k + 1)
unfolding written
reading_goes s bytes k b e l r =
    let low : 3 * k + 3 ≡ 3 * k + 2 + 1 = omega arith in
    let f : b ≡ byte_of (get_or s (3 * k + 2) 0) (get_or s (3 * k + 2 + 1) 0) = e ∙ (λ i. byte_of (get_or s (3 * k + 2) 0) (get_or s (low i) 0)) in
    record {
      first = rw (add-one, f, r.first) refl;
      behind = drop-set-lt (k + 1) bytes k b (omega arith) ∙ less_behind bytes k l r.behind;
    }

count_is : (s : List ℕ) → min ((length s - 1) / 3) 264 ≡ byte_count s
unfolding byte_count
count_is s = go (ltb ((length s - 1) / 3) 264) refl
  where
    go : (t : Bool) → ltb ((length s - 1) / 3) 264 ≡ t → min ((length s - 1) / 3) 264 ≡ byte_count s
    go true e = rw e (omega (arith, ltb-true ((length s - 1) / 3) 264 e))
    go false e = rw e (omega (arith, ltb-false ((length s - 1) / 3) 264 e))

pub reading_ends : (s bytes : List ℕ) (k n : ℕ) → n ≡ min ((length s - 1) / 3) 264 → n ≤ k → k ≤ n → Reading s bytes k → record { letter = get_or s 0 0; bytes = bytes; size = n } ≡ read_line s
unfolding read_line
reading_ends s bytes k n e l m r =
    let g : n ≡ byte_count s = e ∙ count_is s in
    let h : k ≡ byte_count s = omega (arith, g) in
    rw (r.first, h, g) refl

pub count_fits : (s : List ℕ) → (read_line s).size ≤ 264
unfolding read_line byte_count
count_fits s = go (ltb ((length s - 1) / 3) 264) refl
  where
    go : (t : Bool) → ltb ((length s - 1) / 3) 264 ≡ t → byte_count s ≤ 264
    go true e = rw e (omega (arith, ltb-true ((length s - 1) / 3) 264 e))
    go false e = rw e (omega arith)

-- ---- the end of a line
pub end_found : (s : List ℕ) (i : ℕ) → i < length s → get_or s i 0 ≡ 10 → ((k : ℕ) → k < i → get_or s k 0 ≡ 10 → ⊥) → i + 1 ≡ line_end s
unfolding line_end
end_found [] i l e h = absurd (omega (arith, l))
end_found (x ∷ xs) zero l e h = rw (eq-eqb x 10 e) refl
end_found (x ∷ xs) (suc i) l e h =
    let r = end_found xs i (omega (arith, l)) e (λ k m. h (suc k) (omega (arith, m))) in
    rw (ne_eqb x 10 (h 0 (omega arith))) (omega (arith, r))

pub end_absent : (s : List ℕ) → ((k : ℕ) → k < length s → get_or s k 0 ≡ 10 → ⊥) → length s ≡ line_end s
unfolding line_end
end_absent [] h = refl
end_absent (x ∷ xs) h =
    let r = end_absent xs (λ k m. h (suc k) (omega (arith, m))) in
    rw (ne_eqb x 10 (h 0 (omega arith))) (omega (arith, r))

-- ---- the first line, and the others
onto-next : (x : ℕ) (ys : List ℕ) → (0 < length ys → lines ys ≡ take (line_end ys) ys ∷ lines (drop (line_end ys) ys))
    → onto x (lines ys) ≡ (x ∷ take (line_end ys) ys) ∷ lines (drop (line_end ys) ys)
unfolding lines line_end onto
onto-next x [] h = refl
onto-next x (y ∷ ys) h = rw (h (omega arith)) refl

pub lines_next : (s : List ℕ) → 0 < length s → lines s ≡ take (line_end s) s ∷ lines (drop (line_end s) s)
unfolding lines line_end
lines_next [] h = absurd (omega (arith, h))
lines_next (x ∷ xs) h = go (eqb x 10) refl (onto-next x xs (λ k. lines_next xs k))
  where
    go : (t : Bool) → eqb x 10 ≡ t → onto x (lines xs) ≡ (x ∷ take (line_end xs) xs) ∷ lines (drop (line_end xs) xs)
        → lines (x ∷ xs) ≡ take (line_end (x ∷ xs)) (x ∷ xs) ∷ lines (drop (line_end (x ∷ xs)) (x ∷ xs))
    go true e n = rw e refl
    go false e n = rw e n

pub end_within : (s : List ℕ) → line_end s ≤ length s
unfolding line_end
end_within [] = omega arith
end_within (x ∷ xs) = go (eqb x 10) refl (end_within xs)
  where
    go : (t : Bool) → eqb x 10 ≡ t → line_end xs ≤ length xs → line_end (x ∷ xs) ≤ length (x ∷ xs)
    go true e h = rw e (omega arith)
    go false e h = rw e (omega arith)

pub end_some : (s : List ℕ) → 0 < length s → 1 ≤ line_end s
unfolding line_end
end_some [] h = absurd (omega (arith, h))
end_some (x ∷ xs) h = go (eqb x 10) refl
  where
    go : (t : Bool) → eqb x 10 ≡ t → 1 ≤ line_end (x ∷ xs)
    go true e = rw e (omega arith)
    go false e = rw e (omega arith)
