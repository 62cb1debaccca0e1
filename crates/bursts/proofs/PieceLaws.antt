-- The first piece of a run of bytes, by its first bytes: one law for each answer of the code.
use Rattle.std.proofs.Common.{◌≡◌, ℕ, suc, ◌+◌, ◌-◌, ◌*◌, ◌<◌, ◌≤◌, Bool, true, false, T, List, [], ◌∷◌, ◌++◌, length, get_or, take, drop, sym, refl, ap, ◌∙◌, subst, arith, length-append, take-append-drop, length-take-le, get_or-take, take_at, eq-eqb}
use Rattle.ft12.specs.Frame.{acknowledgement, fixed_frame, data_frame, Whole, is_whole}
use Rattle.ft12.specs.Burst.{first_size}
use Rattle.bursts.specs.Word.{four_bytes}
use Rattle.words.specs.Words.{same}
use Rattle.words.proofs.WordLaws.{T_false, true_T, same→eq}
use Rattle.frames.proofs.BuildLaws.{head_of, control_test, whole_head}
use Rattle.ft12.proofs.FrameLaws.{fixed_length, frame_length, whole_tested, tested_whole}
use Rattle.ft12.proofs.FrontLaws.{Form, acknowledges, fixes, carries}
use Rattle.ft12.proofs.BeginningLaws.{front_4}
use Rattle.ft12.proofs.BurstLaws.{form_first, no_form_first}

-- the lowest byte of a number, and what is above it
same_low : (a x b y : ℕ) → a < 256 → b < 256 → a + x * 0x100 ≡ b + y * 0x100 → a ≡ b
same_low a x b y h k e = omega (arith, h, k, e)

same_high : (a x b y : ℕ) → a < 256 → b < 256 → a + x * 0x100 ≡ b + y * 0x100 → x ≡ y
same_high a x b y h k e = omega (arith, h, k, e)

-- four bytes are had back from the number, where the second is known
pub record SameBytes (a c d x y z : ℕ) : Type 0 where
  pub lowest : a ≡ x
  pub third : c ≡ y
  pub highest : d ≡ z

pub same_bytes : (a b c d x y z : ℕ) → a < 256 → b < 256 → c < 256 → x < 256 → y < 256 → four_bytes a b c d ≡ four_bytes x b y z → SameBytes a c d x y z
same_bytes a b c d x y z ha hb hc hx hy e =
    let e0 : a + (b + (c + d * 0x100) * 0x100) * 0x100 ≡ x + (b + (y + z * 0x100) * 0x100) * 0x100 = omega (arith, e) in
    let e1 : b + (c + d * 0x100) * 0x100 ≡ b + (y + z * 0x100) * 0x100 = same_high a (b + (c + d * 0x100) * 0x100) x (b + (y + z * 0x100) * 0x100) ha hx e0 in
    let e2 : c + d * 0x100 ≡ y + z * 0x100 = same_high b (c + d * 0x100) b (y + z * 0x100) hb hb e1 in
    record {
      lowest = same_low a (b + (c + d * 0x100) * 0x100) x (b + (y + z * 0x100) * 0x100) ha hx e0;
      third = same_low c d y z hc hy e2;
      highest = same_high c d y z hc hy e2;
    }

-- the first byte of a form
abbrev pub first : List ℕ → ℕ
first s = get_or s 0 0

module _ (s f rest : List ℕ) (q : s ≡ f ++ rest) where
  first_acknowledgement : f ≡ acknowledgement → first s ≡ 0xE5
  first_acknowledgement e = ap first q ∙ rw e

  first_fixed : (c : ℕ) → f ≡ fixed_frame c → first s ≡ 0x10
  unfolding fixed_frame
  first_fixed c e = ap first q ∙ rw e

  first_data : (c : ℕ) (m : List ℕ) → f ≡ data_frame c m → first s ≡ 0x68
  unfolding data_frame
  first_data c m e = ap first q ∙ rw e

pub acknowledgement_first : (s : List ℕ) → 0 < length s → first s ≡ 0xE5 → first_size s ≡ 1
acknowledgement_first [] h e = absurd (omega arith)
acknowledgement_first (x ∷ s) h e = rw e (form_first acknowledgement s (acknowledges refl))

-- ---- after any byte but 68 and E5: only 10 begins a frame
module _ (s : List ℕ) (p : first s ≡ 0x68 → ⊥) (q : first s ≡ 0xE5 → ⊥) where
  no_fixed : ((c : ℕ) (rest : List ℕ) → s ≡ fixed_frame c ++ rest → ⊥) → first_size s ≡ 0
  no_fixed h = no_form_first s go
    where
      go : (f rest : List ℕ) → Form f → s ≡ f ++ rest → ⊥
      go f rest (acknowledges e) r = q (first_acknowledgement s f rest r e)
      go f rest (fixes c e) r = h c rest (r ∙ ap (λ (l : List ℕ). l ++ rest) e)
      go f rest (carries c m k e) r = p (first_data s f rest r c m e)

  pub fixed_short : length s < 4 → first_size s ≡ 0
  unfolding fixed_frame
  fixed_short h = no_fixed (λ c rest e. omega (arith, ap length e))

  -- its four bytes as one number are those of no fixed frame
  pub fixed_other : (four_bytes (first s) (get_or s 1 0) (get_or s 2 0) (get_or s 3 0) ≡ four_bytes 0x10 (get_or s 1 0) (get_or s 1 0) 0x16 → ⊥) → first_size s ≡ 0
  unfolding fixed_frame
  fixed_other h =
      no_fixed
      (λ c rest e.
      h (omega (arith, ap first e, ap (λ (l : List ℕ). get_or l 1 0) e, ap (λ (l : List ℕ). get_or l 2 0) e, ap (λ (l : List ℕ). get_or l 3 0) e)))

pub fixed_whole : (s : List ℕ) → first s < 256 → get_or s 1 0 < 256 → get_or s 2 0 < 256 → 4 ≤ length s
    → four_bytes (first s) (get_or s 1 0) (get_or s 2 0) (get_or s 3 0) ≡ four_bytes 0x10 (get_or s 1 0) (get_or s 1 0) 0x16 → first_size s ≡ 4
fixed_whole s k0 k1 k2 h e =
    let c : ℕ = get_or s 1 0 in
    let q : SameBytes (first s) (get_or s 2 0) (get_or s 3 0) 0x10 c 0x16 = same_bytes (first s) c (get_or s 2 0) (get_or s 3 0) 0x10 c 0x16 k0 k1 k2 (omega arith) k1 e in
    let f : s ≡ fixed_frame c ++ drop 4 s = front_4 s h ∙ rw (q.lowest, q.third, q.highest) (unfold fixed_frame in refl) in
    ap first_size f ∙ form_first (fixed_frame c) (drop 4 s) (fixes c refl) ∙ fixed_length c

-- ---- after 68
module _ (s : List ℕ) (p : first s ≡ 0x68) where
  no_data : ((c : ℕ) (m rest : List ℕ) → length m ≤ 254 → s ≡ data_frame c m ++ rest → ⊥) → first_size s ≡ 0
  no_data h = no_form_first s go
    where
      go : (f rest : List ℕ) → Form f → s ≡ f ++ rest → ⊥
      go f rest (acknowledges e) r = absurd (omega (arith, p, first_acknowledgement s f rest r e))
      go f rest (fixes c e) r = absurd (omega (arith, p, first_fixed s f rest r c e))
      go f rest (carries c m k e) r = h c m rest k (r ∙ ap (λ (l : List ℕ). l ++ rest) e)

  -- a frame in front, by its L
  frame_bytes : (c : ℕ) (m rest : List ℕ) → s ≡ data_frame c m ++ rest → length s ≡ length m + 7 + length rest
  frame_bytes c m rest e = ap length e ∙ length-append (data_frame c m) rest ∙ ap (λ (n : ℕ). n + length rest) (frame_length c m)

  frame_count : (c : ℕ) (m rest : List ℕ) → s ≡ data_frame c m ++ rest → get_or s 1 0 ≡ suc (length m)
  unfolding data_frame
  frame_count c m rest e = ap (λ (l : List ℕ). get_or l 1 0) e

  frame_control : (c : ℕ) (m rest : List ℕ) → s ≡ data_frame c m ++ rest → get_or s 4 0 ≡ c
  unfolding data_frame
  frame_control c m rest e = ap (λ (l : List ℕ). get_or l 4 0) e

  pub data_short : length s < 7 → first_size s ≡ 0
  data_short h = no_data (λ c m rest k e. omega (arith, frame_bytes c m rest e))

  pub data_cut : length s < get_or s 1 0 + 6 → first_size s ≡ 0
  data_cut h = no_data (λ c m rest k e. omega (arith, h, frame_bytes c m rest e, frame_count c m rest e))

  pub data_broken : is_whole (get_or s 4 0) (take (get_or s 1 0 + 6) s) ≡ false → first_size s ≡ 0
  data_broken h = no_data no
    where
      no : (c : ℕ) (m rest : List ℕ) → length m ≤ 254 → s ≡ data_frame c m ++ rest → ⊥
      no c m rest k e =
          let n : ℕ = get_or s 1 0 + 6 in
          let t : take n s ≡ data_frame c m =
          ap (take n) e ∙ take_at (data_frame c m) rest n (omega (arith, frame_length c m, frame_count c m rest e)) in
          let w : T (is_whole c (data_frame c m)) = whole_tested c (data_frame c m) (record { carried = m; short = k; frame = refl }) in
          subst (λ (u : Bool). T u) (rw (frame_control c m rest e, t) at h) w

pub data_whole : (s : List ℕ) → get_or s 1 0 + 6 ≤ length s → is_whole (get_or s 4 0) (take (get_or s 1 0 + 6) s) ≡ true → first_size s ≡ get_or s 1 0 + 6
data_whole s h t =
    let n : ℕ = get_or s 1 0 + 6 in
    let c : ℕ = get_or s 4 0 in
    let w : Whole c (take n s) = tested_whole c (take n s) (true_T t) in
    ap first_size (sym (take-append-drop n s))
    ∙ form_first (take n s) (drop n s) (carries c w.carried w.short w.frame)
    ∙ length-take-le n s h

-- ---- the head of a data frame as one number
module _ (f : List ℕ) (l : length f ≡ get_or f 1 0 + 6) (h : 7 ≤ length f) where
  abbrev c : ℕ
  c = get_or f 4 0

  abbrev n : ℕ
  n = length f - 6

  -- another one
  pub head_other : (four_bytes (first f) (get_or f 1 0) (get_or f 2 0) (get_or f 3 0) ≡ four_bytes 0x68 (get_or f 1 0) (get_or f 1 0) 0x68 → ⊥) → false ≡ is_whole c f
  head_other p = whole_head c f (sym (T_false (same (take 5 f) (head_of n c)) no))
    where
      no : T (same (take 5 f) (head_of n c)) → ⊥
      no t =
          let e : take 5 f ≡ head_of n c = same→eq (take 5 f) (head_of n c) t in
          let at : (i : ℕ) → i < 5 → get_or f i 0 ≡ get_or (head_of n c) i 0 = λ i k. sym (get_or-take 5 f i 0 k) ∙ ap (λ (r : List ℕ). get_or r i 0) e in
          p (omega (arith, at 0 (omega arith), at 1 (omega arith), at 2 (omega arith), at 3 (omega arith)))

  -- or this one
  pub head_same : first f < 256 → get_or f 1 0 < 256 → get_or f 2 0 < 256
      → four_bytes (first f) (get_or f 1 0) (get_or f 2 0) (get_or f 3 0) ≡ four_bytes 0x68 (get_or f 1 0) (get_or f 1 0) 0x68 → true ≡ same (take 5 f) (head_of n c)
  head_same k0 k1 k2 e =
      let q : SameBytes (first f) (get_or f 2 0) (get_or f 3 0) 0x68 (get_or f 1 0) 0x68 = same_bytes (first f) (get_or f 1 0) (get_or f 2 0) (get_or f 3 0) 0x68 (get_or f 1 0) 0x68 k0 k1 k2 (omega arith) k1 e in
      sym (eq-eqb c c refl) ∙ control_test f n c (omega (arith, h)) q.lowest (omega (arith, l)) (omega (arith, l, q.third)) q.highest

-- a law for each answer
pub ruleset sizes = (fixed_short, fixed_other, fixed_whole, data_short, data_cut, data_broken, data_whole)
