-- The test for a beginning, by the length and the bytes: one law for each answer of the code.
use Rattle.std.proofs.Common.{ℕ, suc, ◌+◌, ◌≤◌, ◌<◌, ◌≡◌, refl, ◌∙◌, ap, Bool, true, false, List, [], ◌∷◌, ◌++◌, arith, length, get_or, take, drop, drop_of_length-le, drop-cons, length-take-le, T, eqb, ne_eqb}
use mathlib.Core.Bool.{and-true, and-false}
use native.Mathlib.Decide.{ℕ_discrete}
use lib.Seq.{split_at}
use Rattle.std.specs.Prelude.{if◌then◌else◌}
use Rattle.ft12.specs.Frame.{checksum}
use Rattle.ft12.specs.Receiver.{only, judged_first, judged_fixed, judged_data, judged, is_more, gathers, is_beginning}
use Rattle.ft12.specs.declared.receiver.Judgement.{Judgement}
use Rattle.ft12.specs.declared.receiver.Judgement.TheVariants.{Damage, Fixed, Data}
use Rattle.words.proofs.WordLaws.{T_true, true_T}
use Rattle.ft12.proofs.ReceiverLaws.{headed, judged_start, judged_fixed_2, judged-sum, judged_end, gathers-append, beginning_prefix}
use Rattle.ft12.proofs.JudgedLaws.{judged_fixed_lem, judged_data_lem, fixed_last, data_count_damage, data_again_damage, data_second_damage}
use Rattle.ft12.proofs.FrameLaws.{head_gathers, body_beginning}

-- ---- what the answers say of a byte more
only_asks : (x b : ℕ) → is_more (only x b) ≡ eqb b x
unfolding is_more
only_asks x b = go (eqb b x) refl
  where
    go : (u : Bool) → eqb b x ≡ u → is_more (only x b) ≡ eqb b x
    go true e = simp e
    go false e = simp e

end_stops : (b : ℕ) (j : Judgement) → is_more j ≡ false → is_more (if eqb b 0x16 then j else Damage) ≡ false
unfolding is_more
end_stops b j h = go (eqb b 0x16) refl
  where
    go : (u : Bool) → eqb b 0x16 ≡ u → is_more (if eqb b 0x16 then j else Damage) ≡ false
    go true e = simp (e, h)
    go false e = simp e

first_stops : (b : ℕ) → (b ≡ 0x10 → ⊥) → (b ≡ 0x68 → ⊥) → is_more (judged_first b) ≡ false
unfolding is_more judged_first
first_stops b p q = go (eqb b 0xE5) refl
  where
    go : (u : Bool) → eqb b 0xE5 ≡ u → is_more (judged_first b) ≡ false
    go true e = simp e
    go false e = simp (e, ne_eqb b 0x10 p, ne_eqb b 0x68 q)

-- ---- the test at one byte
-- the last byte of all decides, behind a beginning
decides : (g : List ℕ) (x : ℕ) → T (is_beginning g) → is_beginning (g ++ x ∷ []) ≡ is_more (judged g x)
unfolding is_beginning gathers
decides g x t = gathers-append [] g (x ∷ []) ∙ simp (T_true (gathers [] g) t, and-true)

-- a byte that does not ask for more
stops : (g : List ℕ) (x : ℕ) (xs : List ℕ) → is_more (judged g x) ≡ false → is_beginning (g ++ x ∷ xs) ≡ false
unfolding is_beginning gathers
stops g x xs e = gathers-append [] g (x ∷ xs) ∙ simp (e, and-false)

pub damages : (g : List ℕ) (x : ℕ) (xs : List ℕ) → judged g x ≡ Damage → is_beginning (g ++ x ∷ xs) ≡ false
damages g x xs e = stops g x xs (ap is_more e ∙ (unfold is_more in refl))

part_begins : (xs ys : List ℕ) → T (is_beginning (xs ++ ys)) → is_beginning xs ≡ true
part_begins xs ys t = T_true (is_beginning xs) (beginning_prefix xs ys t)

-- ---- a list by its first bytes
front_1 : (g : List ℕ) → 1 ≤ length g → g ≡ get_or g 0 0 ∷ drop 1 g
front_1 g h = drop-cons g 0 0 h

front_2 : (g : List ℕ) → 2 ≤ length g → g ≡ get_or g 0 0 ∷ get_or g 1 0 ∷ drop 2 g
front_2 g h = front_1 g (omega arith) ∙ rw (drop-cons g 1 0 h)

front_3 : (g : List ℕ) → 3 ≤ length g → g ≡ get_or g 0 0 ∷ get_or g 1 0 ∷ get_or g 2 0 ∷ drop 3 g
front_3 g h = front_2 g (omega arith) ∙ rw (drop-cons g 2 0 h)

pub front_4 : (g : List ℕ) → 4 ≤ length g → g ≡ get_or g 0 0 ∷ get_or g 1 0 ∷ get_or g 2 0 ∷ get_or g 3 0 ∷ drop 4 g
front_4 g h = front_3 g (omega arith) ∙ rw (drop-cons g 3 0 h)

all_1 : (g : List ℕ) → length g ≡ 1 → g ≡ get_or g 0 0 ∷ []
all_1 g h = front_1 g (omega arith) ∙ rw (drop_of_length-le g {i = 1} (omega arith))

all_2 : (g : List ℕ) → length g ≡ 2 → g ≡ get_or g 0 0 ∷ get_or g 1 0 ∷ []
all_2 g h = front_2 g (omega arith) ∙ rw (drop_of_length-le g {i = 2} (omega arith))

all_3 : (g : List ℕ) → length g ≡ 3 → g ≡ get_or g 0 0 ∷ get_or g 1 0 ∷ get_or g 2 0 ∷ []
all_3 g h = front_3 g (omega arith) ∙ rw (drop_of_length-le g {i = 3} (omega arith))

-- ---- at the start
pub none_begins : (g : List ℕ) → length g ≡ 0 → is_beginning g ≡ true
unfolding is_beginning gathers
none_begins [] h = refl
none_begins (a ∷ g) h = absurd (omega arith)

pub other_stops : (g : List ℕ) → 0 < length g → (get_or g 0 0 ≡ 0x10 → ⊥) → (get_or g 0 0 ≡ 0x68 → ⊥) → is_beginning g ≡ false
other_stops g h p q = ap is_beginning (front_1 g h) ∙ stops [] (get_or g 0 0) (drop 1 g) (ap is_more (judged_start (get_or g 0 0)) ∙ first_stops (get_or g 0 0) p q)

-- ---- after 10
fixed_control_begins : (c : ℕ) → is_beginning (0x10 ∷ c ∷ []) ≡ true
unfolding is_beginning gathers judged judged_first judged_fixed is_more
fixed_control_begins c = refl

module _ (g : List ℕ) (p : get_or g 0 0 ≡ 0x10) where
  pub fixed_begins : 0 < length g → length g ≤ 2 → is_beginning g ≡ true
  fixed_begins h k = go (ℕ_discrete (length g) 1)
    where
      go : Dec (length g ≡ 1) → is_beginning g ≡ true
      go (yes e) = ap is_beginning (all_1 g e) ∙ rw p (part_begins (0x10 ∷ []) (0 ∷ []) (true_T (fixed_control_begins 0)))
      go (no e) = ap is_beginning (all_2 g (omega arith)) ∙ rw p (fixed_control_begins (get_or g 1 0))

  pub fixed_again_begins : length g ≡ 3 → is_beginning g ≡ eqb (get_or g 2 0) (get_or g 1 0)
  fixed_again_begins h =
      let c : ℕ = get_or g 1 0 in
      let d : ℕ = get_or g 2 0 in
      ap is_beginning (all_3 g h) ∙ rw p (decides (0x10 ∷ c ∷ []) d (true_T (fixed_control_begins c)) ∙ ap is_more (judged_fixed_2 c d) ∙ only_asks c d)

  pub fixed_stops : 3 < length g → is_beginning g ≡ false
  fixed_stops h =
      let c : ℕ = get_or g 1 0 in
      let x : ℕ = get_or g 3 0 in
      let f : List ℕ = get_or g 0 0 ∷ c ∷ get_or g 2 0 ∷ [] in
      ap is_beginning (front_4 g h)
      ∙ stops f x (drop 4 g) (ap is_more (judged_fixed_lem f x (omega arith) p ∙ fixed_last f x (omega arith)) ∙ end_stops x (Fixed c) (unfold is_more in refl))

-- ---- after 68
module _ (g : List ℕ) (p : get_or g 0 0 ≡ 0x68) where
  abbrev n : ℕ
  n = get_or g 1 0

  pub data_begins : length g ≡ 1 → is_beginning g ≡ true
  data_begins h = ap is_beginning (all_1 g h) ∙ rw p (part_begins (0x68 ∷ []) (1 ∷ 1 ∷ 0x68 ∷ []) (head_gathers 1 (omega arith) (omega arith)))

  pub count_begins : length g ≡ 2 → 1 ≤ n → n ≤ 255 → is_beginning g ≡ true
  count_begins h q r = ap is_beginning (all_2 g h) ∙ rw p (part_begins (0x68 ∷ n ∷ []) (n ∷ 0x68 ∷ []) (head_gathers n q r))

  pub again_begins : length g ≡ 3 → 1 ≤ n → n ≤ 255 → get_or g 2 0 ≡ n → is_beginning g ≡ true
  again_begins h q r e = ap is_beginning (all_3 g h) ∙ rw (p, e) (part_begins (0x68 ∷ n ∷ n ∷ []) (0x68 ∷ []) (head_gathers n q r))

  -- damage at a byte of the head
  data_damages : (f : List ℕ) (x : ℕ) (xs : List ℕ) → 0 < length f → get_or f 0 0 ≡ get_or g 0 0 → g ≡ f ++ x ∷ xs → judged_data f x ≡ Damage → is_beginning g ≡ false
  data_damages f x xs h k e d = ap is_beginning e ∙ damages f x xs (judged_data_lem f x h (omega arith) ∙ d)

  pub count_stops : 2 ≤ length g → n ≡ 0 → is_beginning g ≡ false
  count_stops h e =
      let f : List ℕ = get_or g 0 0 ∷ [] in
      data_damages f n (drop 2 g) (omega arith) refl (front_2 g h) (data_count_damage f n refl e)

  pub again_stops : 3 ≤ length g → (get_or g 2 0 ≡ n → ⊥) → is_beginning g ≡ false
  again_stops h e =
      let f : List ℕ = get_or g 0 0 ∷ n ∷ [] in
      data_damages f (get_or g 2 0) (drop 3 g) (omega arith) refl (front_3 g h) (data_again_damage f (get_or g 2 0) refl e)

  pub second_stops : 4 ≤ length g → (get_or g 3 0 ≡ 0x68 → ⊥) → is_beginning g ≡ false
  second_stops h e =
      let f : List ℕ = get_or g 0 0 ∷ n ∷ get_or g 2 0 ∷ [] in
      data_damages f (get_or g 3 0) (drop 4 g) (omega arith) refl (front_4 g h) (data_second_damage f (get_or g 3 0) refl e)

  pub head_whole : 4 ≤ length g → get_or g 2 0 ≡ n → get_or g 3 0 ≡ 0x68 → g ≡ headed n (drop 4 g)
  head_whole h q r = front_4 g h ∙ rw (p, q, r)

-- ---- after the head
module _ (n : ℕ) (b : List ℕ) where
  pub counted_begins : 1 ≤ n → n ≤ 255 → length b ≤ n → is_beginning (headed n b) ≡ true
  counted_begins p q h = T_true (is_beginning (headed n b)) (body_beginning n b p q h)

  pub summed_begins : 1 ≤ n → n ≤ 255 → length b ≡ n + 1 → is_beginning (headed n b) ≡ eqb (get_or b n 0) (checksum (take n b))
  summed_begins p q h =
      let k : length (take n b) ≡ n = length-take-le n b (omega arith) in
      let e : b ≡ take n b ++ get_or b n 0 ∷ [] = rw (drop_of_length-le b {i = suc n} (omega arith)) at (split_at b n 0 (omega arith)) in
      ap {B = Bool} (λ s. is_beginning (headed n s)) e
      ∙ decides (headed n (take n b)) (get_or b n 0) (body_beginning n (take n b) p q (omega arith))
      ∙ ap is_more (judged-sum n (take n b) (get_or b n 0) k)
      ∙ only_asks (checksum (take n b)) (get_or b n 0)

  pub summed_stops : n + 1 < length b → is_beginning (headed n b) ≡ false
  summed_stops h =
      let f : List ℕ = take (n + 1) b in
      let x : ℕ = get_or b (n + 1) 0 in
      ap {B = Bool} (λ s. is_beginning (headed n s)) (split_at b (n + 1) 0 h)
      ∙ stops (headed n f) x (drop (suc (n + 1)) b)
      (ap is_more (judged_end n f x (length-take-le (n + 1) b (omega arith))) ∙ end_stops x (Data (get_or f 0 0) n) (unfold is_more in refl))

-- a law for each answer
pub ruleset beginnings = (none_begins, other_stops, fixed_begins, fixed_again_begins, fixed_stops, data_begins, count_begins, count_stops, again_begins, again_stops, second_stops, head_whole, counted_begins, summed_begins, summed_stops)
