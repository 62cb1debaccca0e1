-- A burst is read: what the reader answers and leaves decides whether the burst holds what a line says.
use Rattle.std.proofs.Common.{◌≡◌, ℕ, ◌+◌, ◌≤◌, Bool, true, false, ◌&&◌, List, length, get_or, take, drop, pos, sym, refl, ap, ◌∙◌, arith, length-drop, length-take-le, take_at}
use Rattle.words.specs.Words.{put}
use Rattle.ft12.specs.Burst.{contents, figures_of, starts_of, BurstReply, Read, BurstCalled, read_burst, ending_number, three_numbers, burst_numbers, BurstLeaves}
use Rattle.ft12.specs.declared.burst.BurstNumbers.{BurstNumbers}
use Rattle.ft12.proofs.BurstLaws.{starts_length, figures_sum, burst_read}
use Rattle.cases.specs.Same.{Decides}
use Rattle.cases.proofs.SameLaws.{failed, left_to}
use Rattle.cases.specs.Burst.{start_count, burst_start, burst_of, FindsAs}

-- ---- the reader's answer n and its run, and the starts that the line says
pub record WasRead (a wanted : List ℕ) (n : BurstNumbers) (run : List ℕ) : Type 0 where
  pub whole : burst_start a ≤ length a
  pub short : length a ≤ 264
  pub said : wanted ≡ take (start_count a) (drop 3 a)
  pub lent : List ℕ
  pub room : length lent ≡ 2048
  pub reply : BurstReply
  pub leaves : BurstLeaves (read_burst (burst_of a) lent) reply run
  pub told : n ≡ burst_numbers reply

-- the numbers that the line says
abbrev pub numbers_said : List ℕ → BurstNumbers
numbers_said a = three_numbers (pos (get_or a 0 0)) (get_or a 1 0) (get_or a 2 0)

module _ (a wanted : List ℕ) (n : BurstNumbers) (run : List ℕ) (w : WasRead a wanted n run) where
  abbrev B : List ℕ
  B = burst_of a

  short_burst : length B ≤ 2048
  short_burst = omega (arith, w.short, length-drop (burst_start a) a)

  read : read_burst B w.lent ≡ record { reply = Read (figures_of (contents B)); run = put w.lent 0 (starts_of (contents B)) }
  read = burst_read B w.lent short_burst (omega (arith, w.room))

  numbers_are : n ≡ three_numbers (pos (ending_number (contents B).ending)) (figures_of (contents B)).frames (figures_of (contents B)).acknowledgements
  unfolding burst_numbers figures_of
  numbers_are = w.told ∙ w.leaves.reply ∙ ap (λ (c : BurstCalled). burst_numbers c.reply) read

  other_numbers : {b : Bool} → Decides b (n ≡ numbers_said a) → b ≡ false → Decides false (FindsAs a)
  other_numbers d e = failed d e (λ f. numbers_are ∙ (λ i. three_numbers (pos (f.ending i)) (f.frames i) (f.acknowledgements i)))

  pub starts_long : length wanted ≡ start_count a
  starts_long =
      ap length w.said ∙ length-take-le (start_count a) (drop 3 a) (omega (arith, w.whole, length-drop 3 a))

  starts_count : length (starts_of (contents B)) ≡ (figures_of (contents B)).frames + (figures_of (contents B)).acknowledgements
  starts_count = starts_length (contents B) ∙ sym (figures_sum (contents B))

  -- as many places as there are starts
  first_places : (k : ℕ) → length (starts_of (contents B)) ≡ k → take k run ≡ starts_of (contents B)
  unfolding put
  first_places k e =
      ap (take k) (w.leaves.run ∙ ap (λ (c : BurstCalled). c.run) read)
      ∙ take_at (starts_of (contents B)) (drop (0 + length (starts_of (contents B))) w.lent) k e

  starts_decide : {b : Bool} → n ≡ numbers_said a → Decides b (take (length wanted) run ≡ wanted) → Decides b (FindsAs a)
  starts_decide e d =
      left_to d
      (λ p. record { whole = w.whole; short = short_burst; ending = ending; frames = frames; acknowledgements = acknowledgements; starts = sym places ∙ p ∙ w.said })
      (λ f. places ∙ f.starts ∙ sym w.said)
    where
      same : three_numbers (pos (ending_number (contents B).ending)) (figures_of (contents B)).frames (figures_of (contents B)).acknowledgements ≡ numbers_said a
      same = sym numbers_are ∙ e

      ending : ending_number (contents B).ending ≡ get_or a 0 0
      ending = let p = ap (λ (m : BurstNumbers). m.number) same in cc

      frames : (figures_of (contents B)).frames ≡ get_or a 1 0
      frames = ap (λ (m : BurstNumbers). m.frames) same

      acknowledgements : (figures_of (contents B)).acknowledgements ≡ get_or a 2 0
      acknowledgements = ap (λ (m : BurstNumbers). m.acknowledgements) same

      places : take (length wanted) run ≡ starts_of (contents B)
      places = first_places (length wanted) (omega (arith, starts_count, frames, acknowledgements, starts_long))

  -- both tests together
  pub found_decided : {b d : Bool} → Decides b (n ≡ numbers_said a) → Decides d (take (length wanted) run ≡ wanted) → Decides (b && d) (FindsAs a)
  found_decided {b = true} x y = starts_decide (x.0 refl) y
  found_decided {b = false} x y = other_numbers x refl
