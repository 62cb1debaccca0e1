-- The reader's loop: what it has found so far, and what it answers.
use Rattle.std.proofs.Common.{◌≡◌, ℕ, zero, suc, ◌+◌, ◌-◌, ◌<◌, ◌≤◌, Bool, true, false, eqb, List, [], ◌∷◌, ◌++◌, map, length, get_or, take, drop, set, sym, refl, ap, ◌∙◌, subst, append-nil, arith, length-append, length-drop, drop_of_length-le, get_or-drop, drop-drop, eq-eqb, ne_eqb}
use mathlib.Core.List.{map-append}
use native.Mathlib.Decide.{ℕ_discrete}
use lib.ListN.{length-map}
use lib.Seq.{append_snoc}
use Rattle.std.specs.Prelude.{if◌then◌else◌}
use Rattle.words.specs.Words.{yes_or_no, put, keep}
use Rattle.words.proofs.WordLaws.{rest_whole, keep_append, kept_and_not}
use Rattle.words.proofs.ByteLaws.{length-put, put_sets, put-put}
use Rattle.ft12.specs.Receiver.{is_beginning}
use Rattle.ft12.specs.Burst.{Piece, Contents, before, just_ends, contents_from, contents, first_size, is_acknowledgement, is_frame, figures_of, starts_of, Refused, Read, read_burst, burst_numbers, BurstLeaves}
use Rattle.ft12.specs.declared.burst.Figures.{Figures}
use Rattle.ft12.specs.declared.burst.Ending.{Ending}
use Rattle.ft12.specs.declared.burst.Ending.TheVariants.{Clean, Damaged, Unfinished}
use Rattle.ft12.proofs.BurstLaws.{piece, Step, step, no_step, none_left, form_kind, burst_read, burst_long, run_short}
use Rattle.bursts.proofs.PieceLaws.{first, acknowledgement_first}

abbrev pub start_of : Piece → ℕ
start_of p = p.start

-- pieces in front of what follows them
abbrev pub behind : List Piece → Contents → Contents
behind ps c = record { pieces = ps ++ c.pieces; ending = c.ending }

-- the run with one start more
put_next : (l vs : List ℕ) (x : ℕ) → length vs < length l → set (put l 0 vs) (length vs) x ≡ put l 0 (vs ++ x ∷ [])
put_next l vs x h =
    put_sets (x ∷ []) (put l 0 vs) (length vs) (omega (arith, h, length-put l 0 vs (omega (arith, h))))
    ∙ put-put l 0 (length vs) vs (x ∷ []) (omega arith) (omega (arith, h))

unfoldable pub acknowledgements_in : List Piece → ℕ
acknowledgements_in ps = length (keep is_acknowledgement ps)

-- what was found in the first `at` bytes of bs, its starts in the run, and what is still to be read
pub record SoFar (bs lent : List ℕ) (at : ℕ) (run : List ℕ) (found acks : ℕ) : Type 0 where
  pub past : List Piece
  pub within : at ≤ length bs
  pub holds : contents bs ≡ behind past (contents_from at [] (drop at bs))
  pub placed : run ≡ put lent 0 (map start_of past)
  pub count : found ≡ length past
  pub few : found ≤ at
  pub acknowledged : acks ≡ acknowledgements_in past
  pub fewer : acks ≤ found

-- a piece has no more bytes than there are
pub size_fits : (s : List ℕ) → first_size s ≤ length s
size_fits s = go (ℕ_discrete (first_size s) 0)
  where
    go : Dec (first_size s ≡ 0) → first_size s ≤ length s
    go (yes e) = omega arith
    go (no n) = (step 0 s n).within

one_at_most : (u : Bool) → yes_or_no u ≤ 1
one_at_most true = omega arith
one_at_most false = omega arith

one_more : (ps : List Piece) (p : Piece) → acknowledgements_in (ps ++ p ∷ []) ≡ acknowledgements_in ps + yes_or_no (is_acknowledgement p)
unfolding acknowledgements_in
one_more ps p = ap length (keep_append is_acknowledgement ps (p ∷ [])) ∙ length-append (keep is_acknowledgement ps) (keep is_acknowledgement (p ∷ [])) ∙ go (is_acknowledgement p) refl
  where
    go : (u : Bool) → is_acknowledgement p ≡ u
        → length (keep is_acknowledgement ps) + length (keep is_acknowledgement (p ∷ [])) ≡ length (keep is_acknowledgement ps) + yes_or_no (is_acknowledgement p)
    go true e = simp e
    go false e = simp e

-- one piece more
again : (ps : List Piece) (p : Piece) (c : Contents) → behind ps (before p c) ≡ behind (ps ++ p ∷ []) c
again ps p c = ap (λ (l : List Piece). record { pieces = l; ending = c.ending }) (sym (append_snoc ps p c.pieces))

-- and none
last : (ps : List Piece) (e : Ending) → behind ps (just_ends e) ≡ record { pieces = ps; ending = e }
last ps e = ap (λ (l : List Piece). record { pieces = l; ending = e }) (append-nil ps)

filled : (k : ℕ) → (k ≡ 0 → ⊥) → 1 ≤ k
filled zero z = absurd (z refl)
filled (suc k) z = omega arith

told : (found acks : ℕ) (e : Ending) (ps : List Piece) → found ≡ length ps → acks ≡ acknowledgements_in ps
    → record { frames = found - acks; acknowledgements = acks; ending = e } ≡ figures_of (record { pieces = ps; ending = e })
unfolding figures_of acknowledgements_in
told found acks e ps p q =
    let f : found - acks ≡ length (keep is_frame ps) = omega (arith, p, q, kept_and_not is_acknowledgement ps) in
    λ i. record { frames = f i; acknowledgements = q i; ending = e }

-- how it ends where no piece stands in front
pub ending_of : (s : List ℕ) → 0 < length s → first_size s ≡ 0 → (contents s).ending ≡ (if is_beginning s then Unfinished else Damaged)
unfolding contents
ending_of s h z = ap (λ (c : Contents). c.ending) (no_step 0 s h z)

-- and it ends likewise at the place `at`
pub ended_at : (at : ℕ) (s : List ℕ) → 0 < length s → first_size s ≡ 0 → contents_from at [] s ≡ just_ends (contents s).ending
ended_at at s h z = no_step at s h z ∙ ap just_ends (sym (ending_of s h z))

pub all_read : (at : ℕ) (s : List ℕ) → length s ≤ at → contents_from at [] (drop at s) ≡ just_ends Clean
all_read at s h = ap (contents_from at []) (drop_of_length-le s {i = at} h) ∙ none_left at

module _ (bs lent : List ℕ) where
  pub begins : SoFar bs lent 0 lent 0 0
  begins =
      record {
        past = [];
        within = omega arith;
        holds = unfold contents in refl;
        placed = unfold put in refl;
        count = refl;
        few = omega arith;
        acknowledged = unfold acknowledgements_in in refl;
        fewer = omega arith;
      }

  module _ (short : length bs ≤ 2048) (room : 2048 ≤ length lent) where
    -- the run is as long as it was
    pub same_run : (at found acks : ℕ) (run : List ℕ) → SoFar bs lent at run found acks → length run ≡ length lent
    same_run at found acks run f =
        ap length f.placed
        ∙ length-put lent 0 (map start_of f.past) (omega (arith, length-map f.past start_of, f.count, f.few, f.within))

    module _ (at found acks : ℕ) (run : List ℕ) (f : SoFar bs lent at run found acks) (h : at < length bs) where
      first_there : first (drop at bs) ≡ get_or bs at 0
      first_there = get_or-drop at bs 0 0 ∙ ap (λ (i : ℕ). get_or bs i 0) {x = at + 0} {y = at} (omega arith)

      -- a piece of k bytes
      goes_on : (k : ℕ) → first_size (drop at bs) ≡ k → (k ≡ 0 → ⊥)
          → SoFar bs lent (at + k) (set run found at) (found + 1) (acks + yes_or_no (eqb (get_or bs at 0) 0xE5))
      goes_on k e z =
          let s : List ℕ = drop at bs in
          let st : Step at s = step at s (λ w. z (sym e ∙ w)) in
          let p : Piece = piece at st.bytes in
          let n : length (map start_of f.past) ≡ found = length-map f.past start_of ∙ sym f.count in
          let d : drop (first_size s) s ≡ drop (at + k) bs = ap (λ (j : ℕ). drop j s) e ∙ drop-drop k at bs in
          let q : contents_from at [] s ≡ before p (contents_from (at + k) [] (drop (at + k) bs)) =
          st.contents ∙ (λ i. before p (contents_from (at + e i) [] (d i))) in
          let a : is_acknowledgement p ≡ eqb (get_or bs at 0) 0xE5 =
          form_kind at st.bytes st.rest st.form ∙ ap (λ (l : List ℕ). eqb (first l) 0xE5) (sym st.stands) ∙ ap (λ (b : ℕ). eqb b 0xE5) first_there in
          record {
            past = f.past ++ p ∷ [];
            within = omega (arith, e, h, st.within, length-drop at bs);
            holds = f.holds ∙ ap (behind f.past) q ∙ again f.past p (contents_from (at + k) [] (drop (at + k) bs));
            placed =
                ap (λ (r : List ℕ). set r found at) f.placed
                ∙ ap (λ (j : ℕ). set (put lent 0 (map start_of f.past)) j at) (sym n)
                ∙ put_next lent (map start_of f.past) at (omega (arith, n, h, short, room, f.few))
                ∙ ap (put lent 0) (sym (map-append start_of f.past (p ∷ [])));
            count = omega (arith, f.count, length-append f.past (p ∷ []));
            few = omega (arith, f.few, filled k z);
            acknowledged = omega (arith, f.acknowledged, one_more f.past p, ap yes_or_no a);
            fewer = omega (arith, f.fewer, one_at_most (eqb (get_or bs at 0) 0xE5));
          }

      pub acknowledgement_on : get_or bs at 0 ≡ 0xE5 → SoFar bs lent (at + 1) (set run found at) (found + 1) (acks + 1)
      acknowledgement_on e =
          subst (λ (u : Bool). SoFar bs lent (at + 1) (set run found at) (found + 1) (acks + yes_or_no u)) (eq-eqb (get_or bs at 0) 0xE5 e)
          (goes_on 1 (acknowledgement_first (drop at bs) (omega (arith, h, length-drop at bs)) (first_there ∙ e)) (λ z. omega (arith, z)))

      pub frame_on : (k : ℕ) → (k ≡ first_size (take (length bs - at) (drop at bs))) × (0 < k) → (get_or bs at 0 ≡ 0xE5 → ⊥)
          → SoFar bs lent (at + k) (set run found at) (found + 1) acks
      frame_on k e n =
          let a : acks + yes_or_no (eqb (get_or bs at 0) 0xE5) ≡ acks = rw (ne_eqb (get_or bs at 0) 0xE5 n) (omega arith) in
          subst (SoFar bs lent (at + k) (set run found at) (found + 1)) a (goes_on k (ap first_size (sym (rest_whole at bs)) ∙ sym e.0) (λ z. omega (arith, z, e.1)))

      -- a frame has no more bytes than there are
      pub room_left : at + first_size (take (length bs - at) (drop at bs)) ≤ length bs
      room_left = omega (arith, h, ap first_size (rest_whole at bs), size_fits (drop at bs), length-drop at bs)

    -- the loop ends here, with the figures r
    ends :
        (at found acks : ℕ) (run : List ℕ) (e : Ending) (r : Figures) → SoFar bs lent at run found acks → contents_from at [] (drop at bs) ≡ just_ends e
        → r ≡ record { frames = found - acks; acknowledgements = acks; ending = e } → BurstLeaves (read_burst bs lent) (Read r) run
    unfolding starts_of
    ends at found acks run e r f q told_is =
        let h : contents bs ≡ record { pieces = f.past; ending = e } = f.holds ∙ ap (behind f.past) q ∙ last f.past e in
        rw (burst_read bs lent short room)
        (record {
          reply = ap burst_numbers (ap Read (told_is ∙ told found acks e f.past f.count f.acknowledged ∙ ap figures_of (sym h)));
          run = f.placed ∙ ap (λ (w : Contents). put lent 0 (starts_of w)) (sym h);
        })

    -- at its end
    pub ends_clean : (at found acks : ℕ) (run : List ℕ) (r : Figures) → SoFar bs lent at run found acks → length bs ≤ at
        → r ≡ record { frames = found - acks; acknowledgements = acks; ending = Clean } → BurstLeaves (read_burst bs lent) (Read r) run
    ends_clean at found acks run r f h e = ends at found acks run Clean r f (all_read at bs h) e

    -- or where no piece stands in front
    pub ends_broken : (at found acks : ℕ) (run : List ℕ) (e : Ending) (r : Figures) → SoFar bs lent at run found acks → at < length bs
        → first_size (take (length bs - at) (drop at bs)) ≡ 0 → e ≡ (contents (take (length bs - at) (drop at bs))).ending
        → r ≡ record { frames = found - acks; acknowledgements = acks; ending = e } → BurstLeaves (read_burst bs lent) (Read r) run
    ends_broken at found acks run e r f h z q told_is =
        let s : List ℕ = drop at bs in
        let i : first_size s ≡ 0 = ap first_size (sym (rest_whole at bs)) ∙ z in
        let j : (contents s).ending ≡ e = ap (λ (l : List ℕ). (contents l).ending) (sym (rest_whole at bs)) ∙ sym q in
        ends at found acks run e r f (ended_at at s (omega (arith, h, length-drop at bs)) i ∙ ap just_ends j) told_is

  pub refused_long : 2048 < length bs → BurstLeaves (read_burst bs lent) (Refused 8) lent
  refused_long h = rw (burst_long bs lent h) (record { reply = refl; run = refl })

  pub refused_short : length lent < 2048 → BurstLeaves (read_burst bs lent) (Refused 8) lent
  refused_short h = rw (run_short bs lent h) (record { reply = refl; run = refl })
