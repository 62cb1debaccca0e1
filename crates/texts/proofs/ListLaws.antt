-- The laws of one list, as the code goes: what is left to test of it, and what it has for an ID.
use Rattle.std.proofs.Common.{◌≡◌, refl, sym, ◌∙◌, ap, subst, ℕ, ◌+◌, ◌-◌, ◌<◌, ◌≤◌, Bool, true, false, List, [], ◌∷◌, length, get_or, take, drop, arith, length-drop, if◌then◌else◌, eqb, ne_eqb, eqb-true}
use Rattle.std.specs.Borrow.{Bor}
use Rattle.std.proofs.Math.Seq.{get_or-drop, drop-drop, take-length}
use native.Mathlib.Nat.{pos_of_ne-zero}
use borrow.Author.Tests.{eqb-false}
use Rattle.words.specs.Words.{of_two_bytes}
use Rattle.baos.specs.Text.{Stretch}
use Rattle.baos.specs.TextList.{EntryAt, text_list_ok}
use Rattle.baos.specs.Text.{text_lists, entries_for, chosen, stretch_of, stretch_bytes, HandedOn}
use Rattle.baos.specs.Inner.Cursors.{place_of, entry_here}
use Rattle.baos.proofs.TextListLaws.{ok_from, ok_start, ok_end, ok_broken, ok_low, ok_next, Begins, id_at, span_at, for_end, for_other, for_found}
use Rattle.texts.specs.Found.{TextOf}

-- what a slice has from place n on
abbrev pub on_from : ℕ → List ℕ → List ℕ
on_from n s = take (length s - n) (drop n s)

pub on_drops : (n : ℕ) (s : List ℕ) → on_from n s ≡ drop n s
on_drops n s = ap (λ (k : ℕ). take k (drop n s)) (sym (length-drop n s)) ∙ take-length (drop n s)

pub on_size : (n : ℕ) (s : List ℕ) → length (on_from n s) ≡ length s - n
on_size n s = ap length (on_drops n s) ∙ length-drop n s

-- ---- the test of a list
-- The bytes `rest` of the list begin at byte `at`, and the list is one exactly if it is one from there on, with no ID
-- below `least`.
pub record LeftToTest (list rest : List ℕ) (least : ℕ) : Type 0 where
  pub at : ℕ
  pub within : at ≤ length list
  pub behind : rest ≡ drop at list
  pub same : text_list_ok list ≡ ok_from least at list

pub all_left : (list : List ℕ) → LeftToTest list list 0
all_left list = record { at = 0; within = omega arith; behind = refl; same = ok_start list }

module _ {list rest : List ℕ} {least : ℕ} (h : LeftToTest list rest least) where
  size_left : h.at + length rest ≡ length list
  size_left = omega (arith, h.within, ap length h.behind, length-drop h.at list)

  reads : (k : ℕ) → get_or rest k 0 ≡ get_or list (h.at + k) 0
  reads k = ap (λ (s : List ℕ). get_or s k 0) h.behind ∙ get_or-drop h.at list k 0

  none_left : length rest ≤ 0 → text_list_ok list ≡ true
  none_left l = h.same ∙ ok_end least h.at list h.within (omega (arith, l, size_left))

  -- no whole entry begins here
  pub broken : 0 < length rest → (3 + get_or rest 2 0 ≤ length rest → get_or rest 2 0 ≤ 30 → ⊥) → text_list_ok list ≡ false
  broken l n =
      h.same ∙ ok_broken least h.at list (omega (arith, l, size_left))
      (λ b. n (omega (arith, b.whole, size_left, reads 2)) (omega (arith, b.short, reads 2)))

  -- no byte is left, or too few for a head
  pub all_tested : (b : Bool) → b ≡ eqb (length rest) 0 → b ≡ true → true ≡ text_list_ok list
  all_tested b e t = sym (none_left (omega (arith, eqb-true (length rest) 0 (sym e ∙ t))))

  pub too_short : (b : Bool) → b ≡ eqb (length rest) 0 → b ≡ false → length rest < 3 → false ≡ text_list_ok list
  too_short b e f l = sym (broken (pos_of_ne-zero (eqb-false (length rest) 0 (sym e ∙ f))) (λ a s. omega (arith, a, l)))

  module _ (whole : 3 + get_or rest 2 0 ≤ length rest) (short : get_or rest 2 0 ≤ 30) where
    entry : Begins h.at list
    entry = record { whole = omega (arith, whole, size_left, reads 2); short = omega (arith, short, reads 2) }

    abbrev id : ℕ
    id = of_two_bytes (get_or rest 0 0) (get_or rest 1 0)

    id_here : id ≡ id_at h.at list
    id_here =
        let p : get_or rest 0 0 ≡ get_or list h.at 0 = reads 0 ∙ ap (λ (k : ℕ). get_or list k 0) {x = h.at + 0} {y = h.at} (omega arith) in
        λ i. of_two_bytes (p i) (reads 1 i)

    pub too_low : id < least → text_list_ok list ≡ false
    too_low l = h.same ∙ ok_low least h.at list entry (rw id_here at l)

    pub next_left : least ≤ id → LeftToTest list (on_from (get_or rest 2 0) (on_from 3 rest)) (id + 1)
    next_left l =
        let n : ℕ = get_or rest 2 0 in
        record {
          at = h.at + span_at h.at list;
          within = omega (arith, entry.whole);
          behind =
              on_drops n (on_from 3 rest) ∙ ap (drop n) (on_drops 3 rest) ∙ drop-drop n 3 rest ∙ ap (drop (3 + n)) h.behind ∙ drop-drop (3 + n) h.at list
              ∙ ap (λ (k : ℕ). drop (h.at + (3 + k)) list) (reads 2);
          same = h.same ∙ ok_next least h.at list entry (rw id_here at l) ∙ ap (λ (n : ℕ). ok_from (n + 1) (h.at + span_at h.at list) list) (sym id_here);
        }

-- ---- what a list has for an ID, by the place where its entry belongs
module _ (id at : ℕ) (s : List ℕ) (o : text_list_ok s ≡ true) (p : at ≡ place_of id s) where
  pub none_at_end : length s ≤ at → entries_for id s ≡ []
  unfolding entry_here
  none_at_end l = for_end id at s o p l

  module _ (l : at < length s) where
    pub none_of_another : (id_at at s ≡ id → ⊥) → entries_for id s ≡ []
    unfolding entry_here
    none_of_another n = for_other id at s o p l n

    pub none_empty : id_at at s ≡ id → get_or s (at + 2) 0 ≡ 0 → entries_for id s ≡ []
    unfolding entry_here
    none_empty e z = for_found id at s o p l e ∙ ap (entry_here id at) z

    pub one : id_at at s ≡ id → (get_or s (at + 2) 0 ≡ 0 → ⊥) → entries_for id s ≡ record { id = id; from = at + 3; size = get_or s (at + 2) 0 } ∷ []
    unfolding entry_here
    one e n =
        for_found id at s o p l e
        ∙ ap (λ (b : Bool). if b then [] else record { id = id; from = at + 3; size = get_or s (at + 2) 0 } ∷ []) (ne_eqb (get_or s (at + 2) 0) 0 n)

-- ---- the text that is handed on
module _ (id : ℕ) (site defaults text : Bor (List ℕ)) where
  abbrev Handed : Stretch → Type 0
  Handed t = HandedOn t site defaults text

  abbrev here : Stretch
  here = stretch_of id (text_lists site.now defaults.now)

  pub handed_site : (f : (e : EntryAt) × (entries_for id site.now ≡ e ∷ []) × TextOf e site text) → Handed here
  unfolding stretch_of stretch_bytes chosen
  handed_site (e, p, t) =
      subst Handed (sym (ap (λ (es : List EntryAt). chosen es (entries_for id defaults.now)) p))
      record { list = t.list; place = t.place; bytes = t.bytes }

  module _ (n : entries_for id site.now ≡ []) where
    pub handed_default : (f : (e : EntryAt) × (entries_for id defaults.now ≡ e ∷ []) × TextOf e defaults text) → Handed here
    unfolding stretch_of stretch_bytes chosen
    handed_default (e, p, t) =
        subst Handed (sym (λ i. chosen (n i) (p i)))
        record { list = t.list; place = t.place; bytes = t.bytes }

    pub handed_none : entries_for id defaults.now ≡ [] → text.ref_ptr.0 ≡ defaults.ref_ptr.0 → text.ref_ptr.1 ≡ defaults.ref_ptr.1 → text.now ≡ [] → Handed here
    unfolding stretch_of stretch_bytes chosen
    handed_none m l q b =
        subst Handed (sym (λ i. chosen (n i) (m i)))
        record { list = l; place = q ∙ omega arith; bytes = b }
