-- Laws of the text of an ID, from two lists.
use Prim.Native.Nat.{ℕ, zero, suc, ◌+◌, ◌-◌, ◌≤◌}
use mathlib.Core.Path.{◌≡◌, refl, sym, ◌∙◌, ap, subst}
use mathlib.Core.Bool.{Bool, true, false, ◌&&◌}
use mathlib.Core.List.{List, [], ◌∷◌}
use native.Mathlib.Omega.{arith}
use lib.ListN.{length, get_or, take, drop, length-drop}
use lib.Seq.{length-take-le}
use lib.Dec.{T, leb, leb→le, le→leb}
use borrow.Author.Tests.{ne_eqb}
use denote.Ref.{Bor}
use Rattle.std.specs.Prelude.{if◌then◌else◌}
use Rattle.words.specs.Words.{every}
use Rattle.words.proofs.WordLaws.{left, right, both, T_true, true_T, every-keep}
use Rattle.baos.specs.Text.{Stretch}
use Rattle.baos.specs.declared.inner.Cursors.{Cursors}
use Rattle.baos.specs.TextList.{EntryAt, span_of, is_entry, first_entry, entries_from, entries_at, entries_in, text_list_ok}
use Rattle.baos.specs.Text.{TextLists, text_lists_ok, entries_for, chosen, stretch_of, holder, stretch_bytes, text_of, HandedOn}
use Rattle.baos.specs.Inner.Cursors.{place_of, cursors_of, at_start, BothReached, entry_here}
use Rattle.baos.proofs.TextListLaws.{entry_short, entry_whole, place_start, is_for}

-- ---- both lists
pub both_site : (ts : TextLists) → text_lists_ok ts ≡ true → text_list_ok ts.site ≡ true
unfolding text_lists_ok
both_site ts e = T_true (text_list_ok ts.site) (left (text_list_ok ts.site) (text_list_ok ts.defaults) (true_T e))

pub both_defaults : (ts : TextLists) → text_lists_ok ts ≡ true → text_list_ok ts.defaults ≡ true
unfolding text_lists_ok
both_defaults ts e = T_true (text_list_ok ts.defaults) (right (text_list_ok ts.site) (text_list_ok ts.defaults) (true_T e))

-- ---- the cursors of an ID
pub cursor_site : (id : ℕ) (ts : TextLists) (c : Cursors) → c ≡ cursors_of id ts → c.site ≡ place_of id ts.site
unfolding cursors_of
cursor_site id ts c e = ap (λ (k : Cursors). k.site) e

pub cursor_defaults : (id : ℕ) (ts : TextLists) (c : Cursors) → c ≡ cursors_of id ts → c.defaults ≡ place_of id ts.defaults
unfolding cursors_of
cursor_defaults id ts c e = ap (λ (k : Cursors). k.defaults) e

pub cursors_are : (id own shipped : ℕ) (ts : TextLists) → own ≡ place_of id ts.site → shipped ≡ place_of id ts.defaults → record { site = own; defaults = shipped } ≡ cursors_of id ts
unfolding cursors_of
cursors_are id own shipped ts p q = λ i. record { site = p i; defaults = q i }

-- a search begins at the start of both lists: no ID is below 0
pub reached_start : (id : ℕ) (ts : TextLists) → BothReached id ts at_start
reached_start id ts =
    record {
      site = record { low = 0; below = omega arith; place = sym (place_start (entries_in ts.site)) };
      defaults = record { low = 0; below = omega arith; place = sym (place_start (entries_in ts.defaults)) };
    }

-- ---- the stretch that is chosen, by what the two lists have for the ID
here_none : (id at size : ℕ) → size ≡ 0 → entry_here id at size ≡ []
unfolding entry_here
here_none id at size e = ap (entry_here id at) e

here_one : (id at size : ℕ) → (size ≡ 0 → ⊥) → entry_here id at size ≡ record { id = id; from = at + 3; size = size } ∷ []
unfolding entry_here
here_one id at size n = ap (λ (b : Bool). if b then [] else record { id = id; from = at + 3; size = size } ∷ []) (ne_eqb size 0 n)

module _ (id : ℕ) (ts : TextLists) (own : ℕ) (at : ℕ) (e : entries_for id ts.site ≡ entry_here id at own) where
  pub chosen_site : (own ≡ 0 → ⊥) → record { ofsite = true; from = at + 3; size = own } ≡ stretch_of id ts
  unfolding stretch_of chosen
  chosen_site n = sym (ap (λ (es : List EntryAt). chosen es (entries_for id ts.defaults)) (e ∙ here_one id at own n))

  module _ (z : own ≡ 0) (shipped : ℕ) (place : ℕ) (d : entries_for id ts.defaults ≡ entry_here id place shipped) where
    pub chosen_default : (shipped ≡ 0 → ⊥) → record { ofsite = false; from = place + 3; size = shipped } ≡ stretch_of id ts
    unfolding stretch_of chosen
    chosen_default n = sym (λ i. chosen ((e ∙ here_none id at own z) i) ((d ∙ here_one id place shipped n) i))

    pub chosen_none : shipped ≡ 0 → record { ofsite = false; from = 0; size = 0 } ≡ stretch_of id ts
    unfolding stretch_of chosen
    chosen_none n = sym (λ i. chosen ((e ∙ here_none id at own z) i) ((d ∙ here_none id place shipped n) i))

-- ---- a stretch lies inside its list, and is short
-- the entry's text ends at byte k or in front of it
abbrev inside : ℕ → EntryAt → Bool
inside k e = leb (e.from + e.size) k && leb e.size 30

entries_inside : (n at k : ℕ) (s : List ℕ) → at + length s ≤ k → T (every (inside k) (entries_from n at s))
unfolding entries_from
entries_inside zero at k s h = tt
entries_inside (suc n) at k s h = go (is_entry s) refl (λ e. entries_inside n (at + span_of s) k (drop (span_of s) s) (omega (arith, h, length-drop (span_of s) s, entry_whole s e)))
  where
    go : (b : Bool) → is_entry s ≡ b → (is_entry s ≡ true → T (every (inside k) (entries_from n (at + span_of s) (drop (span_of s) s))))
        → T (every (inside k) (elim b [ true ↦ first_entry at s ∷ entries_from n (at + span_of s) (drop (span_of s) s) | false ↦ [] ]))
    go true e r =
        both (inside k (first_entry at s)) (every (inside k) (entries_from n (at + span_of s) (drop (span_of s) s)))
        (both (leb (at + 3 + get_or s 2 0) k) (leb (get_or s 2 0) 30) (le→leb (at + 3 + get_or s 2 0) k (omega (arith, h, entry_whole s e))) (le→leb (get_or s 2 0) 30 (entry_short s e)))
        (r e)
    go false e r = tt

for_inside : (id : ℕ) (s : List ℕ) → T (every (inside (length s)) (entries_for id s))
unfolding entries_for entries_at
for_inside id s = every-keep (is_for id) (inside (length s)) (entries_in s) (entries_inside (length s) 0 (length s) s (omega arith))

-- so is the stretch chosen
pub record Within (t : Stretch) (ts : TextLists) : Type 0 where
  pub ends : t.from + t.size ≤ length (holder t ts.site ts.defaults)
  pub short : t.size ≤ 30

first_ends : (k : ℕ) (e : EntryAt) (es : List EntryAt) → T (every (inside k) (e ∷ es)) → e.from + e.size ≤ k
first_ends k e es t = leb→le (e.from + e.size) k (left (leb (e.from + e.size) k) (leb e.size 30) (left (inside k e) (every (inside k) es) t))

first_short : (k : ℕ) (e : EntryAt) (es : List EntryAt) → T (every (inside k) (e ∷ es)) → e.size ≤ 30
first_short k e es t = leb→le e.size 30 (right (leb (e.from + e.size) k) (leb e.size 30) (left (inside k e) (every (inside k) es) t))

chosen_within : (ts : TextLists) (es ds : List EntryAt) → T (every (inside (length ts.site)) es) → T (every (inside (length ts.defaults)) ds) → Within (chosen es ds) ts
unfolding chosen
chosen_within ts (e ∷ es) ds p q = record { ends = first_ends (length ts.site) e es p; short = first_short (length ts.site) e es p }
chosen_within ts [] (d ∷ ds) p q = record { ends = first_ends (length ts.defaults) d ds q; short = first_short (length ts.defaults) d ds q }
chosen_within ts [] [] p q = record { ends = omega arith; short = omega arith }

pub within : (id : ℕ) (ts : TextLists) → Within (stretch_of id ts) ts
unfolding stretch_of
within id ts = chosen_within ts (entries_for id ts.site) (entries_for id ts.defaults) (for_inside id ts.site) (for_inside id ts.defaults)

-- the text is as long as its stretch says, and has 30 bytes at most
pub text_size : (id : ℕ) (ts : TextLists) → length (text_of id ts) ≡ (stretch_of id ts).size
unfolding text_of stretch_bytes
text_size id ts =
    let s : Stretch = stretch_of id ts in
    let l : List ℕ = holder s ts.site ts.defaults in
    length-take-le s.size (drop s.from l) (omega (arith, length-drop s.from l, (within id ts).ends))

pub text_short : (id : ℕ) (ts : TextLists) → (stretch_of id ts).size ≤ 30
text_short id ts = (within id ts).short

-- ---- the part of a list that is handed on
-- the list of a stretch, by the list that it says it is of
pub ends_in : (t u : Stretch) (b : Bool) (ts : TextLists) → t ≡ u → Within u ts → t.ofsite ≡ b → t.from + t.size ≤ length (if b then ts.site else ts.defaults)
ends_in t u b ts e w o =
    let v : Within t ts = subst (λ (z : Stretch). Within z ts) (sym e) w in
    subst (λ (z : Bool). t.from + t.size ≤ length (if z then ts.site else ts.defaults)) o v.ends

pub handed : (t u : Stretch) (b : Bool) (site defaults r : Bor (List ℕ)) → t ≡ u → t.ofsite ≡ b → r.ref_ptr.0 ≡ (if b then site else defaults).ref_ptr.0
    → r.ref_ptr.1 ≡ t.from + (if b then site else defaults).ref_ptr.1
    → r.now ≡ take (t.from + t.size - t.from) (drop t.from (if b then site.now else defaults.now)) → HandedOn u site defaults r
unfolding stretch_bytes
handed t u b site defaults r e o l p q =
    subst (λ (z : Stretch). HandedOn z site defaults r) e
    record {
      list = l ∙ ap (λ (z : Bool). (if z then site else defaults).ref_ptr.0) (sym o);
      place = p ∙ ap (λ (z : Bool). t.from + (if z then site else defaults).ref_ptr.1) (sym o);
      bytes = q ∙ ap (λ (n : ℕ). take n (drop t.from (if b then site.now else defaults.now))) {x = t.from + t.size - t.from} {y = t.size} (omega arith)
          ∙ ap (λ (z : Bool). take t.size (drop t.from (if z then site.now else defaults.now))) (sym o);
    }
