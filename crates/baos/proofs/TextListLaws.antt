-- Laws of text lists: the entries found one after the other, the test of a list, and where the entries of an ID belong.
use Prim.Native.Nat.{ℕ, zero, suc, ◌+◌, ◌≤◌, ◌<◌}
use mathlib.Core.Path.{◌≡◌, refl, sym, ◌∙◌, ap, subst}
use mathlib.Core.Bool.{Bool, true, false, ◌&&◌}
use mathlib.Core.List.{List, [], ◌∷◌}
use native.Mathlib.Omega.{arith}
use native.Mathlib.Nat.{pos_of_ne-zero}
use native.Mathlib.Numerals.{add-one}
use lib.ListN.{length, get_or, drop, length-drop}
use lib.Seq.{get_or-drop, drop-drop}
use lib.Dec.{leb, ltb, eqb, leb→le}
use borrow.Author.Tests.{lt-ltb, le-ltb, le-leb, lt-leb, eq-eqb, ne_eqb, ltb-true, ltb-false, eqb-true, eqb-false}
use Rattle.std.specs.Prelude.{if◌then◌else◌}
use Rattle.words.specs.Words.{of_two_bytes, keep}
use Rattle.words.proofs.WordLaws.{left, right, parts3, T_true, true_T}
use Rattle.baos.specs.TextList.{EntryAt, span_of, is_entry, first_entry, entries_from, entries_at, entries_in, bytes_taken, rise_from, text_list_ok}
use Rattle.baos.specs.Text.{entries_for}
use Rattle.baos.specs.Inner.Cursors.{place_in, place_of, Reached, entry_here}

-- ---- one entry
pub is_entry_lem : (s : List ℕ) → get_or s 2 0 ≤ 30 → span_of s ≤ length s → is_entry s ≡ true
unfolding is_entry
is_entry_lem s b c = λ i. le-leb 3 (length s) (omega (arith, c)) i && le-leb (get_or s 2 0) 30 b i && le-leb (span_of s) (length s) c i

pub entry_short : (s : List ℕ) → is_entry s ≡ true → get_or s 2 0 ≤ 30
unfolding is_entry
entry_short s e = leb→le (get_or s 2 0) 30 (parts3 (leb 3 (length s)) (leb (get_or s 2 0) 30) (leb (span_of s) (length s)) (true_T e)).1

pub entry_whole : (s : List ℕ) → is_entry s ≡ true → span_of s ≤ length s
unfolding is_entry
entry_whole s e = leb→le (span_of s) (length s) (parts3 (leb 3 (length s)) (leb (get_or s 2 0) 30) (leb (span_of s) (length s)) (true_T e)).2

-- ---- the entries of bytes: none, or one and those behind it
abbrev found : Bool → EntryAt → List EntryAt → List EntryAt
found b e es = elim b [ true ↦ e ∷ es | false ↦ [] ]

pub from_none : (n at : ℕ) (s : List ℕ) → is_entry s ≡ false → entries_from n at s ≡ []
unfolding entries_from
from_none zero at s e = refl
from_none (suc n) at s e = ap (λ (b : Bool). found b (first_entry at s) (entries_from n (at + span_of s) (drop (span_of s) s))) e

-- no byte is left, no entry
pub no_bytes : (s : List ℕ) → length s ≤ 0 → is_entry s ≡ false
unfolding is_entry
no_bytes s h = ap (λ (b : Bool). b && leb (get_or s 2 0) 30 && leb (span_of s) (length s)) (lt-leb 3 (length s) (omega (arith, h)))

-- as many as there are bytes are enough
enough : (n m at : ℕ) (s : List ℕ) → length s ≤ n → length s ≤ m → entries_from n at s ≡ entries_from m at s
unfolding entries_from
enough zero m at s h k = sym (from_none m at s (no_bytes s h))
enough (suc n) zero at s h k = from_none (suc n) at s (no_bytes s k)
enough (suc n) (suc m) at s h k =
    go (is_entry s) refl
    (λ e. enough n m (at + span_of s) (drop (span_of s) s) (omega (arith, h, length-drop (span_of s) s, entry_whole s e)) (omega (arith, k, length-drop (span_of s) s, entry_whole s e)))
  where
    behind : ℕ → List EntryAt
    behind j = entries_from j (at + span_of s) (drop (span_of s) s)

    go : (b : Bool) → is_entry s ≡ b → (is_entry s ≡ true → behind n ≡ behind m) → found b (first_entry at s) (behind n) ≡ found b (first_entry at s) (behind m)
    go true e r = ap (λ (es : List EntryAt). first_entry at s ∷ es) (r e)
    go false e r = refl

pub from_one : (n at : ℕ) (s : List ℕ) → is_entry s ≡ true → length s ≤ n
    → entries_from n at s ≡ first_entry at s ∷ entries_from (length (drop (span_of s) s)) (at + span_of s) (drop (span_of s) s)
unfolding entries_from
from_one zero at s e h = absurd (omega (arith, h, entry_whole s e))
from_one (suc n) at s e h =
    ap (λ (b : Bool). found b (first_entry at s) (entries_from n (at + span_of s) (drop (span_of s) s))) e
    ∙ ap (λ (es : List EntryAt). first_entry at s ∷ es)
    (enough n (length (drop (span_of s) s)) (at + span_of s) (drop (span_of s) s) (omega (arith, h, length-drop (span_of s) s, entry_whole s e)) (omega arith))

-- ---- the entries from byte `at` of a list on
-- how many bytes the entry takes that begins there, and what is found of it
abbrev pub span_at : ℕ → List ℕ → ℕ
span_at at s = 3 + get_or s (at + 2) 0

abbrev pub id_at : ℕ → List ℕ → ℕ
id_at at s = of_two_bytes (get_or s at 0) (get_or s (at + 1) 0)

abbrev pub entry_at : ℕ → List ℕ → EntryAt
entry_at at s = record { id = id_at at s; from = at + 3; size = get_or s (at + 2) 0 }

-- an entry begins there
pub record Begins (at : ℕ) (s : List ℕ) : Type 0 where
  pub whole : at + span_at at s ≤ length s
  pub short : get_or s (at + 2) 0 ≤ 30

module _ (at : ℕ) (s : List ℕ) where
  size_is : get_or (drop at s) 2 0 ≡ get_or s (at + 2) 0
  size_is = get_or-drop at s 2 0

  first_is : first_entry at (drop at s) ≡ entry_at at s
  first_is =
      let p : get_or (drop at s) 0 0 ≡ get_or s at 0 = get_or-drop at s 0 0 ∙ ap (λ (k : ℕ). get_or s k 0) {x = at + 0} {y = at} (omega arith) in
      let q : get_or (drop at s) 1 0 ≡ get_or s (at + 1) 0 = get_or-drop at s 1 0 in
      λ i. record { id = of_two_bytes (p i) (q i); from = at + 3; size = size_is i }

  begins_entry : Begins at s → is_entry (drop at s) ≡ true
  begins_entry b = is_entry_lem (drop at s) (omega (arith, size_is, b.short)) (omega (arith, size_is, b.whole, length-drop at s))

  entry_begins : is_entry (drop at s) ≡ true → Begins at s
  entry_begins e =
      record {
        whole = omega (arith, size_is, entry_whole (drop at s) e, length-drop at s);
        short = omega (arith, size_is, entry_short (drop at s) e);
      }

  entries_next : Begins at s → entries_at at s ≡ entry_at at s ∷ entries_at (at + span_at at s) s
  unfolding entries_at
  entries_next b =
      let r : drop (span_of (drop at s)) (drop at s) ≡ drop (at + span_at at s) s = drop-drop (span_of (drop at s)) at s ∙ ap (λ (k : ℕ). drop (at + (3 + k)) s) size_is in
      from_one (length (drop at s)) at (drop at s) (begins_entry b) (omega arith)
      ∙ (λ i. first_is i ∷ entries_from (length (r i)) (at + (3 + size_is i)) (r i))

  is_none : is_entry (drop at s) ≡ false → entries_at at s ≡ []
  unfolding entries_at
  is_none e = from_none (length (drop at s)) at (drop at s) e

  entries_none : (Begins at s → ⊥) → entries_at at s ≡ []
  entries_none n = go (is_entry (drop at s)) refl
    where
      go : (b : Bool) → is_entry (drop at s) ≡ b → entries_at at s ≡ []
      go true e = absurd (n (entry_begins e))
      go false e = is_none e

  entries_end : length s ≤ at → entries_at at s ≡ []
  entries_end h = entries_none (λ b. omega (arith, h, b.whole))

  -- where the entries reach the list's end, one begins wherever a byte is left
  pub begins : at + bytes_taken (entries_at at s) ≡ length s → at < length s → Begins at s
  unfolding bytes_taken
  begins w l = go (is_entry (drop at s)) refl
    where
      go : (b : Bool) → is_entry (drop at s) ≡ b → Begins at s
      go true e = entry_begins e
      go false e = absurd (omega (arith, w, l, ap bytes_taken (is_none e)))

  -- and those behind it reach it too
  still_whole : Begins at s → at + bytes_taken (entries_at at s) ≡ length s → at + span_at at s + bytes_taken (entries_at (at + span_at at s) s) ≡ length s
  unfolding bytes_taken
  still_whole b w = omega (arith, w, ap bytes_taken (entries_next b))

-- ---- the test of a list, from byte `at` on, where no ID may be below `least`
abbrev pub ok_from : ℕ → ℕ → List ℕ → Bool
ok_from least at s = rise_from least (entries_at at s) && eqb (at + bytes_taken (entries_at at s)) (length s)

pub ok_start : (s : List ℕ) → text_list_ok s ≡ ok_from 0 0 s
unfolding text_list_ok
ok_start s = ap (λ (k : ℕ). rise_from 0 (entries_in s) && eqb k (length s)) {x = bytes_taken (entries_in s)} {y = 0 + bytes_taken (entries_in s)} (omega arith)

module _ (least at : ℕ) (s : List ℕ) where
  -- the test, with the entries as they come out
  abbrev judged : List EntryAt → Bool
  judged es = rise_from least es && eqb (at + bytes_taken es) (length s)

  pub ok_end : at ≤ length s → length s ≤ at → ok_from least at s ≡ true
  unfolding rise_from bytes_taken
  ok_end h l = ap judged (entries_end at s l) ∙ eq-eqb (at + 0) (length s) (omega (arith, h, l))

  pub ok_broken : at < length s → (Begins at s → ⊥) → ok_from least at s ≡ false
  unfolding rise_from bytes_taken
  ok_broken l n = ap judged (entries_none at s n) ∙ ne_eqb (at + 0) (length s) (λ e. omega (arith, l, e))

  module _ (b : Begins at s) where
    -- where the next entry begins
    abbrev next : ℕ
    next = at + span_at at s

    pub ok_low : id_at at s < least → ok_from least at s ≡ false
    unfolding rise_from
    ok_low l =
        ap judged (entries_next at s b)
        ∙ ap (λ (t : Bool). t && rise_from (suc (id_at at s)) (entries_at next s) && eqb (at + bytes_taken (entry_at at s ∷ entries_at next s)) (length s)) (lt-leb least (id_at at s) l)

    pub ok_next : least ≤ id_at at s → ok_from least at s ≡ ok_from (id_at at s + 1) next s
    unfolding rise_from bytes_taken
    ok_next l =
        let es : List EntryAt = entries_at next s in
        ap judged (entries_next at s b)
        ∙ ap (λ (t : Bool). t && rise_from (suc (id_at at s)) es && eqb (at + (span_at at s + bytes_taken es)) (length s)) (le-leb least (id_at at s) l)
        ∙ ap (λ (k : ℕ). rise_from k es && eqb (at + (span_at at s + bytes_taken es)) (length s)) (sym (add-one (id_at at s)))
        ∙ ap (λ (k : ℕ). rise_from (id_at at s + 1) es && eqb k (length s)) {x = at + (span_at at s + bytes_taken es)} {y = next + bytes_taken es} (omega arith)

-- a list that is one reaches its end, and its IDs rise
ok_whole : (s : List ℕ) → text_list_ok s ≡ true → 0 + bytes_taken (entries_at 0 s) ≡ length s
unfolding text_list_ok
ok_whole s e = omega (arith, eqb-true (bytes_taken (entries_in s)) (length s) (T_true (eqb (bytes_taken (entries_in s)) (length s)) (right (rise_from 0 (entries_in s)) (eqb (bytes_taken (entries_in s)) (length s)) (true_T e))))

ok_rises : (s : List ℕ) → text_list_ok s ≡ true → rise_from 0 (entries_at 0 s) ≡ true
unfolding text_list_ok
ok_rises s e = T_true (rise_from 0 (entries_in s)) (left (rise_from 0 (entries_in s)) (eqb (bytes_taken (entries_in s)) (length s)) (true_T e))

-- ---- IDs that rise
pub rise_first : (least : ℕ) (e : EntryAt) (es : List EntryAt) → rise_from least (e ∷ es) ≡ true → rise_from (suc e.id) es ≡ true
unfolding rise_from
rise_first least e es t = T_true (rise_from (suc e.id) es) (right (leb least e.id) (rise_from (suc e.id) es) (true_T t))

pub rise_least : (least : ℕ) (e : EntryAt) (es : List EntryAt) → rise_from least (e ∷ es) ≡ true → least ≤ e.id
unfolding rise_from
rise_least least e es t = leb→le least e.id (left (leb least e.id) (rise_from (suc e.id) es) (true_T t))

-- no ID is below 0
rise_lower : (least : ℕ) (es : List EntryAt) → rise_from least es ≡ true → rise_from 0 es ≡ true
unfolding rise_from
rise_lower least [] t = refl
rise_lower least (e ∷ es) t = λ i. le-leb 0 e.id (omega arith) i && rise_first least e es t i

-- ---- the entries for an ID
abbrev pub is_for : ℕ → EntryAt → Bool
is_for id e = eqb e.id id && ltb 0 e.size

pub kept_other : (id : ℕ) (e : EntryAt) (es : List EntryAt) → (e.id ≡ id → ⊥) → keep (is_for id) (e ∷ es) ≡ keep (is_for id) es
kept_other id e es n = ap (λ (b : Bool). if b && ltb 0 e.size then e ∷ keep (is_for id) es else keep (is_for id) es) (ne_eqb e.id id n)

pub kept_none : (id least : ℕ) (es : List EntryAt) → id < least → rise_from least es ≡ true → keep (is_for id) es ≡ []
kept_none id least [] h t = refl
kept_none id least (e ∷ es) h t =
    kept_other id e es (λ q. omega (arith, h, q, rise_least least e es t))
    ∙ kept_none id (suc e.id) es (omega (arith, h, rise_least least e es t)) (rise_first least e es t)

-- ---- where the entries of an ID belong
place_below : (id : ℕ) (e : EntryAt) (es : List EntryAt) → e.id < id → place_in id (e ∷ es) ≡ 3 + e.size + place_in id es
unfolding place_in
place_below id e es h = ap (λ (b : Bool). if b then 3 + e.size + place_in id es else 0) (lt-ltb e.id id h)

place_here : (id : ℕ) (e : EntryAt) (es : List EntryAt) → id ≤ e.id → place_in id (e ∷ es) ≡ 0
unfolding place_in
place_here id e es h = ap (λ (b : Bool). if b then 3 + e.size + place_in id es else 0) (le-ltb e.id id h)

place_end : (id : ℕ) → place_in id [] ≡ 0
unfolding place_in
place_end id = refl

-- no ID is below 0
pub place_start : (es : List EntryAt) → place_in 0 es ≡ 0
place_start [] = place_end 0
place_start (e ∷ es) = place_here 0 e es (omega arith)

-- from byte a on, where an entry begins, the first entry not below the ID begins at byte b
pub record Stands (id a b : ℕ) (s : List ℕ) : Type 0 where
  pub whole : b + bytes_taken (entries_at b s) ≡ length s
  pub stops : place_in id (entries_at b s) ≡ 0
  pub kept : keep (is_for id) (entries_at a s) ≡ keep (is_for id) (entries_at b s)
  pub on : (n : ℕ) → id ≤ n → a + place_in n (entries_at a s) ≡ b + place_in n (entries_at b s)
  pub rises : rise_from 0 (entries_at a s) ≡ true → rise_from 0 (entries_at b s) ≡ true

module _ (id a : ℕ) (s : List ℕ) (w : a + bytes_taken (entries_at a s) ≡ length s) where
  -- it begins at byte a
  stays : place_in id (entries_at a s) ≡ 0 → Stands id a (a + place_in id (entries_at a s)) s
  stays z =
      let e : a ≡ a + place_in id (entries_at a s) = omega (arith, z) in
      subst (λ (b : ℕ). Stands id a b s) e
      record { whole = w; stops = z; kept = refl; on = λ n h. refl; rises = λ r. r }

  -- it is behind the entry at byte a
  goes : Begins a s → id_at a s < id → Stands id (a + span_at a s) (a + span_at a s + place_in id (entries_at (a + span_at a s) s)) s → Stands id a (a + place_in id (entries_at a s)) s
  goes b h r =
      let es : List EntryAt = entries_at (a + span_at a s) s in
      let q : entries_at a s ≡ entry_at a s ∷ es = entries_next a s b in
      let e : a + span_at a s + place_in id es ≡ a + place_in id (entries_at a s) = omega (arith, ap (place_in id) q, place_below id (entry_at a s) es h) in
      subst (λ (k : ℕ). Stands id a k s) e
      record {
        whole = r.whole;
        stops = r.stops;
        kept = ap (keep (is_for id)) q ∙ kept_other id (entry_at a s) es (λ z. omega (arith, h, z)) ∙ r.kept;
        on = λ n l. omega (arith, ap (place_in n) q, place_below n (entry_at a s) es (omega (arith, h, l)), r.on n l);
        rises = λ t. r.rises (rise_lower (suc (id_at a s)) es (rise_first 0 (entry_at a s) es (sym (ap (rise_from 0) q) ∙ t)));
      }

stands_from : (n id a : ℕ) (s : List ℕ) → length s ≤ a + n → a + bytes_taken (entries_at a s) ≡ length s → Stands id a (a + place_in id (entries_at a s)) s
stands_from zero id a s h w = stays id a s w (ap (place_in id) (entries_end a s (omega (arith, h))) ∙ place_end id)
stands_from (suc n) id a s h w = go (ltb a (length s)) refl (λ b. stands_from n id (a + span_at a s) s (omega (arith, h)) (still_whole a s b w))
  where
    Rest : Type 0
    Rest = Begins a s → Stands id (a + span_at a s) (a + span_at a s + place_in id (entries_at (a + span_at a s) s)) s

    by : (b : Begins a s) (t : Bool) → ltb (id_at a s) id ≡ t → Rest → Stands id a (a + place_in id (entries_at a s)) s
    by b true e r = goes id a s w b (ltb-true (id_at a s) id e) (r b)
    by b false e r = stays id a s w (ap (place_in id) (entries_next a s b) ∙ place_here id (entry_at a s) (entries_at (a + span_at a s) s) (ltb-false (id_at a s) id e))

    go : (t : Bool) → ltb a (length s) ≡ t → Rest → Stands id a (a + place_in id (entries_at a s)) s
    go true e r = by (begins a s w (ltb-true a (length s) e)) (ltb (id_at a s) id) refl r
    go false e r = stays id a s w (ap (place_in id) (entries_end a s (ltb-false a (length s) e)) ∙ place_end id)

-- in a list
pub stands : (id : ℕ) (s : List ℕ) → text_list_ok s ≡ true → Stands id 0 (place_of id s) s
stands id s o =
    let e : 0 + place_in id (entries_at 0 s) ≡ place_of id s = omega arith in
    subst (λ (b : ℕ). Stands id 0 b s) e (stands_from (length s) id 0 s (omega arith) (ok_whole s o))

pub place_within : (id : ℕ) (s : List ℕ) → text_list_ok s ≡ true → place_of id s ≤ length s
place_within id s o = omega (arith, (stands id s o).whole)

-- ---- a search that goes forward stands at byte `at`
pub record Searching (id at : ℕ) (s : List ℕ) : Type 0 where
  pub whole : at + bytes_taken (entries_at at s) ≡ length s
  pub ahead : at + place_in id (entries_at at s) ≡ place_of id s

pub search_begins : (id at : ℕ) (s : List ℕ) → text_list_ok s ≡ true → Reached id s at → Searching id at s
search_begins id at s o r =
    let p = stands r.low s o in
    subst (λ (b : ℕ). Searching id b s) (sym r.place)
    record { whole = p.whole; ahead = omega (arith, p.on id r.below) }

module _ (id at : ℕ) (s : List ℕ) (h : Searching id at s) where
  pub search_ends : length s ≤ at → at ≡ place_of id s
  search_ends l = omega (arith, h.ahead, ap (place_in id) (entries_end at s l), place_end id)

  pub search_entry : at < length s → Begins at s
  search_entry l = begins at s h.whole l

  pub search_stops : at < length s → id ≤ id_at at s → at ≡ place_of id s
  search_stops l k = omega (arith, h.ahead, ap (place_in id) (entries_next at s (search_entry l)), place_here id (entry_at at s) (entries_at (at + span_at at s) s) k)

  pub search_next : at < length s → id_at at s < id → Searching id (at + span_at at s) s
  search_next l k =
      let b = search_entry l in
      record {
        whole = still_whole at s b h.whole;
        ahead = omega (arith, h.ahead, ap (place_in id) (entries_next at s b), place_below id (entry_at at s) (entries_at (at + span_at at s) s) k);
      }

-- ---- the text of an ID in a list, by the place where its entry belongs
module _ (id at : ℕ) (s : List ℕ) (o : text_list_ok s ≡ true) (p : at ≡ place_of id s) where
  here : Stands id 0 at s
  here = subst (λ (b : ℕ). Stands id 0 b s) (sym p) (stands id s o)

  pub entry_here_lem : at < length s → Begins at s
  entry_here_lem l = begins at s here.whole l

  for_is : entries_for id s ≡ keep (is_for id) (entries_at at s)
  unfolding entries_for
  for_is = here.kept

  pub for_end : length s ≤ at → entries_for id s ≡ entry_here id at 0
  unfolding entry_here
  for_end l = for_is ∙ ap (keep (is_for id)) (entries_end at s l)

  module _ (l : at < length s) where
    abbrev behind : List EntryAt
    behind = entries_at (at + span_at at s) s

    is_first : entries_at at s ≡ entry_at at s ∷ behind
    is_first = entries_next at s (entry_here_lem l)

    not_below : id ≤ id_at at s
    not_below = go (ltb (id_at at s) id) refl
      where
        go : (b : Bool) → ltb (id_at at s) id ≡ b → id ≤ id_at at s
        go true e = absurd (omega (arith, here.stops, ap (place_in id) is_first, place_below id (entry_at at s) behind (ltb-true (id_at at s) id e)))
        go false e = ltb-false (id_at at s) id e

    none_behind : keep (is_for id) behind ≡ []
    none_behind = kept_none id (suc (id_at at s)) behind (omega (arith, not_below)) (rise_first 0 (entry_at at s) behind (sym (ap (rise_from 0) is_first) ∙ here.rises (ok_rises s o)))

    pub for_other : (id_at at s ≡ id → ⊥) → entries_for id s ≡ entry_here id at 0
    unfolding entry_here
    for_other n = for_is ∙ ap (keep (is_for id)) is_first ∙ kept_other id (entry_at at s) behind n ∙ none_behind

    pub for_found : id_at at s ≡ id → entries_for id s ≡ entry_here id at (get_or s (at + 2) 0)
    unfolding entry_here
    for_found e =
        for_is ∙ ap (keep (is_for id)) is_first
        ∙ ap (λ (b : Bool). if b && ltb 0 (get_or s (at + 2) 0) then entry_at at s ∷ keep (is_for id) behind else keep (is_for id) behind) (eq-eqb (id_at at s) id e)
        ∙ ap (λ (es : List EntryAt). if ltb 0 (get_or s (at + 2) 0) then entry_at at s ∷ es else es) none_behind
        ∙ go (eqb (get_or s (at + 2) 0) 0) refl
      where
        go : (b : Bool) → eqb (get_or s (at + 2) 0) 0 ≡ b
            → if ltb 0 (get_or s (at + 2) 0) then entry_at at s ∷ [] else [] ≡ if b then [] else record { id = id; from = at + 3; size = get_or s (at + 2) 0 } ∷ []
        go true q = ap (λ (b : Bool). if b then entry_at at s ∷ [] else []) (le-ltb 0 (get_or s (at + 2) 0) (omega (arith, eqb-true (get_or s (at + 2) 0) 0 q)))
        go false q =
            ap (λ (b : Bool). if b then entry_at at s ∷ [] else []) (lt-ltb 0 (get_or s (at + 2) 0) (pos_of_ne-zero (eqb-false (get_or s (at + 2) 0) 0 q)))
            ∙ ap (λ (k : ℕ). record { id = k; from = at + 3; size = get_or s (at + 2) 0 } ∷ []) e
