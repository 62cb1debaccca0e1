-- A text list in the paper's words: bytes pass the test exactly if they are a list of entries, and what such a list names
-- an ID is what is found for the ID.
use Prim.Native.Nat.{ℕ, zero, suc, ◌+◌, ◌*◌, ◌/◌, ◌%◌, ◌≤◌, ◌<◌}
use mathlib.Core.Path.{◌≡◌, refl, sym, ◌∙◌, ap}
use mathlib.Core.Logic.{◌↔◌}
use mathlib.Core.Bool.{Bool, true, false, ◌&&◌, and-false}
use mathlib.Core.List.{List, [], ◌∷◌, ◌++◌, flatten}
use native.Mathlib.Omega.{arith}
use lib.ListN.{length, get_or, take, drop, length-append, length-drop, take-append-drop}
use lib.Seq.{drop-drop, drop-append_seam, take-append_seam, length-take-le}
use lib.Dec.{T, ltb, eqb, ltb→lt}
use borrow.Author.Tests.{lt-ltb, le-ltb, le-leb, eq-eqb, eqb-true}
use Rattle.std.specs.Prelude.{if◌then◌else◌}
use Rattle.words.specs.Words.{of_two_bytes, keep, every, are_bytes}
use Rattle.words.proofs.WordLaws.{left, right, both, T_true, true_T, bytes_drop}
use Rattle.baos.specs.TextList.{ListEntry, list_entry_bytes, list_bytes, MadeOf, EntryAt, span_of, is_entry, first_entry, entries_from, entries_at, entries_in, bytes_taken, rise_from, text_list_ok}
use Rattle.baos.specs.Text.{entries_for}
use Rattle.baos.proofs.TextListLaws.{is_entry_lem, entry_short, entry_whole, from_none, from_one, no_bytes, kept_other, kept_none, rise_first, rise_least, is_for}

-- ---- the entries of a list, one after the other
-- an entry, and the bytes r behind it
abbrev entry_then : ListEntry → List ℕ → List ℕ
entry_then e r = e.id / 256 ∷ e.id % 256 ∷ length e.text ∷ (e.text ++ r)

listed_first : (e : ListEntry) (es : List ListEntry) → list_bytes (e ∷ es) ≡ entry_then e (list_bytes es)
unfolding list_entry_bytes flatten
listed_first e es = refl

listed_none : list_bytes [] ≡ []
unfolding flatten
listed_none = refl

-- ---- strictly rising, with lengths of 0 to 30
-- an entry may stand where no ID may be below `least`
record Next (least : ℕ) (e : ListEntry) : Type 0 where
  low : least ≤ e.id
  fits : e.id < 65536
  short : length e.text ≤ 30

abbrev Rising : ℕ → List ListEntry → Type 0
Rising least [] = Unit {0}
Rising least (e ∷ es) = Next least e × Rising (suc e.id) es

rising_at : (least : ℕ) (es : List ListEntry) → Rising least es → (i : ℕ) (e : ListEntry) → i < length es → Next least (get_or es i e)
rising_at least [] r i e h = absurd (omega (arith, h))
rising_at least (x ∷ es) r zero e h = r.0
rising_at least (x ∷ es) r (suc i) e h =
    let n : Next (suc x.id) (get_or es i e) = rising_at (suc x.id) es r.1 i e (omega (arith, h)) in
    record { low = omega (arith, n.low, r.0.low); fits = n.fits; short = n.short }

rising_strictly : (least : ℕ) (es : List ListEntry) → Rising least es → (i j : ℕ) (e : ListEntry) → i < j → j < length es → (get_or es i e).id < (get_or es j e).id
rising_strictly least [] r i j e h k = absurd (omega (arith, k))
rising_strictly least (x ∷ es) r i zero e h k = absurd (omega (arith, h))
rising_strictly least (x ∷ es) r zero (suc j) e h k = (rising_at (suc x.id) es r.1 j e (omega (arith, k))).low
rising_strictly least (x ∷ es) r (suc i) (suc j) e h k = rising_strictly (suc x.id) es r.1 i j e (omega (arith, h)) (omega (arith, k))

rising_of : (least : ℕ) (es : List ListEntry) → ((i : ℕ) (e : ListEntry) → i < length es → Next least (get_or es i e))
    → ((i j : ℕ) (e : ListEntry) → i < j → j < length es → (get_or es i e).id < (get_or es j e).id) → Rising least es
rising_of least [] n r = tt
rising_of least (x ∷ es) n r = (
  n 0 x (omega arith),
  rising_of (suc x.id) es
      (λ i e h. record { low = r 0 (suc i) e (omega arith) (omega (arith, h)); fits = (n (suc i) e (omega (arith, h))).fits; short = (n (suc i) e (omega (arith, h))).short })
      (λ i j e h k. r (suc i) (suc j) e (omega (arith, h)) (omega (arith, k))),
)

listed-rising : (es : List ListEntry) (s : List ℕ) → MadeOf es s → Rising 0 es
listed-rising es s l =
    rising_of 0 es (λ i e h. record { low = omega arith; fits = l.ids i e h; short = l.lengths i e h }) l.strictly

rising-listed : (es : List ListEntry) (s : List ℕ) → s ≡ list_bytes es → Rising 0 es → MadeOf es s
rising-listed es s w r =
    record {
      whole = w;
      ids = λ i e h. (rising_at 0 es r i e h).fits;
      lengths = λ i e h. (rising_at 0 es r i e h).short;
      strictly = rising_strictly 0 es r;
    }

-- ---- what is found in a list of entries
abbrev found_in : ℕ → List ListEntry → List EntryAt
found_in at [] = []
found_in at (e ∷ es) = record { id = e.id; from = at + 3; size = length e.text } ∷ found_in (at + (3 + length e.text)) es

-- what stands behind an entry
behind : (e : ListEntry) (r : List ℕ) → drop (3 + length e.text) (entry_then e r) ≡ r
behind e r = sym (drop-drop (length e.text) 3 (entry_then e r)) ∙ drop-append_seam e.text r

found-listed : (n at least : ℕ) (es : List ListEntry) → Rising least es → length (list_bytes es) ≤ n → entries_from n at (list_bytes es) ≡ found_in at es
found-listed n at least [] r h = ap (entries_from n at) listed_none ∙ from_none n at [] (no_bytes [] (omega arith))
found-listed n at least (e ∷ es) r h =
    let k : List ℕ = list_bytes es in
    let s : List ℕ = entry_then e k in
    let next : ℕ = at + (3 + length e.text) in
    let long : length s ≤ n = omega (arith, h, ap length (listed_first e es)) in
    let whole : is_entry s ≡ true = is_entry_lem s r.0.short (omega (arith, length-append e.text k)) in
    let number : of_two_bytes (e.id / 256) (e.id % 256) ≡ e.id = omega arith in
    ap (entries_from n at) (listed_first e es)
    ∙ from_one n at s whole long
    ∙ ap {B = List EntryAt} (λ (d : List ℕ). first_entry at s ∷ entries_from (length d) next d) (behind e k)
    ∙ (λ i. record { id = number i; from = at + 3; size = length e.text } ∷ found-listed (length k) next (suc e.id) es r.1 (omega arith) i)

rise_found : (least at : ℕ) (es : List ListEntry) → Rising least es → rise_from least (found_in at es) ≡ true
unfolding rise_from
rise_found least at [] r = refl
rise_found least at (e ∷ es) r = λ i. le-leb least e.id r.0.low i && rise_found (suc e.id) (at + (3 + length e.text)) es r.1 i

taken-found : (at : ℕ) (es : List ListEntry) → bytes_taken (found_in at es) ≡ length (list_bytes es)
unfolding bytes_taken
taken-found at [] = sym (ap length listed_none)
taken-found at (e ∷ es) =
    let r : bytes_taken (found_in (at + (3 + length e.text)) es) ≡ length (list_bytes es) = taken-found (at + (3 + length e.text)) es in
    omega (arith, r, ap length (listed_first e es), length-append e.text (list_bytes es))

-- all that is found in a list
found_in_lem : (es : List ListEntry) (s : List ℕ) → MadeOf es s → entries_in s ≡ found_in 0 es
unfolding entries_at
found_in_lem es s l = ap (λ (t : List ℕ). entries_from (length t) 0 t) l.whole ∙ found-listed (length (list_bytes es)) 0 0 es (listed-rising es s l) (omega arith)

-- ---- the test decides it
passes : (es : List ListEntry) (s : List ℕ) → MadeOf es s → T (text_list_ok s)
unfolding text_list_ok
passes es s l =
    let f : entries_in s ≡ found_in 0 es = found_in_lem es s l in
    both (rise_from 0 (entries_in s)) (eqb (bytes_taken (entries_in s)) (length s))
    (true_T (ap (rise_from 0) f ∙ rise_found 0 0 es (listed-rising es s l)))
    (true_T (eq-eqb (bytes_taken (entries_in s)) (length s) (ap bytes_taken f ∙ taken-found 0 es ∙ ap length (sym l.whole))))

-- the first entry of bytes that begin with one
abbrev first_named : List ℕ → ListEntry
first_named s = record { id = of_two_bytes (get_or s 0 0) (get_or s 1 0); text = take (get_or s 2 0) (drop 3 s) }

first_named_lem : (s : List ℕ) → T (are_bytes s) → is_entry s ≡ true → (s ≡ entry_then (first_named s) (drop (span_of s) s)) × ((first_named s).id < 65536) × (length (first_named s).text ≡ get_or s 2 0)
unfolding are_bytes
first_named_lem [] t e = absurd (omega (arith, entry_whole [] e))
first_named_lem (x ∷ []) t e = absurd (omega (arith, entry_whole (x ∷ []) e))
first_named_lem (x ∷ y ∷ []) t e = absurd (omega (arith, entry_whole (x ∷ y ∷ []) e))
first_named_lem (x ∷ y ∷ z ∷ r) t e =
    let b : ℕ → Bool = λ n. ltb n 256 in
    let rest : T (every b (y ∷ z ∷ r)) = right (b x) (every b (y ∷ z ∷ r)) t in
    let p : x < 256 = ltb→lt x 256 (left (b x) (every b (y ∷ z ∷ r)) t) in
    let q : y < 256 = ltb→lt y 256 (left (b y) (every b (z ∷ r)) rest) in
    let l : length (take z r) ≡ z = length-take-le z r (omega (arith, entry_whole (x ∷ y ∷ z ∷ r) e)) in
    let high : x ≡ (x * 256 + y) / 256 = omega (arith, p, q) in
    let low : y ≡ (x * 256 + y) % 256 = omega (arith, p, q) in
    let d : drop z r ≡ drop (3 + z) (x ∷ y ∷ z ∷ r) = drop-drop z 3 (x ∷ y ∷ z ∷ r) in
    let w : r ≡ take z r ++ drop (3 + z) (x ∷ y ∷ z ∷ r) = sym (take-append-drop z r) ∙ ap (λ (k : List ℕ). take z r ++ k) d in
    (λ i. high i ∷ low i ∷ sym l i ∷ w i, omega (arith, p, q), l)

no_length : (s : List ℕ) → length s ≡ 0 → s ≡ []
no_length [] e = refl
no_length (x ∷ s) e = absurd (omega (arith, e))

-- bytes that pass are a list of the entries found
record Spelt (least : ℕ) (s : List ℕ) : Type 0 where
  names : List ListEntry
  whole : s ≡ list_bytes names
  rising : Rising least names

spells : (n at least : ℕ) (s : List ℕ) → T (are_bytes s) → rise_from least (entries_from n at s) ≡ true → bytes_taken (entries_from n at s) ≡ length s → Spelt least s
unfolding entries_from bytes_taken
spells zero at least s t u v = record { names = []; whole = no_length s (sym v) ∙ sym listed_none; rising = tt }
spells (suc n) at least s t u v = go (is_entry s) refl (λ k p q. spells n (at + span_of s) k (drop (span_of s) s) (bytes_drop (span_of s) s t) p q) u v
  where
    rest : List EntryAt
    rest = entries_from n (at + span_of s) (drop (span_of s) s)

    Rest : Type 0
    Rest = (k : ℕ) → rise_from k rest ≡ true → bytes_taken rest ≡ length (drop (span_of s) s) → Spelt k (drop (span_of s) s)

    go : (b : Bool) → is_entry s ≡ b → Rest → rise_from least (elim b [ true ↦ first_entry at s ∷ rest | false ↦ [] ]) ≡ true
        → bytes_taken (elim b [ true ↦ first_entry at s ∷ rest | false ↦ [] ]) ≡ length s → Spelt least s
    go true e r u v =
        let f = first_named_lem s t e in
        let x : ListEntry = first_named s in
        let more : Spelt (suc x.id) (drop (span_of s) s) = r (suc x.id) (rise_first least (first_entry at s) rest u) (omega (arith, v, length-drop (span_of s) s)) in
        record {
          names = x ∷ more.names;
          whole = f.0 ∙ ap (entry_then x) more.whole ∙ sym (listed_first x more.names);
          rising = (record { low = rise_least least (first_entry at s) rest u; fits = f.1; short = omega (arith, f.2, entry_short s e) }, more.rising);
        }
    go false e r u v = record { names = []; whole = no_length s (sym v) ∙ sym listed_none; rising = tt }

pub text_list_decided : (s : List ℕ) → T (are_bytes s) → T (text_list_ok s) ↔ ((es : List ListEntry) × MadeOf es s)
unfolding text_list_ok entries_at
text_list_decided s t = (to, λ l. passes l.0 s l.1)
  where
    to : T (text_list_ok s) → (es : List ListEntry) × MadeOf es s
    to o =
        let rise : T (rise_from 0 (entries_in s)) = left (rise_from 0 (entries_in s)) (eqb (bytes_taken (entries_in s)) (length s)) o in
        let all : T (eqb (bytes_taken (entries_in s)) (length s)) = right (rise_from 0 (entries_in s)) (eqb (bytes_taken (entries_in s)) (length s)) o in
        let p : Spelt 0 s = spells (length s) 0 0 s t (T_true (rise_from 0 (entries_in s)) rise) (eqb-true (bytes_taken (entries_in s)) (length s) (T_true (eqb (bytes_taken (entries_in s)) (length s)) all)) in
        (p.names, rising-listed p.names s p.whole p.rising)

-- ---- what a list names an ID is what is found for it
-- at which byte the text of entry i begins: behind the entries in front, its ID and its length byte
abbrev pub begins_at : ℕ → List ListEntry → ℕ
begins_at i es = length (list_bytes (take i es)) + 3

-- one entry is found, with this text, which begins there
pub record Found (id : ℕ) (text : List ℕ) (from : ℕ) (es : List EntryAt) (s : List ℕ) : Type 0 where
  pub one : es ≡ record { id = id; from = from; size = length text } ∷ []
  pub spelt : take (length text) (drop from s) ≡ text

named_from : (least at : ℕ) (es : List ListEntry) (s : List ℕ) → Rising least es → drop at s ≡ list_bytes es → (i : ℕ) (e : ListEntry) → i < length es
    → 0 < length (get_or es i e).text → Found (get_or es i e).id (get_or es i e).text (at + begins_at i es) (keep (is_for (get_or es i e).id) (found_in at es)) s
named_from least at [] s r w i e h k = absurd (omega (arith, h))
named_from least at (x ∷ es) s r w zero e h k =
    let t : EntryAt = record { id = x.id; from = at + 3; size = length x.text } in
    let more : List EntryAt = found_in (at + (3 + length x.text)) es in
    let kept : List EntryAt = keep (is_for x.id) more in
    let front : at + 3 ≡ at + (length (list_bytes []) + 3) = omega (arith, ap length listed_none) in
    record {
      one = ap (λ (b : Bool). if b && ltb 0 (length x.text) then t ∷ kept else kept) (eq-eqb x.id x.id refl)
          ∙ ap (λ (b : Bool). if b then t ∷ kept else kept) (lt-ltb 0 (length x.text) k)
          ∙ ap (λ (ts : List EntryAt). t ∷ ts) (kept_none x.id (suc x.id) more (omega arith) (rise_found (suc x.id) (at + (3 + length x.text)) es r.1))
          ∙ (λ j. record { id = x.id; from = front j; size = length x.text } ∷ []);
      spelt = ap (λ (n : ℕ). take (length x.text) (drop n s)) (sym front)
          ∙ ap (take (length x.text)) (sym (drop-drop 3 at s) ∙ ap (drop 3) (w ∙ listed_first x es))
          ∙ take-append_seam x.text (list_bytes es);
    }
named_from least at (x ∷ es) s r w (suc i) e h k =
    let next : ℕ = at + (3 + length x.text) in
    let id : ℕ = (get_or es i e).id in
    let size : ℕ = length (get_or es i e).text in
    let f = named_from (suc x.id) next es s r.1 (sym (drop-drop (3 + length x.text) at s) ∙ ap (drop (3 + length x.text)) (w ∙ listed_first x es) ∙ behind x (list_bytes es)) i e (omega (arith, h)) k in
    let place : next + begins_at i es ≡ at + begins_at (suc i) (x ∷ es) = omega (arith, ap length (listed_first x (take i es)), length-append x.text (list_bytes (take i es))) in
    record {
      one = kept_other id (record { id = x.id; from = at + 3; size = length x.text }) (found_in next es) (λ q. omega (arith, q, (rising_at (suc x.id) es r.1 i e (omega (arith, h))).low))
          ∙ f.one
          ∙ (λ j. record { id = id; from = place j; size = size } ∷ []);
      spelt = ap (λ (n : ℕ). take size (drop n s)) (sym place) ∙ f.spelt;
    }

-- an ID that is named a non-empty text: one entry is found, and it has that text
pub text_named : (es : List ListEntry) (s : List ℕ) → MadeOf es s → (i : ℕ) (e : ListEntry) → i < length es → 0 < length (get_or es i e).text
    → Found (get_or es i e).id (get_or es i e).text (begins_at i es) (entries_for (get_or es i e).id s) s
unfolding entries_for
text_named es s l i e h k =
    let f = named_from 0 0 es s (listed-rising es s l) l.whole i e h k in
    let here : 0 + begins_at i es ≡ begins_at i es = omega arith in
    record {
      one = ap (keep (is_for (get_or es i e).id)) (found_in_lem es s l) ∙ f.one ∙ (λ j. record { id = (get_or es i e).id; from = here j; size = length (get_or es i e).text } ∷ []);
      spelt = ap (λ (n : ℕ). take (length (get_or es i e).text) (drop n s)) (sym here) ∙ f.spelt;
    }

unnamed_from : (id at : ℕ) (es : List ListEntry) → ((i : ℕ) (e : ListEntry) → i < length es → (get_or es i e).id ≡ id → length (get_or es i e).text ≡ 0) → keep (is_for id) (found_in at es) ≡ []
unnamed_from id at [] n = refl
unnamed_from id at (x ∷ es) n =
    ap (λ (b : Bool). if b then t ∷ kept else kept) (go (eqb x.id id) refl) ∙ unnamed_from id (at + (3 + length x.text)) es (λ i e h. n (suc i) e (omega (arith, h)))
  where
    t : EntryAt
    t = record { id = x.id; from = at + 3; size = length x.text }

    kept : List EntryAt
    kept = keep (is_for id) (found_in (at + (3 + length x.text)) es)

    go : (b : Bool) → eqb x.id id ≡ b → is_for id t ≡ false
    go true q = ap (λ (b : Bool). eqb x.id id && b) (le-ltb 0 (length x.text) (omega (arith, n 0 x (omega arith) (eqb-true x.id id q)))) ∙ and-false (eqb x.id id)
    go false q = ap (λ (b : Bool). b && ltb 0 (length x.text)) q

-- an ID that is named no text, or the empty one: nothing is found
pub text_unnamed : (es : List ListEntry) (s : List ℕ) → MadeOf es s → (id : ℕ)
    → ((i : ℕ) (e : ListEntry) → i < length es → (get_or es i e).id ≡ id → length (get_or es i e).text ≡ 0) → entries_for id s ≡ []
unfolding entries_for
text_unnamed es s l id n = ap (keep (is_for id)) (found_in_lem es s l) ∙ unnamed_from id 0 es n
