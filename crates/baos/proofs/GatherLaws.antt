-- The two passes over a table that gather entries: where IDs rise, ending at the first record behind the range leaves nothing out.
use Prim.Native.Nat.{ℕ, zero, suc, ◌+◌, ◌-◌, ◌≤◌, ◌<◌}
use mathlib.Core.Path.{◌≡◌, refl, sym, ◌∙◌, ap}
use mathlib.Core.Bool.{Bool, true, false, ◌&&◌, ◌||◌}
use mathlib.Core.List.{List, [], ◌∷◌, ◌++◌, map, flatten}
use native.Mathlib.Omega.{arith}
use lib.ListN.{length, get_or, take, drop, length-append, length-map, take-append-drop}
use lib.Dec.{T, leb, ltb, eqb, ltb→lt, lt→ltb, leb→le}
use borrow.Author.Tests.{lt-ltb, le-ltb, le-leb, lt-leb, eq-eqb, ne_eqb, ltb-true, ltb-false, leb-true, eqb-true, eqb-false}
use Rattle.std.specs.Prelude.{if◌then◌else◌}
use Rattle.words.specs.Words.{two_bytes, is_empty, every, keep}
use Rattle.words.proofs.WordLaws
use Rattle.baos.specs.declared.datapoint.Datapoint.{Datapoint}
use Rattle.baos.specs.declared.item.Item.{Item}
use Rattle.baos.specs.declared.inner.Wanted.{Wanted}
use Rattle.baos.specs.Inner.Gather.{Gathered}
use Rattle.baos.specs.Datapoint.{datapoint_id, handed_out}
use Rattle.baos.specs.Item.{item_id}
use Rattle.baos.specs.Table.{rising}
use Rattle.baos.specs.Message.{start_of, number_of, filter_of}
use Rattle.baos.specs.Get.{AnswerEntry, overflow, room_for_entries, listing, in_request, item_entry, description_entry, value_entry, passes, asked}
use Rattle.baos.specs.Inner.Gather.{is_behind, is_within, is_wanted, entry_of, left_of, ended, with_entry, measured, walked, nothing_gathered, built, left}

-- ---- rising IDs taken apart
rising_head : (last x : ℕ) (xs : List ℕ) → T (rising last (x ∷ xs)) → last < x
unfolding rising
rising_head last x xs t = ltb→lt last x (WordLaws.left (ltb last x) (rising x xs) t)

rising_tail : (last x : ℕ) (xs : List ℕ) → T (rising last (x ∷ xs)) → T (rising x xs)
unfolding rising
rising_tail last x xs t = WordLaws.right (ltb last x) (rising x xs) t

-- ---- the second pass
module _ {A : Type 0} (id_of : A → ℕ) (wanted : A → Bool) (end : ℕ) (below : (x : A) → T (wanted x) → id_of x < end) where
  abbrev behind : A → Bool
  behind x = leb end (id_of x)

  not_wanted : (x : A) → end ≤ id_of x → wanted x ≡ false
  not_wanted x h = WordLaws.T_false (wanted x) (λ t. let k : id_of x < end = below x t in omega arith)

  -- every later record is behind too, so none is wanted
  pub behind_none : (last : ℕ) (xs : List A) → T (rising last (map id_of xs)) → end ≤ suc last → keep wanted xs ≡ []
  behind_none last [] t h = refl
  behind_none last (x ∷ xs) t h =
      let k : last < id_of x = rising_head last (id_of x) (map id_of xs) t in
      simp (not_wanted x (omega arith)) (behind_none (id_of x) xs (rising_tail last (id_of x) (map id_of xs) t) (omega arith))

  pub behind_head : (last : ℕ) (x : A) (xs : List A) → T (rising last (map id_of (x ∷ xs))) → end ≤ id_of x → keep wanted (x ∷ xs) ≡ []
  behind_head last x xs t h = simp (not_wanted x h) (behind_none (id_of x) xs (rising_tail last (id_of x) (map id_of xs) t) (omega arith))

  pub behind_same : (change : A → A) (last : ℕ) (xs : List A) → T (rising last (map id_of xs)) → end ≤ suc last → map (λ x. if wanted x then change x else x) xs ≡ xs
  behind_same change last [] t h = refl
  behind_same change last (x ∷ xs) t h =
      let k : last < id_of x = rising_head last (id_of x) (map id_of xs) t in
      simp (not_wanted x (omega arith), behind_same change (id_of x) xs (rising_tail last (id_of x) (map id_of xs) t) (omega arith))

  -- the bytes built are those of all wanted records
  pub built_all : (entry : A → AnswerEntry) (last : ℕ) (xs : List A) → T (rising last (map id_of xs))
      → built behind wanted entry xs ≡ flatten (map (λ (e : AnswerEntry). e.bytes) (map entry (keep wanted xs)))
  unfolding built flatten
  built_all entry last [] t = refl
  built_all entry last (x ∷ xs) t = go (leb end (id_of x)) (wanted x) refl refl (built_all entry (id_of x) xs (rising_tail last (id_of x) (map id_of xs) t))
    where
      go : (u v : Bool) → leb end (id_of x) ≡ u → wanted x ≡ v → built behind wanted entry xs ≡ flatten (map (λ (e : AnswerEntry). e.bytes) (map entry (keep wanted xs)))
          → built behind wanted entry (x ∷ xs) ≡ flatten (map (λ (e : AnswerEntry). e.bytes) (map entry (keep wanted (x ∷ xs))))
      go true v a b r =
          let k : end ≤ id_of x = leb-true end (id_of x) a in
          simp (a, not_wanted x k, behind_none (id_of x) xs (rising_tail last (id_of x) (map id_of xs) t) (omega arith))
      go false true a b r = simp (a, b, r)
      go false false a b r = simp (a, b, r)

  -- the records left are all records, the wanted ones changed
  pub left_all : (change : A → A) (last : ℕ) (xs : List A) → T (rising last (map id_of xs)) → left behind wanted change xs ≡ map (λ x. if wanted x then change x else x) xs
  unfolding left
  left_all change last [] t = refl
  left_all change last (x ∷ xs) t = go (leb end (id_of x)) (wanted x) refl refl (left_all change (id_of x) xs (rising_tail last (id_of x) (map id_of xs) t))
    where
      go : (u v : Bool) → leb end (id_of x) ≡ u → wanted x ≡ v → left behind wanted change xs ≡ map (λ y. if wanted y then change y else y) xs
          → left behind wanted change (x ∷ xs) ≡ map (λ y. if wanted y then change y else y) (x ∷ xs)
      go true v a b r =
          let k : end ≤ id_of x = leb-true end (id_of x) a in
          simp (a, not_wanted x k, behind_same change (id_of x) xs (rising_tail last (id_of x) (map id_of xs) t) (omega arith))
      go false true a b r = simp (a, b, r)
      go false false a b r = simp (a, b, r)

keep_same : {A : Type 0} (p q : A → Bool) → ((x : A) → p x ≡ q x) → (xs : List A) → keep p xs ≡ keep q xs
keep_same {A} p q h xs = ap (λ (r : A → Bool). keep r xs) {x = p} {y = q} (λ i x. h x i)

-- ---- the first pass
abbrev pub entry_bytes : List AnswerEntry → List ℕ
entry_bytes es = flatten (map (λ (e : AnswerEntry). e.bytes) es)

bytes_none : length (entry_bytes []) ≡ 0
unfolding flatten
bytes_none = refl

bytes_more : (e : AnswerEntry) (es : List AnswerEntry) → length (entry_bytes (e ∷ es)) ≡ length e.bytes + length (entry_bytes es)
unfolding flatten
bytes_more e es = length-append e.bytes (entry_bytes es)

overflow_none : (room : ℕ) → overflow room [] ≡ []
unfolding overflow
overflow_none room = refl

overflow_here : (room : ℕ) (e : AnswerEntry) (es : List AnswerEntry) → room < length e.bytes → overflow room (e ∷ es) ≡ e.id ∷ []
unfolding overflow
overflow_here room e es h = simp (lt-ltb room (length e.bytes) h)

overflow_later : (room : ℕ) (e : AnswerEntry) (es : List AnswerEntry) → length e.bytes ≤ room → overflow room (e ∷ es) ≡ overflow (room - length e.bytes) es
unfolding overflow
overflow_later room e es h = simp (le-ltb room (length e.bytes) h)

keep_one : {A : Type 0} (p : A → Bool) (x : A) (xs : List A) → p x ≡ true → keep p (x ∷ xs) ≡ x ∷ keep p xs
keep_one p x xs e = simp e

keep_none : {A : Type 0} (p : A → Bool) (x : A) (xs : List A) → p x ≡ false → keep p (x ∷ xs) ≡ keep p xs
keep_none p x xs e = simp e

-- a number that is 0 or above another: the ID of an entry that does not fit stands behind all that do
abbrev pub none_or_above : ℕ → ℕ → Bool
none_or_above last over = eqb over 0 || ltb last over

none_or_above_less : (low high over : ℕ) → low ≤ high → T (none_or_above high over) → T (none_or_above low over)
none_or_above_less low high over h t = go (eqb over 0) (ltb high over) refl refl
  where
    go : (u v : Bool) → eqb over 0 ≡ u → ltb high over ≡ v → T (none_or_above low over)
    go true v a b = simp a tt
    go false true a b = simp (a, lt-ltb low over (let k : high < over = ltb-true high over b in omega arith)) tt
    go false false a b = absurd (simp (a, b) at t)

-- one step keeps what the fields' widths need: no more entries than bytes, and no more bytes than there is room for
pub measured_keeps : (behind wanted : Bool) (e : AnswerEntry) (g : Gathered) → 1 ≤ length e.bytes → g.count ≤ g.size → g.size ≤ room_for_entries
    → ((measured behind wanted e g).count ≤ (measured behind wanted e g).size) × ((measured behind wanted e g).size ≤ room_for_entries)
unfolding measured ended with_entry
measured_keeps true wanted e g b c s = (c, s)
measured_keeps false false e g b c s = (c, s)
measured_keeps false true e g b c s = go (ltb room_for_entries (g.size + length e.bytes)) refl
  where
    go : (u : Bool) → ltb room_for_entries (g.size + length e.bytes) ≡ u
        → ((measured false true e g).count ≤ (measured false true e g).size) × ((measured false true e g).size ≤ room_for_entries)
    go true d = simp d (c, s)
    go false d = simp d (omega arith, ltb-false room_for_entries (g.size + length e.bytes) d)

-- what each step keeps, the pass keeps
pub walked_holds : {A : Type 0} (P : Gathered → Type 0) (step : A → Gathered → Gathered) → ((x : A) (g : Gathered) → P g → P (step x g)) → (xs : List A) (g : Gathered) → P g → P (walked step g xs)
unfolding walked
walked_holds P step k [] g p = p
walked_holds P step k (x ∷ xs) g p = go (step x g).ended refl (walked_holds P step k xs (step x g) (k x g p))
  where
    go : (u : Bool) → (step x g).ended ≡ u → P (walked step (step x g) xs) → P (walked step g (x ∷ xs))
    go true d r = simp d (k x g p)
    go false d r = simp d r

pub walked_keeps : {A : Type 0} (behind wanted : A → Bool) (entry : A → AnswerEntry) → ((x : A) → 1 ≤ length (entry x).bytes) → (xs : List A) (g : Gathered) → g.count ≤ g.size → g.size ≤ room_for_entries
    → ((walked (λ x h. measured (behind x) (wanted x) (entry x) h) g xs).count ≤ (walked (λ x h. measured (behind x) (wanted x) (entry x) h) g xs).size) × ((walked (λ x h. measured (behind x) (wanted x) (entry x) h) g xs).size ≤ room_for_entries)
walked_keeps behind wanted entry b xs g c s =
    walked_holds (λ h. (h.count ≤ h.size) × (h.size ≤ room_for_entries)) (λ x h. measured (behind x) (wanted x) (entry x) h)
    (λ x h p. measured_keeps (behind x) (wanted x) (entry x) h (b x) p.0 p.1) xs g (c, s)

-- wanted, and in front of the first entry that does not fit
abbrev pub before : {A : Type 0} → (A → ℕ) → (A → Bool) → ℕ → A → Bool
before id_of wanted over x = wanted x && none_or_above (id_of x) over

and_false : (a : Bool) → (a && false) ≡ false
and_false true = refl
and_false false = refl

before_all : {A : Type 0} (id_of : A → ℕ) (wanted : A → Bool) (over : ℕ) → over ≡ 0 → (xs : List A) → keep (before id_of wanted over) xs ≡ keep wanted xs
before_all id_of wanted over e [] = refl
before_all {A} id_of wanted over e (x ∷ xs) = go (wanted x) refl (before_all id_of wanted over e xs)
  where
    go : (u : Bool) → wanted x ≡ u → keep (before id_of wanted over) xs ≡ keep wanted xs → keep (before id_of wanted over) (x ∷ xs) ≡ keep wanted (x ∷ xs)
    go true b r = keep_one (before id_of wanted over) x xs (simp (b, eq-eqb over 0 e)) ∙ ap (λ (ys : List A). x ∷ ys) r ∙ sym (keep_one wanted x xs b)
    go false b r = keep_none (before id_of wanted over) x xs (simp b) ∙ r ∙ sym (keep_none wanted x xs b)

overflow_decided : (room : ℕ) (es : List AnswerEntry) → T (every (λ (e : AnswerEntry). leb 1 e.id) es) → eqb (get_or (overflow room es) 0 0) 0 ≡ is_empty (overflow room es)
overflow_decided room [] t = rw (overflow_none room)
overflow_decided room (e ∷ es) t = go (ltb room (length e.bytes)) refl (overflow_decided (room - length e.bytes) es (WordLaws.right (leb 1 e.id) (every (λ (f : AnswerEntry). leb 1 f.id) es) t))
  where
    go : (u : Bool) → ltb room (length e.bytes) ≡ u → eqb (get_or (overflow (room - length e.bytes) es) 0 0) 0 ≡ is_empty (overflow (room - length e.bytes) es)
        → eqb (get_or (overflow room (e ∷ es)) 0 0) 0 ≡ is_empty (overflow room (e ∷ es))
    go true d r =
        rw (overflow_here room e es (ltb-true room (length e.bytes) d))
        (ne_eqb e.id 0 (λ z. omega (arith, z, leb→le 1 e.id (WordLaws.left (leb 1 e.id) (every (λ (f : AnswerEntry). leb 1 f.id) es) t))))
    go false d r = rw (overflow_later room e es (ltb-false room (length e.bytes) d)) r

-- what the first pass has found: the first entry that does not fit, and the number and the bytes of the entries in front of it
pub record Measure {A : Type 0} (id_of : A → ℕ) (wanted : A → Bool) (entry : A → AnswerEntry) (last : ℕ) (xs : List A) (g h : Gathered) : Type 0 where
  pub over : h.over ≡ get_or (overflow (room_for_entries - g.size) (map entry (keep wanted xs))) 0 0
  pub above : T (none_or_above last h.over)
  pub count : h.count ≡ g.count + length (keep (before id_of wanted h.over) xs)
  pub size : h.size ≡ g.size + length (entry_bytes (map entry (keep (before id_of wanted h.over) xs)))

module _ {A : Type 0} (id_of : A → ℕ) (wanted : A → Bool) (entry : A → AnswerEntry) (end : ℕ) (below : (x : A) → T (wanted x) → id_of x < end) (same : (x : A) → (entry x).id ≡ id_of x) where
  abbrev pub measuring : A → Gathered → Gathered
  measuring x g = measured (leb end (id_of x)) (wanted x) (entry x) g

  abbrev size_after : Gathered → A → ℕ
  size_after g x = g.size + length (entry x).bytes

  at_behind : (x : A) (xs : List A) (g : Gathered) → leb end (id_of x) ≡ true → walked measuring g (x ∷ xs) ≡ record { count = g.count; size = g.size; over = g.over; ended = true }
  unfolding walked measured ended
  at_behind x xs g a = simp a

  at_other : (x : A) (xs : List A) (g : Gathered) → g.ended ≡ false → leb end (id_of x) ≡ false → wanted x ≡ false → walked measuring g (x ∷ xs) ≡ walked measuring g xs
  unfolding walked measured
  at_other x xs g e a b = simp (a, b, e)

  at_over : (x : A) (xs : List A) (g : Gathered) → leb end (id_of x) ≡ false → wanted x ≡ true → ltb room_for_entries (size_after g x) ≡ true
      → walked measuring g (x ∷ xs) ≡ record { count = g.count; size = g.size; over = (entry x).id; ended = true }
  unfolding walked measured with_entry
  at_over x xs g a b c = simp (a, b, c)

  at_fitting : (x : A) (xs : List A) (g : Gathered) → g.ended ≡ false → leb end (id_of x) ≡ false → wanted x ≡ true → ltb room_for_entries (size_after g x) ≡ false
      → walked measuring g (x ∷ xs) ≡ walked measuring (record { count = g.count + 1; size = size_after g x; over = g.over; ended = g.ended }) xs
  unfolding walked measured with_entry
  at_fitting x xs g e a b c = simp (a, b, c, e)

  none_behind : (over last : ℕ) (x : A) (xs : List A) → T (rising last (map id_of (x ∷ xs))) → end ≤ id_of x → keep (before id_of wanted over) (x ∷ xs) ≡ []
  none_behind over last x xs t h =
      behind_head id_of (before id_of wanted over) end (λ y s. below y (WordLaws.left (wanted y) (none_or_above (id_of y) over) s)) last x xs t h

  -- none at the first entry that does not fit, or after it
  none_after : (over last : ℕ) (x : A) (xs : List A) → T (rising last (map id_of (x ∷ xs))) → 1 ≤ over → over ≤ id_of x → keep (before id_of wanted over) (x ∷ xs) ≡ []
  none_after over last x xs t p h =
      behind_head id_of (before id_of wanted over) over
      (λ y s. ltb→lt (id_of y) over (let k = WordLaws.right (wanted y) (none_or_above (id_of y) over) s in simp (ne_eqb over 0 (λ e. omega (arith, e))) at k)) last x xs t h

  pub measured_all : (last : ℕ) (xs : List A) (g : Gathered) → T (rising last (map id_of xs)) → g.ended ≡ false → g.over ≡ 0 → g.size ≤ room_for_entries
      → Measure id_of wanted entry last xs g (walked measuring g xs)
  measured_all last [] g t e o s = unfold walked overflow flatten in record { over = o; above = simp o tt; count = omega arith; size = omega arith }
  measured_all last (x ∷ xs) g t e o s =
      go (leb end (id_of x)) (wanted x) (ltb room_for_entries (size_after g x)) refl refl refl (λ h. measured_all (id_of x) xs h (rising_tail last (id_of x) (map id_of xs) t))
    where
      head : last < id_of x
      head = rising_head last (id_of x) (map id_of xs) t

      go : (u v w : Bool) → leb end (id_of x) ≡ u → wanted x ≡ v → ltb room_for_entries (size_after g x) ≡ w
          → ((h : Gathered) → h.ended ≡ false → h.over ≡ 0 → h.size ≤ room_for_entries → Measure id_of wanted entry (id_of x) xs h (walked measuring h xs))
          → Measure id_of wanted entry last (x ∷ xs) g (walked measuring g (x ∷ xs))
      go true v w a b c r =
          let k : end ≤ id_of x = leb-true end (id_of x) a in
          let n : keep wanted (x ∷ xs) ≡ [] = behind_head id_of wanted end below last x xs t k in
          let n' : keep (before id_of wanted g.over) (x ∷ xs) ≡ [] = none_behind g.over last x xs t k in
          rw (at_behind x xs g a)
          (record {
            over = rw (n, overflow_none (room_for_entries - g.size)) o;
            above = rw o tt;
            count = rw n' (omega arith);
            size = rw n' (omega (arith, bytes_none));
          })
      go false false w a b c r =
          let m = r g e o s in
          rw (at_other x xs g e a b)
          (record {
            over = simp b m.over;
            above = none_or_above_less last (id_of x) (walked measuring g xs).over (omega (arith, head)) m.above;
            count = simp b m.count;
            size = simp b m.size;
          })
      go false true true a b c r =
          let k : room_for_entries < size_after g x = ltb-true room_for_entries (size_after g x) c in
          let n : keep (before id_of wanted (entry x).id) (x ∷ xs) ≡ [] = none_after (entry x).id last x xs t (omega (arith, same x, head)) (omega (arith, same x)) in
          rw (at_over x xs g a b c)
          (record {
            over = rw (keep_one wanted x xs b, overflow_here (room_for_entries - g.size) (entry x) (map entry (keep wanted xs)) (omega arith));
            above = simp (lt-ltb last (entry x).id (omega (arith, same x, head)), ne_eqb (entry x).id 0 (λ z. omega (arith, z, same x, head))) tt;
            count = rw n (omega arith);
            size = rw n (omega (arith, bytes_none));
          })
      go false true false a b c r =
          let k : size_after g x ≤ room_for_entries = ltb-false room_for_entries (size_after g x) c in
          let h : Gathered = record { count = g.count + 1; size = size_after g x; over = g.over; ended = g.ended } in
          let m = r h e o k in
          let j : room_for_entries - size_after g x ≡ room_for_entries - g.size - length (entry x).bytes = omega arith in
          let w : List A = keep (before id_of wanted (walked measuring h xs).over) xs in
          let z : keep (before id_of wanted (walked measuring h xs).over) (x ∷ xs) ≡ x ∷ w
          = keep_one (before id_of wanted (walked measuring h xs).over) x xs (simp (b, WordLaws.T_true (none_or_above (id_of x) (walked measuring h xs).over) m.above)) in
          rw (at_fitting x xs g e a b c)
          (record {
            over =
                m.over ∙ ap (λ (i : ℕ). get_or (overflow i (map entry (keep wanted xs))) 0 0) j
                ∙ rw (keep_one wanted x xs b, overflow_later (room_for_entries - g.size) (entry x) (map entry (keep wanted xs)) (omega arith));
            above = none_or_above_less last (id_of x) (walked measuring h xs).over (omega (arith, head)) m.above;
            count = rw z (omega (arith, m.count));
            size = rw z (omega (arith, m.size, bytes_more (entry x) (map entry w)));
          })

  positive : (last : ℕ) (xs : List A) → T (rising last (map id_of xs)) → T (every (λ (e : AnswerEntry). leb 1 e.id) (map entry (keep wanted xs)))
  positive last [] t = tt
  positive last (x ∷ xs) t = go (wanted x) refl (positive (id_of x) xs (rising_tail last (id_of x) (map id_of xs) t))
    where
      go : (u : Bool) → wanted x ≡ u → T (every (λ (e : AnswerEntry). leb 1 e.id) (map entry (keep wanted xs))) → T (every (λ (e : AnswerEntry). leb 1 e.id) (map entry (keep wanted (x ∷ xs))))
      go true b r =
          rw (keep_one wanted x xs b)
          (WordLaws.both (leb 1 (entry x).id) (every (λ (e : AnswerEntry). leb 1 e.id) (map entry (keep wanted xs)))
          (WordLaws.true_T (le-leb 1 (entry x).id (omega (arith, same x, rising_head last (id_of x) (map id_of xs) t)))) r)
      go false b r = rw (keep_none wanted x xs b) r

  module _ (last : ℕ) (xs : List A) (g : Gathered) (rises : T (rising last (map id_of xs))) (going : g.ended ≡ false) (nothing : g.over ≡ 0) (fits : g.size ≤ room_for_entries) where
    abbrev outcome : Gathered
    outcome = walked measuring g xs

    abbrev entries : List AnswerEntry
    entries = map entry (keep wanted xs)

    measure : Measure id_of wanted entry last xs g (walked measuring g xs)
    measure = measured_all last xs g rises going nothing fits

    -- no ID is 0, so 0 says that all entries fit
    pub over_decides : eqb (walked measuring g xs).over 0 ≡ is_empty (overflow (room_for_entries - g.size) (map entry (keep wanted xs)))
    over_decides = rw measure.over (overflow_decided (room_for_entries - g.size) entries (positive last xs rises))

    pub over_none : overflow (room_for_entries - g.size) (map entry (keep wanted xs)) ≡ [] → (walked measuring g xs).over ≡ 0
    over_none e = measure.over ∙ ap (λ (ids : List ℕ). get_or ids 0 0) e

-- ---- a pass may begin behind records that are in front of the range
abbrev pub in_front : {A : Type 0} → (A → ℕ) → ℕ → A → Bool
in_front id_of start x = ltb (id_of x) start

module _ {A : Type 0} (id_of : A → ℕ) (wanted : A → Bool) (start end : ℕ) (range : start ≤ end) (from : (x : A) → T (wanted x) → start ≤ id_of x) where
  front_unwanted : (x : A) → T (in_front id_of start x) → wanted x ≡ false
  front_unwanted x t = WordLaws.T_false (wanted x) (λ w. omega (arith, from x w, ltb→lt (id_of x) start t))

  front_not_behind : (x : A) → T (in_front id_of start x) → leb end (id_of x) ≡ false
  front_not_behind x t = lt-leb end (id_of x) (omega (arith, range, ltb→lt (id_of x) start t))

  pub keep_skipped : (xs ys : List A) → T (every (in_front id_of start) xs) → keep wanted (xs ++ ys) ≡ keep wanted ys
  keep_skipped [] ys t = refl
  keep_skipped (x ∷ xs) ys t =
      keep_none wanted x (xs ++ ys) (front_unwanted x (WordLaws.left (in_front id_of start x) (every (in_front id_of start) xs) t))
      ∙ keep_skipped xs ys (WordLaws.right (in_front id_of start x) (every (in_front id_of start) xs) t)

  pub built_skipped : (entry : A → AnswerEntry) (xs ys : List A) → T (every (in_front id_of start) xs)
      → built (λ x. leb end (id_of x)) wanted entry (xs ++ ys) ≡ built (λ x. leb end (id_of x)) wanted entry ys
  unfolding built
  built_skipped entry [] ys t = refl
  built_skipped entry (x ∷ xs) ys t =
      let h : T (in_front id_of start x) = WordLaws.left (in_front id_of start x) (every (in_front id_of start) xs) t in
      simp (front_unwanted x h, front_not_behind x h)
      (built_skipped entry xs ys (WordLaws.right (in_front id_of start x) (every (in_front id_of start) xs) t))

  pub left_skipped : (change : A → A) (xs ys : List A) → T (every (in_front id_of start) xs)
      → left (λ x. leb end (id_of x)) wanted change (xs ++ ys) ≡ xs ++ left (λ x. leb end (id_of x)) wanted change ys
  unfolding left
  left_skipped change [] ys t = refl
  left_skipped change (x ∷ xs) ys t =
      let h : T (in_front id_of start x) = WordLaws.left (in_front id_of start x) (every (in_front id_of start) xs) t in
      simp
      (front_unwanted x h, front_not_behind x h, left_skipped change xs ys (WordLaws.right (in_front id_of start x) (every (in_front id_of start) xs) t))

  pub walked_skipped : (entry : A → AnswerEntry) (xs ys : List A) (g : Gathered) → g.ended ≡ false → T (every (in_front id_of start) xs)
      → walked (λ x h. measured (leb end (id_of x)) (wanted x) (entry x) h) g (xs ++ ys) ≡ walked (λ x h. measured (leb end (id_of x)) (wanted x) (entry x) h) g ys
  unfolding walked measured
  walked_skipped entry [] ys g e t = refl
  walked_skipped entry (x ∷ xs) ys g e t =
      let h : T (in_front id_of start x) = WordLaws.left (in_front id_of start x) (every (in_front id_of start) xs) t in
      simp (front_unwanted x h, front_not_behind x h, e)
      (walked_skipped entry xs ys g e (WordLaws.right (in_front id_of start x) (every (in_front id_of start) xs) t))

-- the place that a search has found: IDs rise, so where the record in front of it is in front of the range, all there are
pub front_of_place : {A : Type 0} (id_of : A → ℕ) (start last k : ℕ) (xs : List A) → T (rising last (map id_of xs)) → k < length xs → get_or (map id_of xs) k 0 < start → T (every (in_front id_of start) (take (suc k) xs))
front_of_place id_of start last k [] t h e = absurd (omega arith)
front_of_place id_of start last zero (x ∷ xs) t h e = WordLaws.both (in_front id_of start x) true (lt→ltb (id_of x) start e) tt
front_of_place id_of start last (suc k) (x ∷ []) t h e = absurd (omega arith)
front_of_place id_of start last (suc k) (x ∷ y ∷ ys) t h e =
    let s : T (rising (id_of x) (map id_of (y ∷ ys))) = rising_tail last (id_of x) (map id_of (y ∷ ys)) t in
    let r : T (every (in_front id_of start) (take (suc k) (y ∷ ys))) = front_of_place id_of start (id_of x) k (y ∷ ys) s (omega arith) e in
    let p : id_of x < id_of y = rising_head (id_of x) (id_of y) (map id_of ys) s in
    let q : id_of y < start = ltb→lt (id_of y) start (WordLaws.left (in_front id_of start y) (every (in_front id_of start) (take k ys)) r) in
    WordLaws.both (in_front id_of start x) (every (in_front id_of start) (take (suc k) (y ∷ ys))) (lt→ltb (id_of x) start (omega arith)) r

-- ---- what both passes say of the entries to return
pub record Passed (es : List AnswerEntry) (g : Gathered) (bytes : List ℕ) : Type 0 where
  pub empty : is_empty es ≡ (eqb g.count 0 && eqb g.over 0)
  pub fits : is_empty (overflow room_for_entries es) ≡ eqb g.over 0
  pub over : get_or (overflow room_for_entries es) 0 0 ≡ g.over
  pub count : g.over ≡ 0 → g.count ≡ length es
  pub size : g.over ≡ 0 → g.size ≡ length (entry_bytes es)
  pub built : bytes ≡ entry_bytes es

-- where all entries fit, the listing is the head with their number, and the bytes built
pub passed_listing : (es : List AnswerEntry) (g : Gathered) (bytes : List ℕ) → Passed es g bytes → g.over ≡ 0 → (sub start : ℕ)
    → listing sub start es ≡ 0xF0 ∷ sub ∷ two_bytes start ++ two_bytes g.count ++ bytes
unfolding listing
passed_listing es g bytes p e sub start = rw (p.count e, p.built)

-- ---- both passes over a table, from a place in front of which no record is in the range
module _ {A : Type 0} (id_of : A → ℕ) (wanted : A → Bool) (entry : A → AnswerEntry) (start end : ℕ) (range : start ≤ end) (from : (x : A) → T (wanted x) → start ≤ id_of x)
    (below : (x : A) → T (wanted x) → id_of x < end) (same : (x : A) → (entry x).id ≡ id_of x) (k : ℕ) (xs : List A) (rises : T (rising 0 (map id_of xs)))
    (front : T (every (in_front id_of start) (take k xs)))
  where
    abbrev pub gathered : Gathered
    gathered = walked (measuring id_of wanted entry end below same) nothing_gathered (drop k xs)

    gathered_whole : gathered ≡ walked (measuring id_of wanted entry end below same) nothing_gathered xs
    gathered_whole =
        sym (walked_skipped id_of wanted start end range from entry (take k xs) (drop k xs) nothing_gathered refl front)
        ∙ ap (λ (ys : List A). walked (measuring id_of wanted entry end below same) nothing_gathered ys) (take-append-drop k xs)

    pub gathered_measure : Measure id_of wanted entry 0 xs nothing_gathered gathered
    gathered_measure = rw gathered_whole (measured_all id_of wanted entry end below same 0 xs nothing_gathered rises refl refl (omega arith))

    pub gathered_over : gathered.over ≡ get_or (overflow room_for_entries (map entry (keep wanted xs))) 0 0
    gathered_over = gathered_measure.over

    pub gathered_fits : is_empty (overflow room_for_entries (map entry (keep wanted xs))) ≡ eqb gathered.over 0
    gathered_fits = rw gathered_whole (sym (over_decides id_of wanted entry end below same 0 xs nothing_gathered rises refl refl (omega arith)))

    pub gathered_count : gathered.over ≡ 0 → gathered.count ≡ length (map entry (keep wanted xs))
    gathered_count e =
        omega
        (arith, gathered_measure.count, ap (λ (ys : List A). length ys) (before_all id_of wanted gathered.over e xs), length-map (keep wanted xs) entry)

    pub gathered_size : gathered.over ≡ 0 → gathered.size ≡ length (entry_bytes (map entry (keep wanted xs)))
    gathered_size e =
        omega (arith, gathered_measure.size, ap (λ (ys : List A). length (entry_bytes (map entry ys))) (before_all id_of wanted gathered.over e xs))

    pub gathered_empty : is_empty (map entry (keep wanted xs)) ≡ (eqb gathered.count 0 && eqb gathered.over 0)
    gathered_empty = go (eqb gathered.over 0) refl (map entry (keep wanted xs)) refl
      where
        go : (u : Bool) → eqb gathered.over 0 ≡ u → (es : List AnswerEntry) → map entry (keep wanted xs) ≡ es → is_empty es ≡ (eqb gathered.count 0 && eqb gathered.over 0)
        go true d [] e = simp (d, eq-eqb gathered.count 0 (gathered_count (eqb-true gathered.over 0 d) ∙ ap (λ (fs : List AnswerEntry). length fs) e))
        go true d (f ∷ fs) e =
            simp (ne_eqb gathered.count 0 (λ z. omega (arith, z, gathered_count (eqb-true gathered.over 0 d), ap (λ (gs : List AnswerEntry). length gs) e)))
        go false d [] e =
            absurd (eqb-false gathered.over 0 d (gathered_over ∙ ap (λ (fs : List AnswerEntry). get_or (overflow room_for_entries fs) 0 0) e ∙ ap (λ (ids : List ℕ). get_or ids 0 0) (overflow_none room_for_entries)))
        go false d (f ∷ fs) e = simp d (sym (and_false (eqb gathered.count 0)))

    pub gathered_bytes : built (λ x. leb end (id_of x)) wanted entry (drop k xs) ≡ entry_bytes (map entry (keep wanted xs))
    gathered_bytes =
        sym (built_skipped id_of wanted start end range from entry (take k xs) (drop k xs) front)
        ∙ ap (λ (ys : List A). built (λ x. leb end (id_of x)) wanted entry ys) (take-append-drop k xs) ∙ built_all id_of wanted end below entry 0 xs rises

    pub gathered_passes : Passed (map entry (keep wanted xs)) gathered (built (λ x. leb end (id_of x)) wanted entry (drop k xs))
    gathered_passes =
        record {
          empty = gathered_empty;
          fits = gathered_fits;
          over = sym gathered_over;
          count = gathered_count;
          size = gathered_size;
          built = gathered_bytes;
        }

    pub gathered_left : (change : A → A) → take k xs ++ left (λ x. leb end (id_of x)) wanted change (drop k xs) ≡ map (λ x. if wanted x then change x else x) xs
    gathered_left change =
        sym (left_skipped id_of wanted start end range from change (take k xs) (drop k xs) front)
        ∙ ap (λ (ys : List A). left (λ x. leb end (id_of x)) wanted change ys) (take-append-drop k xs) ∙ left_all id_of wanted end below change 0 xs rises

-- ---- the gets of datapoints and items
-- what a get asks for
abbrev pub wanted_by : List ℕ → ℕ → Bool → Wanted
wanted_by m filter values = record { start = start_of m; end = start_of m + number_of m; filter = filter; values = values }

module _ (w : Wanted) where
  pub wanted_from : (d : Datapoint) → T (is_wanted w d) → w.start ≤ d.id
  unfolding is_wanted is_within
  wanted_from d t =
      leb→le w.start d.id
      (WordLaws.left (leb w.start d.id) (ltb d.id w.end) (WordLaws.left (is_within w d.id) (passes w.filter d) t))

  pub wanted_below : (d : Datapoint) → T (is_wanted w d) → d.id < w.end
  unfolding is_wanted is_within
  wanted_below d t =
      ltb→lt d.id w.end
      (WordLaws.right (leb w.start d.id) (ltb d.id w.end) (WordLaws.left (is_within w d.id) (passes w.filter d) t))

  pub entry_id : (d : Datapoint) → (entry_of w d).id ≡ d.id
  unfolding entry_of value_entry description_entry
  entry_id d = go w.values refl
    where
      go : (u : Bool) → w.values ≡ u → (entry_of w d).id ≡ d.id
      go true e = simp e
      go false e = simp e

  pub within_from : (id : ℕ) → T (is_within w id) → w.start ≤ id
  unfolding is_within
  within_from id t = leb→le w.start id (WordLaws.left (leb w.start id) (ltb id w.end) t)

  pub within_below : (id : ℕ) → T (is_within w id) → id < w.end
  unfolding is_within
  within_below id t = ltb→lt id w.end (WordLaws.right (leb w.start id) (ltb id w.end) t)

  -- both passes over datapoints from place k on
  abbrev pub datapoints_gathered : List Datapoint → Gathered
  datapoints_gathered ds = walked (λ (d : Datapoint) g. measured (is_behind w d.id) (is_wanted w d) (entry_of w d) g) nothing_gathered ds

  abbrev pub datapoints_built : List Datapoint → List ℕ
  datapoints_built ds = built (λ (d : Datapoint). is_behind w d.id) (is_wanted w) (entry_of w) ds

  abbrev pub datapoints_left : List Datapoint → List Datapoint
  datapoints_left ds = left (λ (d : Datapoint). is_behind w d.id) (is_wanted w) (left_of w) ds

  abbrev pub items_gathered : List Item → Gathered
  items_gathered is = walked (λ (i : Item) g. measured (is_behind w i.id) (is_within w i.id) (item_entry i) g) nothing_gathered is

  abbrev pub items_built : List Item → List ℕ
  items_built is = built (λ (i : Item). is_behind w i.id) (λ (i : Item). is_within w i.id) item_entry is

  module _ (range : w.start ≤ w.end) (k : ℕ) (ds : List Datapoint) (rises : T (rising 0 (map datapoint_id ds))) (front : T (every (in_front datapoint_id w.start) (take k ds))) where
    pub datapoints_pass : Passed (map (entry_of w) (keep (is_wanted w) ds)) (datapoints_gathered (drop k ds)) (datapoints_built (drop k ds))
    unfolding is_behind
    datapoints_pass = gathered_passes datapoint_id (is_wanted w) (entry_of w) w.start w.end range wanted_from wanted_below entry_id k ds rises front

    pub datapoints_left_lem : take k ds ++ datapoints_left (drop k ds) ≡ map (λ (d : Datapoint). if is_wanted w d then left_of w d else d) ds
    unfolding is_behind
    datapoints_left_lem = gathered_left datapoint_id (is_wanted w) (entry_of w) w.start w.end range wanted_from wanted_below entry_id k ds rises front (left_of w)

  pub items_pass : w.start ≤ w.end → (k : ℕ) (is : List Item) → T (rising 0 (map item_id is)) → T (every (in_front item_id w.start) (take k is))
      → Passed (map item_entry (keep (λ (i : Item). is_within w i.id) is)) (items_gathered (drop k is)) (items_built (drop k is))
  unfolding is_behind
  items_pass range k is rises front =
      gathered_passes item_id (λ (i : Item). is_within w i.id) item_entry w.start w.end range (λ i. within_from i.id) (λ i. within_below i.id) (λ i. unfold item_entry in refl) k is rises front

-- each entry has bytes, so the numbers stay small
entry_bytes_lem : (w : Wanted) (d : Datapoint) → 1 ≤ length (entry_of w d).bytes
unfolding entry_of value_entry description_entry
entry_bytes_lem w d = go w.values refl
  where
    go : (u : Bool) → w.values ≡ u → 1 ≤ length (entry_of w d).bytes
    go true e = simp e (omega arith)
    go false e = simp e (omega arith)

item_bytes : (i : Item) → 1 ≤ length (item_entry i).bytes
unfolding item_entry
item_bytes i = omega arith

pub datapoints_small : (w : Wanted) (ds : List Datapoint) → ((datapoints_gathered w ds).count ≤ (datapoints_gathered w ds).size) × ((datapoints_gathered w ds).size ≤ room_for_entries)
datapoints_small w ds = walked_keeps (λ (d : Datapoint). is_behind w d.id) (is_wanted w) (entry_of w) (entry_bytes_lem w) ds nothing_gathered (omega arith) (omega arith)

pub items_small : (w : Wanted) (is : List Item) → ((items_gathered w is).count ≤ (items_gathered w is).size) × ((items_gathered w is).size ≤ room_for_entries)
items_small w is =
    walked_keeps (λ (i : Item). is_behind w i.id) (λ (i : Item). is_within w i.id) item_entry item_bytes is nothing_gathered (omega arith) (omega arith)

and_true : (a : Bool) → (a && true) ≡ a
and_true true = refl
and_true false = refl

pub wanted_asked : (m : List ℕ) (d : Datapoint) → is_wanted (wanted_by m (filter_of m) true) d ≡ asked m d
unfolding is_wanted is_within asked in_request
wanted_asked m d = refl

pub wanted_in_request : (m : List ℕ) (values : Bool) (d : Datapoint) → is_wanted (wanted_by m 0 values) d ≡ in_request m d.id
unfolding is_wanted is_within in_request passes
wanted_in_request m values d = and_true (in_request m d.id)

module _ (m : List ℕ) (k : ℕ) where
  -- GetDatapointValue
  module _ (ds : List Datapoint) (rises : T (rising 0 (map datapoint_id ds))) (front : T (every (in_front datapoint_id (start_of m)) (take k ds))) where
    pub values_pass : Passed (map value_entry (keep (asked m) ds)) (datapoints_gathered (wanted_by m (filter_of m) true) (drop k ds)) (datapoints_built (wanted_by m (filter_of m) true) (drop k ds))
    unfolding entry_of
    values_pass =
        rw (← keep_same (is_wanted (wanted_by m (filter_of m) true)) (asked m) (wanted_asked m) ds)
        (datapoints_pass (wanted_by m (filter_of m) true) (omega arith) k ds rises front)

    pub values_left : take k ds ++ datapoints_left (wanted_by m (filter_of m) true) (drop k ds) ≡ map (λ (d : Datapoint). if asked m d then handed_out d else d) ds
    unfolding left_of
    values_left =
        datapoints_left_lem (wanted_by m (filter_of m) true) (omega arith) k ds rises front
        ∙ ap (λ (p : Datapoint → Bool). map (λ (d : Datapoint). if p d then handed_out d else d) ds) (λ i d. wanted_asked m d i)

    -- GetDatapointDescription
    pub descriptions_pass : Passed (map description_entry (keep (λ (d : Datapoint). in_request m d.id) ds)) (datapoints_gathered (wanted_by m 0 false) (drop k ds)) (datapoints_built (wanted_by m 0 false) (drop k ds))
    unfolding entry_of
    descriptions_pass =
        rw (← keep_same (is_wanted (wanted_by m 0 false)) (λ (d : Datapoint). in_request m d.id) (wanted_in_request m false) ds)
        (datapoints_pass (wanted_by m 0 false) (omega arith) k ds rises front)

  -- GetServerItem
  pub items_asked_pass : (filter : ℕ) (values : Bool) (is : List Item) → T (rising 0 (map item_id is)) → T (every (in_front item_id (start_of m)) (take k is))
      → Passed (map item_entry (keep (λ (i : Item). in_request m i.id) is)) (items_gathered (wanted_by m filter values) (drop k is)) (items_built (wanted_by m filter values) (drop k is))
  items_asked_pass filter values is rises front =
      rw (← keep_same (λ (i : Item). is_within (wanted_by m filter values) i.id) (λ (i : Item). in_request m i.id) (λ i. unfold is_within in_request in refl) is)
      (items_pass (wanted_by m filter values) (omega arith) k is rises front)
