-- The entries of a set that are left from byte `at` on: what a loop over them knows.
use Prim.Native.Nat.{ℕ, suc, ◌+◌, ◌-◌, ◌≤◌}
use mathlib.Core.Path.{◌≡◌, refl, sym, ◌∙◌, ap, subst}
use mathlib.Core.Bool.{Bool, true, false, not, ◌&&◌, ◌||◌}
use mathlib.Core.List.{List, [], ◌∷◌, map}
use native.Mathlib.Omega.{arith}
use lib.ListN.{length, drop, length-drop, get_or}
use lib.Seq.{drop-drop}
use borrow.Author.Tests.{eq-eqb, eqb-true}
use lib.Dec.{T, leb, eqb, leb→le, le→leb}
use Rattle.std.specs.Prelude.{if◌then◌else◌}
use Rattle.words.specs.Words.{is_yes_or_no, is_yes, every, is_empty, is_padded, are_zero}
use Rattle.words.proofs.WordLaws.{left, right, parts3, true_T, T_true}
use Rattle.baos.specs.declared.datapoint.Datapoint.{Datapoint}
use Rattle.baos.specs.declared.item.Item.{Item}
use Rattle.baos.specs.Message.{Finding, bad, verdict_of, fine}
use Rattle.baos.specs.Set.{SetEntry, span, fills, set_entries, first_bad, applied, all_short, set_datapoint, set_item, takes_command, datapoint_code, item_code, judged_datapoint, judged_item}
use Rattle.baos.specs.Datapoint.{datapoint_id, zero_datapoint, size_of, unused_bits_ok}
use Rattle.baos.specs.Item.{item_id, item_ok, with_bytes}
use Rattle.baos.specs.Lookup.{lookup_of, is_present}
use Rattle.baos.specs.Table.{rising, table_ok, found, changed_at}
use Rattle.baos.proofs.SetLaws.{span_head}
use Rattle.baos.proofs.TableLaws.{id_stays, applied_first}
use Rattle.baos.proofs.DatapointLaws as DatapointLaws

pub fills_one : (h n : ℕ) (s : List ℕ) → fills h (suc n) s ≡ true → (span h s ≤ length s) × (fills h n (drop (span h s) s) ≡ true)
unfolding fills
fills_one h n s f = go (leb h (length s)) (leb (span h s) (length s)) refl f
  where
    go : (a b : Bool) → leb (span h s) (length s) ≡ b → elim (a && b) [ true ↦ fills h n (drop (span h s) s) | false ↦ false ] ≡ true → (span h s ≤ length s) × (fills h n (drop (span h s) s) ≡ true)
    go true true e z = (leb→le (span h s) (length s) (true_T e), z)
    go true false e z = absurd (true_T z)
    go false b e z = absurd (true_T z)

module _ (h at n : ℕ) (s : List ℕ) (more : 1 ≤ n) where
  -- where the entry ends
  abbrev next : ℕ
  next = at + span h (drop at s)

  pub fills-next : 1 ≤ h → fills h n (drop at s) ≡ true → (next ≤ length s) × (fills h (n - 1) (drop next s) ≡ true)
  fills-next p f =
      let r : (span h (drop at s) ≤ length (drop at s)) × (fills h (n - 1) (drop (span h (drop at s)) (drop at s)) ≡ true) =
      fills_one h (n - 1) (drop at s) (ap (λ (k : ℕ). fills h k (drop at s)) {x = suc (n - 1)} {y = n} (omega (arith, more)) ∙ f) in
      (omega (arith, r.0, length-drop at s, span_head h (drop at s), p), sym (ap (fills h (n - 1)) (drop-drop (span h (drop at s)) at s)) ∙ r.1)

  module _ (first : List ℕ → SetEntry) where
    abbrev entry : SetEntry
    entry = first (drop at s)

    abbrev rest : List SetEntry
    rest = set_entries first h (n - 1) (drop next s)

    entries_next : set_entries first h n (drop at s) ≡ entry ∷ rest
    unfolding set_entries
    entries_next =
        ap (λ (k : ℕ). set_entries first h k (drop at s)) {x = n} {y = suc (n - 1)} (omega (arith, more))
        ∙ ap (λ (r : List ℕ). entry ∷ set_entries first h (n - 1) r) (drop-drop (span h (drop at s)) at s)

    -- ---- judged
    module _ (judge : SetEntry → ℕ) (found : Finding) (so : first_bad judge (set_entries first h n (drop at s)) ≡ found) where
      now_first : first_bad judge (entry ∷ rest) ≡ found
      now_first = sym (ap (first_bad judge) entries_next) ∙ so

      pub judged_bad : T (not (eqb (judge entry) 0)) → record { id = entry.id; code = judge entry } ≡ verdict_of found
      unfolding first_bad verdict_of
      judged_bad t = go (eqb (judge entry) 0) t now_first
        where
          go : (y : Bool) → T (not y) → (if y then first_bad judge rest else bad entry.id (judge entry)) ≡ found → record { id = entry.id; code = judge entry } ≡ verdict_of found
          go true t z = absurd t
          go false t z = ap verdict_of z

      pub judged_fine : T (not (not (eqb (judge entry) 0))) → first_bad judge rest ≡ found
      unfolding first_bad
      judged_fine t = go (eqb (judge entry) 0) t now_first
        where
          go : (y : Bool) → T (not (not y)) → (if y then first_bad judge rest else bad entry.id (judge entry)) ≡ found → first_bad judge rest ≡ found
          go true t z = z
          go false t z = absurd t

    -- ---- applied
    pub short_next : (most : ℕ) → all_short most (set_entries first h n (drop at s)) ≡ true → (length entry.value ≤ most) × (all_short most rest ≡ true)
    unfolding all_short
    short_next most z =
        let t : T (leb (length entry.value) most && every (λ o. leb (length o.value) most) rest) = true_T (sym (ap (every (λ o. leb (length o.value) most)) entries_next) ∙ z) in (
          leb→le (length entry.value) most (left (leb (length entry.value) most) (every (λ o. leb (length o.value) most) rest) t),
          T_true (every (λ o. leb (length o.value) most) rest) (right (leb (length entry.value) most) (every (λ o. leb (length o.value) most) rest) t),
        )

    pub applied-next : {A : Type 0} (id_of : A → ℕ) (f : SetEntry → A → A) (xs : List A) → applied id_of f (set_entries first h n (drop at s)) xs ≡ applied id_of f rest (changed_at id_of entry.id (f entry) xs)
    applied-next id_of f xs = ap (λ (es : List SetEntry). applied id_of f es xs) entries_next ∙ applied_first id_of f entry rest xs

module _ (first : List ℕ → SetEntry) (h n : ℕ) (s : List ℕ) (over : n ≤ 0) where
  pub none_left : set_entries first h n s ≡ []
  unfolding set_entries
  none_left = ap (λ (k : ℕ). set_entries first h k s) {x = n} {y = 0} (omega (arith, over))

  pub judged_all : (judge : SetEntry → ℕ) (found : Finding) → first_bad judge (set_entries first h n s) ≡ found → record { id = 0; code = 0 } ≡ verdict_of found
  unfolding first_bad verdict_of
  judged_all judge found z = ap verdict_of (sym (ap (first_bad judge) none_left) ∙ z)

  pub applied_all : {A : Type 0} (id_of : A → ℕ) (f : SetEntry → A → A) (xs : List A) → applied id_of f (set_entries first h n s) xs ≡ xs
  unfolding applied
  applied_all id_of f xs = ap (λ (es : List SetEntry). applied id_of f es xs) none_left

pub bad_fine : {id code : ℕ} → bad id code ≡ fine → ⊥
bad_fine z = subst IsBad z tt
  where
    IsBad : Finding → Type 0
    IsBad fine = ⊥
    IsBad (bad id code) = Unit {0}

-- ---- what the loops ask of a table that is well formed
pub ok_table : {A : Type 0} (most : ℕ) (id_of : A → ℕ) (ok : A → Bool) (xs : List A) → table_ok most id_of ok xs ≡ true → (length xs ≤ most) × (rising 0 (map id_of xs) ≡ true)
unfolding table_ok
ok_table most id_of ok xs t =
    let z : T (leb (length xs) most && rising 0 (map id_of xs)) = left (leb (length xs) most && rising 0 (map id_of xs)) (every ok xs) (true_T t) in
    (leb→le (length xs) most (left (leb (length xs) most) (rising 0 (map id_of xs)) z), T_true (rising 0 (map id_of xs)) (right (leb (length xs) most) (rising 0 (map id_of xs)) z))

-- ---- the IDs stay
pub ids_stay : {A : Type 0} (id_of : A → ℕ) (n : ℕ) (f : A → A) → ((x : A) → id_of (f x) ≡ id_of x) → (xs : List A) → map id_of (changed_at id_of n f xs) ≡ map id_of xs
unfolding changed_at
ids_stay id_of n f keeps [] = refl
ids_stay id_of n f keeps (x ∷ xs) = let a = id_stays id_of n f keeps x in let r = ids_stay id_of n f keeps xs in λ i. a i ∷ r i

pub datapoint_keeps : (e : SetEntry) (d : Datapoint) → datapoint_id (set_datapoint e d) ≡ datapoint_id d
unfolding set_datapoint
datapoint_keeps e d = (DatapointLaws.command_same e.command e.value d).id

pub item_keeps : (e : SetEntry) (i : Item) → item_id (set_item e i) ≡ item_id i
unfolding set_item with_bytes
item_keeps e i = refl

-- ---- what a verdict says: its code is 0 exactly if nothing was found
pub fine_code : (judge : SetEntry → ℕ) (es : List SetEntry) → (verdict_of (first_bad judge es)).code ≡ 0 → first_bad judge es ≡ fine
unfolding first_bad verdict_of
fine_code judge [] z = refl
fine_code judge (e ∷ es) z = go (fine_code judge es) (eqb (judge e) 0) refl z
  where
    go : ((verdict_of (first_bad judge es)).code ≡ 0 → first_bad judge es ≡ fine) → (y : Bool) → eqb (judge e) 0 ≡ y → (verdict_of (if y then first_bad judge es else bad e.id (judge e))).code ≡ 0 → (if y then first_bad judge es else bad e.id (judge e)) ≡ fine
    go r true q z = r z
    go r false q z = absurd (true_T (sym q ∙ eq-eqb (judge e) 0 z))

-- ---- where nothing was found, each entry was judged 0
pub each_fine : (judge : SetEntry → ℕ) (p : SetEntry → Bool) → ((e : SetEntry) → judge e ≡ 0 → T (p e)) → (es : List SetEntry) → first_bad judge es ≡ fine → every p es ≡ true
unfolding first_bad
each_fine judge p g [] z = refl
each_fine judge p g (e ∷ es) z = go (each_fine judge p g es) (eqb (judge e) 0) refl z
  where
    go : (first_bad judge es ≡ fine → every p es ≡ true) → (y : Bool) → eqb (judge e) 0 ≡ y → (if y then first_bad judge es else bad e.id (judge e)) ≡ fine → every p (e ∷ es) ≡ true
    go r true q z = ap (λ (y : Bool). y && every p es) (T_true (p e) (g e (eqb-true (judge e) 0 q))) ∙ r z
    go r false q z = absurd (bad_fine z)

-- ---- so no value is longer than a record has room for: a datapoint's is empty or of its type's size
abbrev by_tests : Bool → Bool → Bool → Bool → Bool → Bool → ℕ
by_tests absent over empty sized taken clear = if absent then 7 else if over then 8 else if empty then (if taken then 9 else 0) else if not sized then 9 else if not clear then 8 else 0

short_datapoint : (ds : List Datapoint) (e : SetEntry) → judged_datapoint ds e ≡ 0 → T (leb (length e.value) 14)
unfolding judged_datapoint datapoint_code
short_datapoint ds e z =
    go (not (is_present (lookup_of ds))) (not (takes_command (lookup_of ds) (get_or ds 0 zero_datapoint).flags e.command)) (is_empty e.value) (eqb (length e.value) size) refl refl z
  where
    size : ℕ
    size = size_of (get_or ds 0 zero_datapoint).typecode

    empty : (v : List ℕ) → is_empty v ≡ true → T (leb (length v) 14)
    empty [] q = tt
    empty (x ∷ v) q = absurd (true_T q)

    go : (n a b c : Bool) → is_empty e.value ≡ b → eqb (length e.value) size ≡ c
        → by_tests n a b c (eqb e.command 1 || eqb e.command 3) (unused_bits_ok (get_or ds 0 zero_datapoint).typecode e.value) ≡ 0 → T (leb (length e.value) 14)
    go true a b c p q z = absurd (omega (arith, z))
    go false true b c p q z = absurd (omega (arith, z))
    go false false true c p q z = empty e.value p
    go false false false true p q z = le→leb (length e.value) 14 (omega (arith, eqb-true (length e.value) size q, DatapointLaws.size_fits (get_or ds 0 zero_datapoint).typecode))
    go false false false false p q z = absurd (omega (arith, z))

pub datapoints_short : (ys : List Datapoint) (es : List SetEntry) → first_bad (λ e. judged_datapoint (found datapoint_id e.id ys) e) es ≡ fine → all_short 14 es ≡ true
unfolding all_short
datapoints_short ys es z = each_fine (λ e. judged_datapoint (found datapoint_id e.id ys) e) (λ e. leb (length e.value) 14) (λ e q. short_datapoint (found datapoint_id e.id ys) e q) es z

-- an item's is of the item's size, which is at most 16 in a table that is well formed
found-every : {A : Type 0} (id_of : A → ℕ) (p : A → Bool) (n : ℕ) (ys : List A) → T (every p ys) → T (every p (found id_of n ys))
unfolding found
found-every id_of p n [] t = tt
found-every id_of p n (y ∷ ys) t = go (eqb (id_of y) n) (found-every id_of p n ys (right (p y) (every p ys) t))
  where
    go : (b : Bool) → T (every p (found id_of n ys)) → T (every p (if b then y ∷ [] else found id_of n ys))
    go true r = subst (λ (c : Bool). T (c && true)) (sym (T_true (p y) (left (p y) (every p ys) t))) tt
    go false r = r

item_size : (i : Item) → T (item_ok i) → i.size ≤ 16
unfolding item_ok is_padded
item_size i t =
    leb→le i.size 16
    (right (eqb (length i.bytes) 16) (leb i.size 16) (left (eqb (length i.bytes) 16 && leb i.size 16) (are_zero (drop i.size i.bytes)) (parts3 (leb 1 i.size) (is_padded 16 i.size i.bytes) (is_yes_or_no i.writable) t).1))

abbrev by_item_tests : Bool → Bool → ℕ
by_item_tests writable sized = if not writable then 4 else if not sized then 9 else 0

short_item : (is : List Item) (e : SetEntry) → T (every item_ok is) → judged_item is e ≡ 0 → T (leb (length e.value) 16)
unfolding judged_item item_code
short_item [] e t z = absurd (omega (arith, z))
short_item (i ∷ is) e t z = go (is_yes i.writable) (eqb (length e.value) i.size) refl z
  where
    go : (a c : Bool) → eqb (length e.value) i.size ≡ c → by_item_tests a c ≡ 0 → T (leb (length e.value) 16)
    go false c q z = absurd (omega (arith, z))
    go true true q z = le→leb (length e.value) 16 (omega (arith, eqb-true (length e.value) i.size q, item_size i (left (item_ok i) (every item_ok is) t)))
    go true false q z = absurd (omega (arith, z))

pub items_short : (most : ℕ) (ys : List Item) (es : List SetEntry) → table_ok most item_id item_ok ys ≡ true → first_bad (λ e. judged_item (found item_id e.id ys) e) es ≡ fine → all_short 16 es ≡ true
unfolding all_short table_ok
items_short most ys es t z =
    each_fine (λ e. judged_item (found item_id e.id ys) e) (λ e. leb (length e.value) 16)
    (λ e q. short_item (found item_id e.id ys) e (found-every item_id item_ok e.id ys (right (leb (length ys) most && rising 0 (map item_id ys)) (every item_ok ys) (true_T t))) q) es z
