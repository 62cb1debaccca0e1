-- The entries of a set: one, read from byte `at` on, and judged or applied by the record that stands where its ID belongs.
use Prim.Native.Nat.{ℕ, ◌+◌, ◌-◌, ◌*◌, ◌≤◌, ◌<◌}
use mathlib.Core.Bool.{Bool, true, false, ◌&&◌}
use mathlib.Core.List.{List, [], ◌∷◌, map}
use mathlib.Core.Path.{◌≡◌, refl, sym, ◌∙◌, ap, subst}
use native.Mathlib.Nat.{add-zero}
use native.Mathlib.Omega.{arith}
use lib.Dec.{eqb}
use lib.ListN.{length, get_or, take, drop, set}
use lib.Seq.{get_or-drop, drop-drop, set-get_or}
use borrow.Author.Tests.{eq-eqb, ne_eqb, lt-ltb, le-ltb}
use Rattle.std.specs.Prelude.{if◌then◌else◌}
use Rattle.words.specs.Words.{of_two_bytes}
use Rattle.baos.specs.Datapoint.{datapoint_id, zero_datapoint, commanded}
use Rattle.baos.specs.Item.{item_id, zero_item, with_bytes}
use Rattle.baos.specs.Lookup.{lookup_of, is_present}
use Rattle.baos.specs.Set.{SetEntry, span, first_datapoint_entry, first_item_entry, datapoint_code, item_code, judged_datapoint, judged_item, set_datapoint, set_item}
use Rattle.baos.specs.Table.{found, changed_at, place, rising}
use Rattle.words.proofs.WordLaws.{true_T}
use Rattle.baos.proofs.PlaceLaws.{found_at, changed_at_lem}
use Rattle.baos.specs.declared.datapoint.Datapoint.{Datapoint}
use Rattle.baos.specs.declared.item.Item.{Item}

module _ (at : ℕ) (s : List ℕ) where
  -- the ID of the entry
  abbrev pub id_bytes : ℕ
  id_bytes = of_two_bytes (get_or (drop at s) 0 0) (get_or (drop at s) 1 0)

  pub id_read : get_or s at 0 * 256 + get_or s (at + 1) 0 ≡ id_bytes
  id_read =
      ap (λ (b : ℕ). b * 256 + get_or s (at + 1) 0) (sym (get_or-drop at s 0 0 ∙ ap (λ (k : ℕ). get_or s k 0) (add-zero at)))
      ∙ ap (λ (b : ℕ). get_or (drop at s) 0 0 * 256 + b) (sym (get_or-drop at s 1 0))

  -- its value, cut out of the bytes
  pub value_cut : (h e : ℕ) → e ≡ at + (h + get_or (drop at s) (h - 1) 0) → take (e - (at + h)) (drop (at + h) s) ≡ take (get_or (drop at s) (h - 1) 0) (drop h (drop at s))
  value_cut h e p =
      ap (λ (n : ℕ). take n (drop (at + h) s)) {x = e - (at + h)} {y = get_or (drop at s) (h - 1) 0} (omega (arith, p))
      ∙ ap (take (get_or (drop at s) (h - 1) 0)) (sym (drop-drop h at s))

  module _ (d : Datapoint) (e : ℕ) where
    -- what is done with the datapoint, by the bytes and by the entry
    abbrev by_bytes : {A : Type 0} → (ℕ → List ℕ → A) → A
    by_bytes f = f (get_or s (at + 2) 0) (take (e - (at + 4)) (drop (at + 4) s))

    by_entry : {A : Type 0} (f : ℕ → List ℕ → A) → e ≡ at + span 4 (drop at s) → by_bytes f ≡ f (first_datapoint_entry (drop at s)).command (first_datapoint_entry (drop at s)).value
    unfolding span first_datapoint_entry
    by_entry f p = ap (λ (c : ℕ). f c (take (e - (at + 4)) (drop (at + 4) s))) (sym (get_or-drop at s 2 0)) ∙ ap (f (get_or (drop at s) 2 0)) (value_cut 4 e p)

    -- the value cut out is as long as the entry's
    pub cut_short : e ≡ at + span 4 (drop at s) → length (first_datapoint_entry (drop at s)).value ≤ 14 → length (take (e - (at + 4)) (drop (at + 4) s)) ≤ 14
    cut_short p l = subst (λ (n : ℕ). n ≤ 14) (sym (by_entry (λ _ v. length v) p)) l

    -- the entry's code, by the datapoint where its ID belongs: that may be another's
    pub code_at : (i : ℕ) → i ≡ id_bytes → e ≡ at + span 4 (drop at s)
        → datapoint_code (lookup_of (found datapoint_id i (d ∷ []))) d (get_or s (at + 2) 0) (take (e - (at + 4)) (drop (at + 4) s))
        ≡ judged_datapoint (found datapoint_id (first_datapoint_entry (drop at s)).id (d ∷ [])) (first_datapoint_entry (drop at s))
    unfolding found judged_datapoint datapoint_code lookup_of is_present first_datapoint_entry
    code_at i same p =
        by_entry (datapoint_code (lookup_of (found datapoint_id i (d ∷ []))) d) p
        ∙ ap (λ (n : ℕ). datapoint_code (lookup_of (if eqb d.id n then d ∷ [] else [])) d (first_datapoint_entry (drop at s)).command (first_datapoint_entry (drop at s)).value) same ∙ go (eqb d.id id_bytes)
      where
        go : (y : Bool) → datapoint_code (lookup_of (if y then d ∷ [] else [])) d (first_datapoint_entry (drop at s)).command (first_datapoint_entry (drop at s)).value ≡ judged_datapoint (if y then d ∷ [] else []) (first_datapoint_entry (drop at s))
        go true = refl
        go false = refl

    pub set_here : d.id ≡ id_bytes → e ≡ at + span 4 (drop at s)
        → commanded (get_or s (at + 2) 0) (take (e - (at + 4)) (drop (at + 4) s)) d ≡ (if eqb d.id (first_datapoint_entry (drop at s)).id then set_datapoint (first_datapoint_entry (drop at s)) d else d)
    unfolding set_datapoint first_datapoint_entry
    set_here q p = by_entry (λ c v. commanded c v d) p ∙ ap (λ (y : Bool). if y then set_datapoint (first_datapoint_entry (drop at s)) d else d) (sym (eq-eqb d.id id_bytes q))

  module _ (d : Datapoint) where
    pub set_other : (d.id ≡ id_bytes → ⊥) → d ≡ (if eqb d.id (first_datapoint_entry (drop at s)).id then set_datapoint (first_datapoint_entry (drop at s)) d else d)
    unfolding first_datapoint_entry
    set_other q = ap (λ (y : Bool). if y then set_datapoint (first_datapoint_entry (drop at s)) d else d) (sym (ne_eqb d.id id_bytes q))

  module _ (i : Item) (e : ℕ) where
    bytes_entry : e ≡ at + span 3 (drop at s) → take (e - (at + 3)) (drop (at + 3) s) ≡ (first_item_entry (drop at s)).value
    unfolding span first_item_entry
    bytes_entry p = value_cut 3 e p

    pub item_cut_short : e ≡ at + span 3 (drop at s) → length (first_item_entry (drop at s)).value ≤ 16 → length (take (e - (at + 3)) (drop (at + 3) s)) ≤ 16
    item_cut_short p l = subst (λ (n : ℕ). n ≤ 16) (sym (ap length (bytes_entry p))) l

    pub item_code_here : i.id ≡ id_bytes → e ≡ at + span 3 (drop at s)
        → item_code i (take (e - (at + 3)) (drop (at + 3) s)) ≡ judged_item (found item_id (first_item_entry (drop at s)).id (i ∷ [])) (first_item_entry (drop at s))
    unfolding found judged_item first_item_entry
    item_code_here q p = ap (item_code i) (bytes_entry p) ∙ ap (λ (y : Bool). judged_item (if y then i ∷ [] else []) (first_item_entry (drop at s))) (sym (eq-eqb i.id id_bytes q))

    pub item_set_here : i.id ≡ id_bytes → e ≡ at + span 3 (drop at s)
        → with_bytes (take (e - (at + 3)) (drop (at + 3) s)) i ≡ (if eqb i.id (first_item_entry (drop at s)).id then set_item (first_item_entry (drop at s)) i else i)
    unfolding set_item first_item_entry
    item_set_here q p = ap (λ (v : List ℕ). with_bytes v i) (bytes_entry p) ∙ ap (λ (y : Bool). if y then set_item (first_item_entry (drop at s)) i else i) (sym (eq-eqb i.id id_bytes q))

  module _ (i : Item) where
    pub item_code_other : (i.id ≡ id_bytes → ⊥) → 7 ≡ judged_item (found item_id (first_item_entry (drop at s)).id (i ∷ [])) (first_item_entry (drop at s))
    unfolding found judged_item first_item_entry
    item_code_other q = ap (λ (y : Bool). judged_item (if y then i ∷ [] else []) (first_item_entry (drop at s))) (sym (ne_eqb i.id id_bytes q))

    pub item_set_other : (i.id ≡ id_bytes → ⊥) → i ≡ (if eqb i.id (first_item_entry (drop at s)).id then set_item (first_item_entry (drop at s)) i else i)
    unfolding first_item_entry
    item_set_other q = ap (λ (y : Bool). if y then set_item (first_item_entry (drop at s)) i else i) (sym (ne_eqb i.id id_bytes q))

-- ---- one search: what is found and changed goes by the record at the place
module _ {A : Type 0} (id_of : A → ℕ) (blank : A) (n : ℕ) (xs : List A) (t : rising 0 (map id_of xs) ≡ true) where
  abbrev here : A
  here = get_or xs (place id_of n xs) blank

  pub found_here : place id_of n xs < length xs → found id_of n xs ≡ found id_of n (here ∷ [])
  unfolding found
  found_here l =
      found_at id_of blank n 0 xs (true_T t) ∙ ap (λ (y : Bool). if y && eqb (id_of here) n then here ∷ [] else []) (lt-ltb (place id_of n xs) (length xs) l)

  pub found_nowhere : length xs ≤ place id_of n xs → found id_of n xs ≡ []
  found_nowhere l =
      found_at id_of blank n 0 xs (true_T t) ∙ ap (λ (y : Bool). if y && eqb (id_of here) n then here ∷ [] else []) (le-ltb (place id_of n xs) (length xs) l)

  pub changed_here : (f : A → A) → place id_of n xs < length xs → changed_at id_of n f xs ≡ set xs (place id_of n xs) (if eqb (id_of here) n then f here else here)
  changed_here f l =
      changed_at_lem id_of blank n f 0 xs (true_T t) ∙ ap (λ (y : Bool). if y && eqb (id_of here) n then set xs (place id_of n xs) (f here) else xs) (lt-ltb (place id_of n xs) (length xs) l)
      ∙ go (eqb (id_of here) n)
    where
      go : (y : Bool) → (if y then set xs (place id_of n xs) (f here) else xs) ≡ set xs (place id_of n xs) (if y then f here else here)
      go true = refl
      go false = sym (set-get_or xs (place id_of n xs) blank)

  pub changed_nowhere : (f : A → A) → length xs ≤ place id_of n xs → changed_at id_of n f xs ≡ xs
  changed_nowhere f l =
      changed_at_lem id_of blank n f 0 xs (true_T t) ∙ ap (λ (y : Bool). if y && eqb (id_of here) n then set xs (place id_of n xs) (f here) else xs) (le-ltb (place id_of n xs) (length xs) l)

pub none_datapoint : (e : SetEntry) (ys : List Datapoint) → rising 0 (map datapoint_id ys) ≡ true → length ys ≤ place datapoint_id e.id ys → 7 ≡ judged_datapoint (found datapoint_id e.id ys) e
unfolding judged_datapoint datapoint_code lookup_of is_present
none_datapoint e ys t l = ap (λ (fs : List Datapoint). judged_datapoint fs e) (sym (found_nowhere datapoint_id zero_datapoint e.id ys t l))

pub none_item : (e : SetEntry) (ys : List Item) → rising 0 (map item_id ys) ≡ true → length ys ≤ place item_id e.id ys → 7 ≡ judged_item (found item_id e.id ys) e
unfolding judged_item
none_item e ys t l = ap (λ (fs : List Item). judged_item fs e) (sym (found_nowhere item_id zero_item e.id ys t l))

pub datapoint_entry_id : (at : ℕ) (s : List ℕ) → id_bytes at s ≡ (first_datapoint_entry (drop at s)).id
unfolding first_datapoint_entry
datapoint_entry_id at s = refl

pub item_entry_id : (at : ℕ) (s : List ℕ) → id_bytes at s ≡ (first_item_entry (drop at s)).id
unfolding first_item_entry
item_entry_id at s = refl
