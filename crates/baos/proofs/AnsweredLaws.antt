-- What a get answers and leaves, by the verdict before the first pass and the verdict after it: one law for datapoints and items.
use Prim.Native.Nat.{ℕ, ◌+◌, ◌-◌}
use mathlib.Core.Path.{◌≡◌, refl, sym, ◌∙◌, ap}
use mathlib.Core.Bool.{Bool, true, false, ◌&&◌}
use mathlib.Core.List.{List, [], ◌∷◌, ◌++◌, map}
use native.Mathlib.Omega.{arith}
use lib.ListN.{take, drop}
use lib.Dec.{T, ltb, eqb, ltb→lt, lt→ltb}
use borrow.Author.Tests.{eqb-true, ltb-true, ltb-false}
use Rattle.std.specs.Prelude.{if◌then◌else◌}
use Rattle.words.specs.Words.{two_bytes, keep, every}
use Rattle.words.proofs.WordLaws
use Rattle.baos.specs.declared.datapoint.Datapoint.{Datapoint}
use Rattle.baos.specs.declared.item.Item.{Item}
use Rattle.baos.specs.Inner.Gather.{Gathered}
use Rattle.baos.specs.Message.{Verdict}
use Rattle.baos.specs.Table.{Tables, datapoints_only, items_only, rising, place}
use Rattle.baos.specs.Datapoint.{datapoint_id}
use Rattle.baos.specs.Item.{item_id}
use Rattle.baos.specs.Message.{sub_service, start_of, coded, verdict_of}
use Rattle.baos.specs.Get.{AnswerEntry, item_entry, get_server_item, in_request, description_entry, get_datapoint_description, value_entry, asked, handing_out, get_datapoint_value}
use Rattle.baos.specs.Inner.Gather.{filter_asked, size_asked, request_finding, gathered_verdict, walked, nothing_gathered, is_wanted, left_of, datapoint_step, item_step, datapoints_built, datapoints_left, items_built, wanted_of, get_datapoints}
use Rattle.baos.proofs.PlaceLaws.{place_none}
use Rattle.baos.proofs.GetLaws.{gets, empty_refused, over_refused, fits_answered}
use Rattle.baos.proofs.GatherLaws.{in_front, Passed, passed_listing, values_pass, values_left, descriptions_pass, datapoints_left_lem, wanted_by, items_asked_pass}

and_false : (a : Bool) → (a && false) ≡ false
and_false true = refl
and_false false = refl

-- ---- both verdicts
module _ (values : Bool) (m : List ℕ) (es : List AnswerEntry) (g : Gathered) (bytes : List ℕ) (p : Passed es g bytes) (t t' : Tables) (z : (verdict_of (request_finding values m)).code ≡ 0) where
  abbrev later : Verdict
  later = gathered_verdict (start_of m) g

  pub answered_bad : (later.code ≡ 0 → ⊥) → gets values es t t' m ≡ record { says = coded m later.id later.code; after = t }
  unfolding gathered_verdict
  answered_bad n = go (eqb g.over 0) (eqb g.count 0) refl refl
    where
      go : (a b : Bool) → eqb g.over 0 ≡ a → eqb g.count 0 ≡ b → gets values es t t' m ≡ record { says = coded m later.id later.code; after = t }
      go false b e f =
          over_refused values m es t t' z (p.empty ∙ ap (λ (x : Bool). eqb g.count 0 && x) e ∙ and_false (eqb g.count 0)) (p.fits ∙ e)
          ∙ ap (λ (i : ℕ). record { says = coded m i 3; after = t }) p.over
          ∙ simp e
      go true true e f = empty_refused values m es t t' z (p.empty ∙ simp (e, f)) ∙ simp (e, f)
      go true false e f = absurd (n (simp (e, f)))

  pub answered_fine : later.code ≡ 0
      → gets values es t t' m ≡ record { says = (0xF0 ∷ (sub_service m + 0x80) ∷ two_bytes (start_of m) ++ two_bytes g.count) ++ bytes; after = t' }
  unfolding gathered_verdict
  answered_fine n = go (eqb g.over 0) (eqb g.count 0) refl refl
    where
      go : (a b : Bool) → eqb g.over 0 ≡ a → eqb g.count 0 ≡ b
          → gets values es t t' m ≡ record { says = (0xF0 ∷ (sub_service m + 0x80) ∷ two_bytes (start_of m) ++ two_bytes g.count) ++ bytes; after = t' }
      go false b e f = absurd (omega (arith, simp e at n))
      go true true e f = absurd (omega (arith, simp (e, f) at n))
      go true false e f =
          fits_answered values m es t t' z (p.empty ∙ ap (λ (x : Bool). x && eqb g.over 0) f) (p.fits ∙ e)
          ∙ ap (λ (s : List ℕ). record { says = s; after = t' }) (passed_listing es g bytes p (eqb-true g.over 0 e) (sub_service m + 0x80) (start_of m))

-- ---- from the place of the start ID on
module _ {A : Type 0} (id_of : A → ℕ) (n : ℕ) where
  pub place_front : (last : ℕ) (xs : List A) → T (rising last (map id_of xs)) → T (every (in_front id_of n) (take (place id_of n xs) xs))
  unfolding place rising
  place_front last [] r = tt
  place_front last (x ∷ xs) r = go (ltb (id_of x) n) refl (place_front (id_of x) xs (WordLaws.right (ltb last (id_of x)) (rising (id_of x) (map id_of xs)) r))
    where
      go : (b : Bool) → ltb (id_of x) n ≡ b → T (every (in_front id_of n) (take (place id_of n xs) xs)) → T (every (in_front id_of n) (take (place id_of n (x ∷ xs)) (x ∷ xs)))
      go true e t = rw e (WordLaws.both (in_front id_of n x) (every (in_front id_of n) (take (place id_of n xs) xs)) (lt→ltb (id_of x) n (ltb-true (id_of x) n e)) t)
      go false e t =
          rw e
          (rw (place_none id_of x n (id_of x) xs (WordLaws.right (ltb last (id_of x)) (rising (id_of x) (map id_of xs)) r) (omega (arith, ltb-false (id_of x) n e))) tt)

  -- the IDs from there on rise, and none is below n
  pub place_rises : (last : ℕ) (xs : List A) → T (rising last (map id_of xs)) → T (rising (n - 1) (map id_of (drop (place id_of n xs) xs)))
  unfolding place rising
  place_rises last [] r = tt
  place_rises last (x ∷ xs) r = go (ltb (id_of x) n) refl (place_rises (id_of x) xs rest)
    where
      rest : T (rising (id_of x) (map id_of xs))
      rest = WordLaws.right (ltb last (id_of x)) (rising (id_of x) (map id_of xs)) r

      go : (b : Bool) → ltb (id_of x) n ≡ b → T (rising (n - 1) (map id_of (drop (place id_of n xs) xs))) → T (rising (n - 1) (map id_of (drop (place id_of n (x ∷ xs)) (x ∷ xs))))
      go true e t = rw e t
      go false e t =
          let l = ltb→lt last (id_of x) (WordLaws.left (ltb last (id_of x)) (rising (id_of x) (map id_of xs)) r) in
          let k = ltb-false (id_of x) n e in
          rw e
          (rw (place_none id_of x n (id_of x) xs rest (omega (arith, k)))
          (WordLaws.both (ltb (n - 1) (id_of x)) (rising (id_of x) (map id_of xs)) (lt→ltb (n - 1) (id_of x) (omega (arith, l, k))) rest))

-- ---- the two gets of datapoints
abbrev pub datapoints_from : List ℕ → List Datapoint → List Datapoint
datapoints_from m ds = drop (place datapoint_id (start_of m) ds) ds

abbrev pub datapoints_after : Bool → List ℕ → List Datapoint → List Datapoint
datapoints_after values m ds = take (place datapoint_id (start_of m) ds) ds ++ datapoints_left (wanted_of values m) (datapoints_from m ds)

abbrev pub datapoint_entries : Bool → List ℕ → List Datapoint → List AnswerEntry
datapoint_entries true m ds = map value_entry (keep (asked m) ds)
datapoint_entries false m ds = map description_entry (keep (λ (d : Datapoint). in_request m d.id) ds)

same_all : {A : Type 0} (q : A → Bool) (f : A → A) → ((x : A) → f x ≡ x) → (xs : List A) → map (λ x. if q x then f x else x) xs ≡ xs
same_all q f h [] = refl
same_all q f h (x ∷ xs) = λ i. one (q x) i ∷ same_all q f h xs i
  where
    one : (b : Bool) → (if b then f x else x) ≡ x
    one true = h x
    one false = refl

module _ (m : List ℕ) (ds : List Datapoint) (rises : T (rising 0 (map datapoint_id ds))) where
  front : T (every (in_front datapoint_id (start_of m)) (take (place datapoint_id (start_of m) ds) ds))
  front = place_front datapoint_id (start_of m) 0 ds rises

  pub datapoints_passed : (values : Bool)
      → Passed (datapoint_entries values m ds) (walked (datapoint_step (wanted_of values m)) nothing_gathered (datapoints_from m ds)) (datapoints_built (wanted_of values m) (datapoints_from m ds))
  unfolding wanted_of filter_asked
  datapoints_passed true = values_pass m (place datapoint_id (start_of m) ds) ds rises front
  datapoints_passed false = descriptions_pass m (place datapoint_id (start_of m) ds) ds rises front

  -- a description leaves every record as it is
  described_same : datapoints_after false m ds ≡ ds
  unfolding wanted_of filter_asked left_of
  described_same =
      datapoints_left_lem (wanted_by m 0 false) (omega arith) (place datapoint_id (start_of m) ds) ds rises front
      ∙ same_all (is_wanted (wanted_by m 0 false)) (left_of (wanted_by m 0 false)) (λ d. refl) ds

  pub gets_datapoints : (values : Bool)
      → get_datapoints values (datapoints_only ds) m ≡ gets values (datapoint_entries values m ds) (datapoints_only ds) (datapoints_only (datapoints_after values m ds)) m
  unfolding get_datapoints get_datapoint_value get_datapoint_description handing_out size_asked filter_asked wanted_of
  gets_datapoints true =
      ap (λ (x : List Datapoint). gets true (datapoint_entries true m ds) (datapoints_only ds) (datapoints_only x) m)
      (sym (values_left m (place datapoint_id (start_of m) ds) ds rises front))
  gets_datapoints false = ap (λ (x : List Datapoint). gets false (datapoint_entries false m ds) (datapoints_only ds) (datapoints_only x) m) (sym described_same)

-- ---- the get of items
abbrev pub items_from : List ℕ → List Item → List Item
items_from m is = drop (place item_id (start_of m) is) is

abbrev pub item_entries : List ℕ → List Item → List AnswerEntry
item_entries m is = map item_entry (keep (λ (i : Item). in_request m i.id) is)

module _ (m : List ℕ) (is : List Item) (rises : T (rising 0 (map item_id is))) where
  pub items_passed : Passed (item_entries m is) (walked (item_step (wanted_of false m)) nothing_gathered (items_from m is)) (items_built (wanted_of false m) (items_from m is))
  unfolding wanted_of filter_asked
  items_passed = items_asked_pass m (place item_id (start_of m) is) 0 false is rises (place_front item_id (start_of m) 0 is rises)

  pub gets_items : get_server_item (items_only is) m ≡ gets false (item_entries m is) (items_only is) (items_only is) m
  unfolding get_server_item size_asked filter_asked
  gets_items = refl
