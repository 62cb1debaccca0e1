-- Examples 7 and 8: they speak of every table and every request of a kind.
use Prim.Native.Nat.{ℕ, zero, suc, ◌+◌, ◌≤◌}
use mathlib.Core.Path.{◌≡◌, refl, ap, ◌∙◌}
use mathlib.Core.Bool.{Bool, true, false}
use mathlib.Core.List.{List, [], ◌∷◌, map}
use native.Mathlib.Omega.{arith}
use lib.ListN.{length, drop, length-take}
use lib.Dec.{T, leb, ltb, eqb, leb→le, ltb→lt}
use borrow.Author.Tests.{le-ltb, lt-leb, eq-eqb, ne_eqb}
use Rattle.std.specs.Prelude.{if◌then◌else◌}
use Rattle.words.specs.Words.{is_yes_or_no, is_empty, is_padded, keep, every}
use Rattle.words.proofs.WordLaws.{parts3, left, right, T_true, padded_decided}
use Rattle.baos.specs.declared.datapoint.Datapoint.{Datapoint}
use Rattle.baos.specs.declared.item.Item.{Item}
use Rattle.baos.specs.Datapoint.{datapoint_id, datapoint_ok, size_of, value_of}
use Rattle.baos.specs.Item.{item_id, item_ok, bytes_of}
use Rattle.baos.specs.Table.{Tables, well_formed, found}
use Rattle.baos.specs.Message.{main_service, sub_service, start_of, number_of, filter_of, coded, Served, answer_of, after_of, served}
use Rattle.baos.specs.Get.{AnswerEntry, in_request, overflow, listing, get_finding, getting, item_entry, get_server_item, description_entry, get_datapoint_description, string_entry, get_description_string, value_entry, passes, asked, handing_out, get_datapoint_value, parameter_entries, get_parameter_byte}
use Rattle.baos.specs.Lookup.{lookup_of, is_present}
use Rattle.baos.specs.Set.{fills, set_entries, first_datapoint_entry, datapoint_code, judged_datapoint, first_bad, set_finding, setting, set_datapoint_value}
use Rattle.baos.specs.Service.{service, unanswered, carried_out}
use Rattle.baos.specs.Inner.Gather.{get_datapoints}
use Rattle.baos.proofs.DatapointLaws.{size_fits}
use Rattle.baos.proofs.TableLaws.{ids_rise, entries_ok}
use Rattle.baos.proofs.KeepLaws.{parts}
use Rattle.baos.proofs.LastLaws.{last_in_request, keep_same, keep-both, keep-found}
use Rattle.baos.proofs.ServiceLaws.{is_get_item, is_get_description, is_get_string, is_get_value, is_get_parameter}
use Rattle.baos.proofs.StringLaws.{string_short}
use Rattle.examples.specs.Example.{TwoByteIds, AnsweredWith, LastId, RefusedWith, EmptyTable}

-- ---- 7
-- no element, or one that passes the test
data Few {A : Type 0} (ok : A → Bool) (xs : List A) : Type 0 where
  none : xs ≡ [] → Few ok xs
  one : (x : A) → T (ok x) → xs ≡ x ∷ [] → Few ok xs

few_found : {A : Type 0} (id_of : A → ℕ) (n : ℕ) (ok : A → Bool) (xs : List A) → T (every ok xs) → Few ok (found id_of n xs)
unfolding found
few_found id_of n ok [] t = none refl
few_found {A} id_of n ok (x ∷ xs) t = go (eqb (id_of x) n) (few_found id_of n ok xs (right (ok x) (every ok xs) t))
  where
    go : (u : Bool) → Few ok (found id_of n xs) → Few ok (if u then x ∷ [] else found id_of n xs)
    go true f = one x (left (ok x) (every ok xs) t) refl
    go false f = f

few_kept : {A : Type 0} (ok p : A → Bool) (xs : List A) → Few ok xs → Few ok (keep p xs)
few_kept ok p xs (none e) = none (ap (keep p) e)
few_kept {A} ok p xs (one x t e) = go (p x) refl
  where
    go : (u : Bool) → p x ≡ u → Few ok (keep p xs)
    go true q = one x t (ap (keep p) e ∙ ap (λ (v : Bool). if v then x ∷ [] else []) q)
    go false q = none (ap (keep p) e ∙ ap (λ (v : Bool). if v then x ∷ [] else []) q)

-- a get from 65535 on that is of the right size, with so few short entries
module _ {A : Type 0} (entry : A → AnswerEntry) (ok : A → Bool) (short : (x : A) → T (ok x) → length (entry x).bytes ≤ 248)
    (size : ℕ) (badFilter : Bool) (t t' : Tables) (m : List ℕ) (l : length m ≡ size) (k : 1 ≤ number_of m) (f : badFilter ≡ false) (s : start_of m ≡ 0xFFFF) where
  got_few : (xs : List A) → Few ok xs
      → (getting size badFilter (map entry xs) t t' m).says ≡ (if is_empty (map entry xs) then coded m 0xFFFF 2 else listing (sub_service m + 0x80) 0xFFFF (map entry xs))
  unfolding getting get_finding served answer_of overflow
  got_few xs (none e) = rw e (simp (eq-eqb (length m) size l, ne_eqb (number_of m) 0 (λ z. omega (arith, z, k)), f, s))
  got_few xs (one x o e) = rw e (simp (eq-eqb (length m) size l, ne_eqb (number_of m) 0 (λ z. omega (arith, z, k)), f, s, le-ltb 248 (length (entry x).bytes) (short x o)))

item_short : (i : Item) → T (item_ok i) → length (item_entry i).bytes ≤ 248
unfolding item_entry item_ok bytes_of
item_short i t = omega (arith, ((padded_decided 16 i.size i.bytes).0 (parts3 (leb 1 i.size) (is_padded 16 i.size i.bytes) (is_yes_or_no i.writable) t).1).within, length-take i.size i.bytes)

description_short : (d : Datapoint) → T (datapoint_ok d) → length (description_entry d).bytes ≤ 248
unfolding description_entry
description_short d t = omega arith

value_short : (d : Datapoint) → T (datapoint_ok d) → length (value_entry d).bytes ≤ 248
unfolding value_entry value_of
value_short d t = omega (arith, size_fits d.typecode, length-take (size_of d.typecode) d.value)

module _ (t : Tables) (m : List ℕ) (w : T (well_formed t)) (two : TwoByteIds t) (main : main_service m ≡ 0xF0) (s : start_of m ≡ 0xFFFF) (k : 1 ≤ number_of m) where
  within : (n : ℕ) → T (ltb n 0x1_0000) → in_request m n ≡ eqb n 0xFFFF
  within n h = last_in_request m n s k (ltb→lt n 0x1_0000 h)

  answered : (sub size : ℕ) → sub_service m ≡ sub → length m ≡ size → T (leb 6 size) → T (ltb sub 0x80) → unanswered m ≡ false
  unfolding unanswered
  answered sub size e l h b = simp (le-ltb (length m) 6 (omega (arith, l, leb→le 6 size h)), main, lt-leb 0x80 (sub_service m) (omega (arith, e, ltb→lt sub 0x80 b)))

  items_found : keep (λ (i : Item). in_request m i.id) t.items ≡ found item_id 0xFFFF t.items
  items_found =
      keep_same _ _ (λ (i : Item). ltb i.id 0x1_0000) (λ i h. within i.id h) t.items two.items
      ∙ keep-found item_id 0xFFFF 0 t.items (ids_rise item_id 64 item_ok t.items (parts t w).items)

  datapoints_found : keep (λ (d : Datapoint). in_request m d.id) t.datapoints ≡ found datapoint_id 0xFFFF t.datapoints
  datapoints_found =
      keep_same _ _ (λ (d : Datapoint). ltb d.id 0x1_0000) (λ d h. within d.id h) t.datapoints two.datapoints
      ∙ keep-found datapoint_id 0xFFFF 0 t.datapoints (ids_rise datapoint_id 1000 datapoint_ok t.datapoints (parts t w).datapoints)

  values_found : keep (asked m) t.datapoints ≡ keep (passes (filter_of m)) (found datapoint_id 0xFFFF t.datapoints)
  unfolding asked
  values_found = keep-both (λ (d : Datapoint). in_request m d.id) (passes (filter_of m)) t.datapoints ∙ ap (keep (passes (filter_of m))) datapoints_found

  items_ok : T (every item_ok t.items)
  items_ok = entries_ok item_id 64 item_ok t.items (parts t w).items

  datapoints_ok : T (every datapoint_ok t.datapoints)
  datapoints_ok = entries_ok datapoint_id 1000 datapoint_ok t.datapoints (parts t w).datapoints

  last_item : sub_service m ≡ 0x01 → length m ≡ 6 → AnsweredWith t m (map item_entry (found item_id 0xFFFF t.items))
  unfolding get_server_item
  last_item e l =
      ap (λ (v : Served). v.says) (is_get_item t m (answered 0x01 6 e l tt tt) e)
      ∙ ap (λ (xs : List Item). (getting 6 false (map item_entry xs) t t m).says) items_found
      ∙ got_few item_entry item_ok item_short 6 false t t m l k refl s _ (few_found item_id 0xFFFF item_ok t.items items_ok)

  last_description : sub_service m ≡ 0x03 → length m ≡ 6 → AnsweredWith t m (map description_entry (found datapoint_id 0xFFFF t.datapoints))
  unfolding get_datapoints get_datapoint_description
  last_description e l =
      ap (λ (v : Served). v.says) (is_get_description t m (answered 0x03 6 e l tt tt) e)
      ∙ ap (λ (xs : List Datapoint). (getting 6 false (map description_entry xs) t t m).says) datapoints_found
      ∙ got_few description_entry datapoint_ok description_short 6 false t t m l k refl s _ (few_found datapoint_id 0xFFFF datapoint_ok t.datapoints datapoints_ok)

  last_string : sub_service m ≡ 0x04 → length m ≡ 6 → AnsweredWith t m (map (string_entry t.texts) (found datapoint_id 0xFFFF t.datapoints))
  unfolding get_description_string
  last_string e l =
      ap (λ (v : Served). v.says) (is_get_string t m (answered 0x04 6 e l tt tt) e)
      ∙ ap (λ (xs : List Datapoint). (getting 6 false (map (string_entry t.texts) xs) t t m).says) datapoints_found
      ∙ got_few (string_entry t.texts) datapoint_ok (λ d o. omega (arith, string_short t.texts d)) 6 false t t m l k refl s _ (few_found datapoint_id 0xFFFF datapoint_ok t.datapoints datapoints_ok)

  last_value : sub_service m ≡ 0x05 → length m ≡ 7 → filter_of m ≤ 2
      → AnsweredWith t m (map value_entry (keep (passes (filter_of m)) (found datapoint_id 0xFFFF t.datapoints)))
  unfolding get_datapoints get_datapoint_value
  last_value e l f =
      ap (λ (v : Served). v.says) (is_get_value t m (answered 0x05 7 e l tt tt) e)
      ∙ ap (λ (xs : List Datapoint). (getting 7 (ltb 2 (filter_of m)) (map value_entry xs) t (handing_out m t) m).says) values_found
      ∙ got_few value_entry datapoint_ok value_short 7 (ltb 2 (filter_of m)) t (handing_out m t) m l k (le-ltb 2 (filter_of m) f) s _
      (few_kept datapoint_ok (passes (filter_of m)) _ (few_found datapoint_id 0xFFFF datapoint_ok t.datapoints datapoints_ok))

  -- no parameter byte has an index from 65535 on
  none_kept : (n : ℕ) (bs : List ℕ) → n + length bs ≤ 0xFFFF → keep (λ (e : AnswerEntry). in_request m e.id) (parameter_entries n bs) ≡ []
  unfolding parameter_entries in_request
  none_kept n [] h = refl
  none_kept n (b ∷ bs) h = simp (lt-leb (start_of m) n (omega (arith, s, h))) (none_kept (suc n) bs (omega (arith, h)))

  last_parameter : sub_service m ≡ 0x07 → length m ≡ 6 → AnsweredWith t m []
  unfolding get_parameter_byte getting get_finding served answer_of
  last_parameter e l =
      ap (λ (v : Served). v.says) (is_get_parameter t m (answered 0x07 6 e l tt tt) e)
      ∙ simp (s, none_kept 1 t.parameters (omega (arith, leb→le (length t.parameters) 255 (parts t w).parameters)), l, ne_eqb (number_of m) 0 (λ z. omega (arith, z, k)))

  pub last_id_holds : LastId t m
  last_id_holds = record { item = last_item; description = last_description; string = last_string; value = last_value; parameter = last_parameter }

-- ---- 8
module _ (t : Tables) (m : List ℕ) (none : t.datapoints ≡ []) (main : main_service m ≡ 0xF0) where
  empty_descriptions : sub_service m ≡ 0x03 → length m ≡ 6 → 1 ≤ number_of m → RefusedWith t m (start_of m) 2
  unfolding carried_out unanswered service get_datapoint_description getting get_finding served answer_of after_of
  empty_descriptions k l h = simp (none, main, k, l, ne_eqb (number_of m) 0 (omega arith))

  empty_strings : sub_service m ≡ 0x04 → length m ≡ 6 → 1 ≤ number_of m → RefusedWith t m (start_of m) 2
  unfolding carried_out unanswered service get_description_string getting get_finding served answer_of after_of
  empty_strings k l h = simp (none, main, k, l, ne_eqb (number_of m) 0 (omega arith))

  empty_values : sub_service m ≡ 0x05 → length m ≡ 7 → 1 ≤ number_of m → filter_of m ≤ 2 → RefusedWith t m (start_of m) 2
  unfolding carried_out unanswered service get_datapoint_value getting get_finding served answer_of after_of
  empty_values k l h f = simp (none, main, k, l, ne_eqb (number_of m) 0 (omega arith), le-ltb 2 (filter_of m) f)

  empty_set : sub_service m ≡ 0x06 → 6 ≤ length m → 1 ≤ number_of m → T (fills 4 (number_of m) (drop 6 m)) → RefusedWith t m (first_datapoint_entry (drop 6 m)).id 7
  unfolding carried_out unanswered service set_datapoint_value setting set_finding served answer_of after_of first_bad judged_datapoint datapoint_code lookup_of is_present found
  empty_set k l h f = go (number_of m) refl
    where
      go : (n : ℕ) → number_of m ≡ n → RefusedWith t m (first_datapoint_entry (drop 6 m)).id 7
      go zero e = absurd (omega arith)
      go (suc n) e =
          unfold set_entries in
          simp (none, main, k, le-ltb (length m) 6 l, e, T_true (fills 4 (suc n) (drop 6 m)) (rw e at f), ne_eqb (suc n) 0 (omega arith))

  pub empty_table : EmptyTable t m
  empty_table = record { descriptions = empty_descriptions; strings = empty_strings; values = empty_values; set = empty_set }
