-- What the carrying out of a message rests on: each service looks at its own table alone, which service a sub-service is, and what errors leave as it was.
use Prim.Native.Nat.{ℕ, zero, suc, ◌+◌, ◌-◌, ◌/◌, ◌%◌, ◌≤◌, ◌<◌}
use mathlib.Core.Path.{◌≡◌, refl, sym, ◌∙◌, ap}
use mathlib.Core.Bool.{Bool, true, false, not, ◌||◌}
use mathlib.Core.List.{List, [], ◌∷◌, map}
use native.Mathlib.Omega.{arith}
use lib.ListN.{length, get_or, drop, length-map}
use lib.Dec.{leb, ltb, eqb}
use borrow.Author.Tests.{eq-eqb, ne_eqb, ltb-false, leb-false, eqb-true}
use Rattle.std.specs.Prelude.{if◌then◌else◌}
use Rattle.words.specs.Words.{keep, put}
use Rattle.words.proofs.WordLaws.{true_T}
use Rattle.baos.specs.declared.datapoint.Datapoint.{Datapoint}
use Rattle.baos.specs.declared.item.Item.{Item}
use Rattle.baos.specs.Datapoint.{datapoint_id, zero_datapoint, with_state, handed_out}
use Rattle.baos.specs.Item.{item_id}
use Rattle.baos.specs.Text.{TextLists}
use Rattle.baos.specs.Table.{Tables, found, datapoints_only, items_only, parameters_only, datapoints_with_texts, with_datapoints, with_items, with_parameters}
use Rattle.baos.proofs.TableLaws.{same_tables}
use Rattle.baos.specs.Message.{main_service, sub_service, start_of, filter_of, coded, Finding, fine, bad, Served, answer_of, after_of, served}
use Rattle.baos.specs.Get.{AnswerEntry, in_request, listing, get_finding, getting, item_entry, description_entry, string_entry, value_entry, asked, parameter_entries, get_server_item, get_datapoint_description, get_description_string, handing_out, get_datapoint_value, get_parameter_byte}
use Rattle.baos.specs.Set.{SetEntry, first_item_entry, first_datapoint_entry, set_finding, judged_item, judged_datapoint, setting, set_server_item, set_datapoint_value, set_parameter_finding, set_parameter_byte}
use Rattle.baos.specs.Inner.Gather.{get_datapoints}
use Rattle.baos.specs.Service.{service, unanswered, carried_out}

-- ---- each service looks at its own table alone
-- a part of the tables that is the same before and after is the same whatever was found
after_part : {A : Type 0} (part : Tables → A) (f : Finding) (t t' : Tables) → part t' ≡ part t → part (after_of f t t') ≡ part t
unfolding after_of
after_part part fine t t' e = e
after_part part (bad i c) t t' e = refl

-- the same part of two pairs of tables
after_same : {A : Type 0} (part : Tables → A) (f : Finding) (t t' u u' : Tables) → part t ≡ part u → part t' ≡ part u'
    → part (after_of f t t') ≡ part (after_of f u u')
unfolding after_of
after_same part fine t t' u u' e e' = e'
after_same part (bad i c) t t' u u' e e' = e

-- tables that stay the same
after_all : (f : Finding) (t : Tables) → after_of f t t ≡ t
unfolding after_of
after_all fine t = refl
after_all (bad i c) t = refl

abbrev datapoints_of : Tables → List Datapoint
datapoints_of t = t.datapoints

abbrev items_of : Tables → List Item
items_of t = t.items

abbrev parameters_of : Tables → List ℕ
parameters_of t = t.parameters

abbrev lists_of : Tables → TextLists
lists_of t = t.texts

module _ (t : Tables) (m : List ℕ) where
  pub datapoints_say : (values : Bool) → (get_datapoints values t m).says ≡ (get_datapoints values (datapoints_only t.datapoints) m).says
  unfolding get_datapoints get_datapoint_value get_datapoint_description getting served
  datapoints_say true = refl
  datapoints_say false = refl

  pub datapoints_after_lem : (values : Bool) → (get_datapoints values t m).after.datapoints ≡ (get_datapoints values (datapoints_only t.datapoints) m).after.datapoints
  unfolding get_datapoints get_datapoint_value get_datapoint_description getting served handing_out
  datapoints_after_lem true = after_same datapoints_of _ t (handing_out m t) (datapoints_only t.datapoints) (handing_out m (datapoints_only t.datapoints)) refl refl
  datapoints_after_lem false = after_same datapoints_of _ t t (datapoints_only t.datapoints) (datapoints_only t.datapoints) refl refl

  pub datapoints_keep_items : (values : Bool) → (get_datapoints values t m).after.items ≡ t.items
  unfolding get_datapoints get_datapoint_value get_datapoint_description getting served handing_out
  datapoints_keep_items true = after_part items_of _ t (handing_out m t) refl
  datapoints_keep_items false = after_part items_of _ t t refl

  pub datapoints_keep_parameters : (values : Bool) → (get_datapoints values t m).after.parameters ≡ t.parameters
  unfolding get_datapoints get_datapoint_value get_datapoint_description getting served handing_out
  datapoints_keep_parameters true = after_part parameters_of _ t (handing_out m t) refl
  datapoints_keep_parameters false = after_part parameters_of _ t t refl

  pub datapoints_keep_texts : (values : Bool) → (get_datapoints values t m).after.texts ≡ t.texts
  unfolding get_datapoints get_datapoint_value get_datapoint_description getting served handing_out
  datapoints_keep_texts true = after_part lists_of _ t (handing_out m t) refl
  datapoints_keep_texts false = after_part lists_of _ t t refl

  pub set_datapoints_say : (set_datapoint_value t m).says ≡ (set_datapoint_value (datapoints_only t.datapoints) m).says
  unfolding set_datapoint_value setting served
  set_datapoints_say = refl

  pub set_datapoints_after : (set_datapoint_value t m).after.datapoints ≡ (set_datapoint_value (datapoints_only t.datapoints) m).after.datapoints
  unfolding set_datapoint_value setting served
  set_datapoints_after = after_same datapoints_of _ t _ (datapoints_only t.datapoints) _ refl refl

  pub set_datapoints_keep_items : (set_datapoint_value t m).after.items ≡ t.items
  unfolding set_datapoint_value setting served
  set_datapoints_keep_items = after_part items_of _ t _ refl

  pub set_datapoints_keep_parameters : (set_datapoint_value t m).after.parameters ≡ t.parameters
  unfolding set_datapoint_value setting served
  set_datapoints_keep_parameters = after_part parameters_of _ t _ refl

  pub set_datapoints_keep_texts : (set_datapoint_value t m).after.texts ≡ t.texts
  unfolding set_datapoint_value setting served
  set_datapoints_keep_texts = after_part lists_of _ t _ refl

  pub items_say : (get_server_item t m).says ≡ (get_server_item (items_only t.items) m).says
  unfolding get_server_item getting served
  items_say = refl

  pub items_leave_all : (get_server_item t m).after ≡ t
  unfolding get_server_item getting served
  items_leave_all = after_all _ t

  pub set_items_say : (set_server_item t m).says ≡ (set_server_item (items_only t.items) m).says
  unfolding set_server_item setting served
  set_items_say = refl

  pub set_items_after : (set_server_item t m).after.items ≡ (set_server_item (items_only t.items) m).after.items
  unfolding set_server_item setting served
  set_items_after = after_same items_of _ t _ (items_only t.items) _ refl refl

  pub set_items_keep_datapoints : (set_server_item t m).after.datapoints ≡ t.datapoints
  unfolding set_server_item setting served
  set_items_keep_datapoints = after_part datapoints_of _ t _ refl

  pub set_items_keep_parameters : (set_server_item t m).after.parameters ≡ t.parameters
  unfolding set_server_item setting served
  set_items_keep_parameters = after_part parameters_of _ t _ refl

  pub set_items_keep_texts : (set_server_item t m).after.texts ≡ t.texts
  unfolding set_server_item setting served
  set_items_keep_texts = after_part lists_of _ t _ refl

  pub parameters_say : (get_parameter_byte t m).says ≡ (get_parameter_byte (parameters_only t.parameters) m).says
  unfolding get_parameter_byte getting served
  parameters_say = refl

  pub parameters_leave_all : (get_parameter_byte t m).after ≡ t
  unfolding get_parameter_byte getting served
  parameters_leave_all = after_all _ t

  pub set_parameters_say : (set_parameter_byte t m).says ≡ (set_parameter_byte (parameters_only t.parameters) m).says
  unfolding set_parameter_byte served
  set_parameters_say = refl

  pub set_parameters_after : (set_parameter_byte t m).after.parameters ≡ (set_parameter_byte (parameters_only t.parameters) m).after.parameters
  unfolding set_parameter_byte served
  set_parameters_after = after_same parameters_of (set_parameter_finding (length t.parameters) m) _ _ _ _ refl refl

  pub set_parameters_keep_datapoints : (set_parameter_byte t m).after.datapoints ≡ t.datapoints
  unfolding set_parameter_byte served
  set_parameters_keep_datapoints = after_part datapoints_of (set_parameter_finding (length t.parameters) m) _ _ refl

  pub set_parameters_keep_items : (set_parameter_byte t m).after.items ≡ t.items
  unfolding set_parameter_byte served
  set_parameters_keep_items = after_part items_of (set_parameter_finding (length t.parameters) m) _ _ refl

  pub set_parameters_keep_texts : (set_parameter_byte t m).after.texts ≡ t.texts
  unfolding set_parameter_byte served
  set_parameters_keep_texts = after_part lists_of (set_parameter_finding (length t.parameters) m) _ _ refl

  pub strings_say : (get_description_string t m).says ≡ (get_description_string (datapoints_with_texts t.datapoints t.texts) m).says
  unfolding get_description_string getting served
  strings_say = refl

  pub strings_leave_all : (get_description_string t m).after ≡ t
  unfolding get_description_string getting served
  strings_leave_all = after_all _ t

  -- each service as a whole, by what it does with its own table
  pub get_datapoints_whole : (values : Bool)
      → get_datapoints values t m
      ≡ record {
        says = (get_datapoints values (datapoints_only t.datapoints) m).says;
        after = with_datapoints (get_datapoints values (datapoints_only t.datapoints) m).after.datapoints t;
      }
  get_datapoints_whole values =
      λ i. record {
        says = datapoints_say values i;
        after = same_tables (datapoints_after_lem values) (datapoints_keep_items values) (datapoints_keep_parameters values) (datapoints_keep_texts values) i;
      }

  pub set_datapoints_whole :
      set_datapoint_value t m
      ≡ record {
        says = (set_datapoint_value (datapoints_only t.datapoints) m).says;
        after = with_datapoints (set_datapoint_value (datapoints_only t.datapoints) m).after.datapoints t;
      }
  set_datapoints_whole =
      λ i. record {
        says = set_datapoints_say i;
        after = same_tables set_datapoints_after set_datapoints_keep_items set_datapoints_keep_parameters set_datapoints_keep_texts i;
      }

  pub get_items_whole : get_server_item t m ≡ record { says = (get_server_item (items_only t.items) m).says; after = t }
  get_items_whole = λ i. record { says = items_say i; after = items_leave_all i }

  pub set_items_whole :
      set_server_item t m
      ≡ record {
        says = (set_server_item (items_only t.items) m).says;
        after = with_items (set_server_item (items_only t.items) m).after.items t;
      }
  set_items_whole =
      λ i. record {
        says = set_items_say i;
        after = same_tables set_items_keep_datapoints set_items_after set_items_keep_parameters set_items_keep_texts i;
      }

  pub get_strings_whole : get_description_string t m ≡ record { says = (get_description_string (datapoints_with_texts t.datapoints t.texts) m).says; after = t }
  get_strings_whole = λ i. record { says = strings_say i; after = strings_leave_all i }

  pub get_parameters_whole : get_parameter_byte t m ≡ record { says = (get_parameter_byte (parameters_only t.parameters) m).says; after = t }
  get_parameters_whole = λ i. record { says = parameters_say i; after = parameters_leave_all i }

  pub set_parameters_whole :
      set_parameter_byte t m
      ≡ record {
        says = (set_parameter_byte (parameters_only t.parameters) m).says;
        after = with_parameters (set_parameter_byte (parameters_only t.parameters) m).after.parameters t;
      }
  set_parameters_whole =
      λ i. record {
        says = set_parameters_say i;
        after = same_tables set_parameters_keep_datapoints set_parameters_keep_items set_parameters_after set_parameters_keep_texts i;
      }

-- ---- which messages are answered
pub not_answered : (t : Tables) (m : List ℕ) → unanswered m ≡ true → carried_out t m ≡ record { says = []; after = t }
unfolding carried_out
not_answered t m u = simp u

none_of : (a b c : Bool) → (a || not b || c) ≡ false → (a ≡ false) × (b ≡ true) × (c ≡ false)
none_of true b c e = absurd (true_T {b = false} (sym e))
none_of false false c e = absurd (true_T {b = false} (sym e))
none_of false true c e = (refl, refl, e)

module _ (m : List ℕ) (u : unanswered m ≡ false) where
  three : (ltb (length m) 6 ≡ false) × (eqb (main_service m) 0xF0 ≡ true) × (leb 0x80 (sub_service m) ≡ false)
  unfolding unanswered
  three = none_of (ltb (length m) 6) (eqb (main_service m) 0xF0) (leb 0x80 (sub_service m)) u

  pub answered_long : 6 ≤ length m
  answered_long = omega (arith, ltb-false (length m) 6 three.0)

  pub answered_main : main_service m ≡ 0xF0
  answered_main = eqb-true (main_service m) 0xF0 three.1

  pub answered_sub : sub_service m < 0x80
  answered_sub = omega (arith, leb-false 0x80 (sub_service m) three.2)

-- ---- which service a sub-service is
module _ (t : Tables) (m : List ℕ) (u : unanswered m ≡ false) where
  answered : carried_out t m ≡ service t m
  unfolding carried_out
  answered = simp u

  not_this : (n : ℕ) {k : ℕ} → sub_service m ≡ k → (k ≡ n → ⊥) → eqb (sub_service m) n ≡ false
  not_this n e d = ne_eqb (sub_service m) n (λ q. d (sym e ∙ q))

  pub is_get_item : sub_service m ≡ 1 → carried_out t m ≡ get_server_item t m
  unfolding service
  is_get_item e = answered ∙ simp (eq-eqb (sub_service m) 1 e)

  pub is_set_item : sub_service m ≡ 2 → carried_out t m ≡ set_server_item t m
  unfolding service
  is_set_item e = answered ∙ simp (not_this 1 e (λ q. omega (arith, q)), eq-eqb (sub_service m) 2 e)

  pub is_get_description : sub_service m ≡ 3 → carried_out t m ≡ get_datapoints false t m
  unfolding service get_datapoints
  is_get_description e = answered ∙ simp (not_this 1 e (λ q. omega (arith, q)), not_this 2 e (λ q. omega (arith, q)), eq-eqb (sub_service m) 3 e)

  pub is_get_string : sub_service m ≡ 4 → carried_out t m ≡ get_description_string t m
  unfolding service
  is_get_string e =
      answered
      ∙ simp (not_this 1 e (λ q. omega (arith, q)), not_this 2 e (λ q. omega (arith, q)), not_this 3 e (λ q. omega (arith, q)), eq-eqb (sub_service m) 4 e)

  pub is_get_value : sub_service m ≡ 5 → carried_out t m ≡ get_datapoints true t m
  unfolding service get_datapoints
  is_get_value e =
      answered
      ∙ simp (not_this 1 e (λ q. omega (arith, q)), not_this 2 e (λ q. omega (arith, q)), not_this 3 e (λ q. omega (arith, q)), not_this 4 e (λ q. omega (arith, q)), eq-eqb (sub_service m) 5 e)

  pub is_set_value : sub_service m ≡ 6 → carried_out t m ≡ set_datapoint_value t m
  unfolding service
  is_set_value e =
      answered
      ∙ simp (not_this 1 e (λ q. omega (arith, q)), not_this 2 e (λ q. omega (arith, q)), not_this 3 e (λ q. omega (arith, q)), not_this 4 e (λ q. omega (arith, q)), not_this 5 e (λ q. omega (arith, q)), eq-eqb (sub_service m) 6 e)

  pub is_get_parameter : sub_service m ≡ 7 → carried_out t m ≡ get_parameter_byte t m
  unfolding service
  is_get_parameter e =
      answered
      ∙ simp (not_this 1 e (λ q. omega (arith, q)), not_this 2 e (λ q. omega (arith, q)), not_this 3 e (λ q. omega (arith, q)), not_this 4 e (λ q. omega (arith, q)), not_this 5 e (λ q. omega (arith, q)), not_this 6 e (λ q. omega (arith, q)), eq-eqb (sub_service m) 7 e)

  pub is_set_parameter : sub_service m ≡ 8 → carried_out t m ≡ set_parameter_byte t m
  unfolding service
  is_set_parameter e =
      answered
      ∙ simp (not_this 1 e (λ q. omega (arith, q)), not_this 2 e (λ q. omega (arith, q)), not_this 3 e (λ q. omega (arith, q)), not_this 4 e (λ q. omega (arith, q)), not_this 5 e (λ q. omega (arith, q)), not_this 6 e (λ q. omega (arith, q)), not_this 7 e (λ q. omega (arith, q)), eq-eqb (sub_service m) 8 e)

  pub is_no_service : (sub_service m ≡ 1 → ⊥) → (sub_service m ≡ 2 → ⊥) → (sub_service m ≡ 3 → ⊥) → (sub_service m ≡ 4 → ⊥) → (sub_service m ≡ 5 → ⊥) → (sub_service m ≡ 6 → ⊥)
      → (sub_service m ≡ 7 → ⊥) → (sub_service m ≡ 8 → ⊥) → carried_out t m ≡ record { says = coded m (start_of m) 5; after = t }
  unfolding service
  is_no_service n1 n2 n3 n4 n5 n6 n7 n8 =
      answered
      ∙ simp (ne_eqb (sub_service m) 1 n1, ne_eqb (sub_service m) 2 n2, ne_eqb (sub_service m) 3 n3, ne_eqb (sub_service m) 4 n4, ne_eqb (sub_service m) 5 n5, ne_eqb (sub_service m) 6 n6, ne_eqb (sub_service m) 7 n7, ne_eqb (sub_service m) 8 n8)

-- ---- an error answer leaves everything as it was
bad_found : (f : Finding) (m answer : List ℕ) (t t' : Tables) {i c : ℕ} → f ≡ bad i c → served f m answer t t' ≡ record { says = coded m i c; after = t }
unfolding served answer_of after_of
bad_found f m answer t t' e = ap (λ (g : Finding). served g m answer t t') e

fine_found : (f : Finding) (m answer : List ℕ) (t t' : Tables) → f ≡ fine → served f m answer t t' ≡ record { says = answer; after = t' }
unfolding served answer_of after_of
fine_found f m answer t t' e = ap (λ (g : Finding). served g m answer t t') e

pub bad_get : (size : ℕ) (badFilter : Bool) (es : List AnswerEntry) (t t' : Tables) (m : List ℕ) {i c : ℕ} → get_finding size badFilter m es ≡ bad i c
    → getting size badFilter es t t' m ≡ record { says = coded m i c; after = t }
unfolding getting
bad_get size badFilter es t t' m e = bad_found (get_finding size badFilter m es) m _ t t' e

pub bad_set : (h : ℕ) (first : List ℕ → SetEntry) (judge : SetEntry → ℕ) (done : List SetEntry → Tables) (t : Tables) (m : List ℕ) {i c : ℕ}
    → set_finding h first judge m ≡ bad i c → setting h first judge done t m ≡ record { says = coded m i c; after = t }
unfolding setting
bad_set h first judge done t m e = bad_found (set_finding h first judge m) m _ t _ e

module _ (t : Tables) (m : List ℕ) where
  -- what each service finds
  abbrev pub item_finding : Finding
  item_finding = get_finding 6 false m (map item_entry (keep (λ (i : Item). in_request m i.id) t.items))

  abbrev pub description_finding : Finding
  description_finding = get_finding 6 false m (map description_entry (keep (λ (d : Datapoint). in_request m d.id) t.datapoints))

  abbrev pub string_finding : Finding
  string_finding = get_finding 6 false m (map (string_entry t.texts) (keep (λ (d : Datapoint). in_request m d.id) t.datapoints))

  abbrev pub value_finding : Finding
  value_finding = get_finding 7 (ltb 2 (filter_of m)) m (map value_entry (keep (asked m) t.datapoints))

  abbrev pub parameter_finding : Finding
  parameter_finding =
      get_finding 6 false m (if eqb (start_of m) 0 then [] else keep (λ (e : AnswerEntry). in_request m e.id) (parameter_entries 1 t.parameters))

  abbrev pub set_item_finding : Finding
  set_item_finding = set_finding 3 first_item_entry (λ e. judged_item (found item_id e.id t.items) e) m

  abbrev pub set_value_finding : Finding
  set_value_finding = set_finding 4 first_datapoint_entry (λ e. judged_datapoint (found datapoint_id e.id t.datapoints) e) m

  pub bad_get_item : {i c : ℕ} → item_finding ≡ bad i c → get_server_item t m ≡ record { says = coded m i c; after = t }
  unfolding get_server_item
  bad_get_item e = bad_get 6 false _ t t m e

  pub bad_get_description : {i c : ℕ} → description_finding ≡ bad i c → get_datapoint_description t m ≡ record { says = coded m i c; after = t }
  unfolding get_datapoint_description
  bad_get_description e = bad_get 6 false _ t t m e

  pub bad_get_string : {i c : ℕ} → string_finding ≡ bad i c → get_description_string t m ≡ record { says = coded m i c; after = t }
  unfolding get_description_string
  bad_get_string e = bad_get 6 false _ t t m e

  pub bad_get_value : {i c : ℕ} → value_finding ≡ bad i c → get_datapoint_value t m ≡ record { says = coded m i c; after = t }
  unfolding get_datapoint_value
  bad_get_value e = bad_get 7 (ltb 2 (filter_of m)) _ t (handing_out m t) m e

  pub bad_get_parameter : {i c : ℕ} → parameter_finding ≡ bad i c → get_parameter_byte t m ≡ record { says = coded m i c; after = t }
  unfolding get_parameter_byte
  bad_get_parameter e = bad_get 6 false _ t t m e

  pub bad_set_item : {i c : ℕ} → set_item_finding ≡ bad i c → set_server_item t m ≡ record { says = coded m i c; after = t }
  unfolding set_server_item
  bad_set_item e = bad_set 3 first_item_entry _ _ t m e

  pub bad_set_value : {i c : ℕ} → set_value_finding ≡ bad i c → set_datapoint_value t m ≡ record { says = coded m i c; after = t }
  unfolding set_datapoint_value
  bad_set_value e = bad_set 4 first_datapoint_entry _ _ t m e

  pub bad_set_parameter : {i c : ℕ} → set_parameter_finding (length t.parameters) m ≡ bad i c → set_parameter_byte t m ≡ record { says = coded m i c; after = t }
  unfolding set_parameter_byte
  bad_set_parameter e = bad_found (set_parameter_finding (length t.parameters) m) m _ _ _ e

  pub fine_set_parameter : set_parameter_finding (length t.parameters) m ≡ fine
      → set_parameter_byte t m ≡ record { says = coded m (start_of m) 0; after = with_parameters (put t.parameters (start_of m - 1) (drop 6 m)) t }
  unfolding set_parameter_byte
  fine_set_parameter e = fine_found (set_parameter_finding (length t.parameters) m) m _ _ _ e

-- ---- what a positive get of values shows and leaves
-- bit 3 cleared, and nothing else changed
pub record HandedOut (d e : Datapoint) : Type 0 where
  pub id : e.id ≡ d.id
  pub typecode : e.typecode ≡ d.typecode
  pub flags : e.flags ≡ d.flags
  pub dpt : e.dpt ≡ d.dpt
  pub value : e.value ≡ d.value
  pub mark : e.mark ≡ d.mark
  -- bit 3, the bits above it, and the bits below it
  pub cleared : e.state / 8 % 2 ≡ 0
  pub above : e.state / 16 ≡ d.state / 16
  pub below : e.state % 8 ≡ d.state % 8

pub handed_out_lem : (d : Datapoint) → HandedOut d (handed_out d)
unfolding handed_out with_state
handed_out_lem d =
    record {
      id = refl;
      typecode = refl;
      flags = refl;
      dpt = refl;
      value = refl;
      mark = refl;
      cleared = omega arith;
      above = omega arith;
      below = omega arith;
    }

-- the entry shows the state byte as it was
pub state_shown : (d : Datapoint) → get_or (value_entry d).bytes 2 0 ≡ d.state
unfolding value_entry
state_shown d = refl

get_d_mapped : {A : Type 0} (f : A → A) (xs : List A) (k : ℕ) (z : A) → k < length xs → get_or (map f xs) k z ≡ f (get_or xs k z)
get_d_mapped f [] k z h = absurd (omega (arith, h))
get_d_mapped f (x ∷ xs) zero z h = refl
get_d_mapped f (x ∷ xs) (suc k) z h = get_d_mapped f xs k z (omega (arith, h))

module _ (t : Tables) (m : List ℕ) (e : value_finding t m ≡ fine) where
  pub value_answered :
      get_datapoint_value t m
      ≡ record { says = listing (sub_service m + 0x80) (start_of m) (map value_entry (keep (asked m) t.datapoints)); after = handing_out m t }
  unfolding get_datapoint_value getting
  value_answered =
      fine_found (value_finding t m) m _ t (handing_out m t) e

  abbrev left : List Datapoint
  left = (get_datapoint_value t m).after.datapoints

  left_is : left ≡ map (λ (d : Datapoint). if asked m d then handed_out d else d) t.datapoints
  unfolding handing_out
  left_is = ap (λ (s : Served). s.after.datapoints) value_answered

  pub value_as_many : length left ≡ length t.datapoints
  value_as_many = ap (λ (ds : List Datapoint). length ds) left_is ∙ length-map t.datapoints _

  module _ (k : ℕ) (h : k < length t.datapoints) where
    abbrev before : Datapoint
    before = get_or t.datapoints k zero_datapoint

    left_at : get_or left k zero_datapoint ≡ (if asked m before then handed_out before else before)
    left_at =
        ap (λ (ds : List Datapoint). get_or ds k zero_datapoint) left_is
        ∙ get_d_mapped (λ (d : Datapoint). if asked m d then handed_out d else d) t.datapoints k zero_datapoint h

    pub value_handed_out : asked m before ≡ true → get_or left k zero_datapoint ≡ handed_out before
    value_handed_out a = left_at ∙ simp a

    pub value_unaltered : asked m before ≡ false → get_or left k zero_datapoint ≡ before
    value_unaltered a = left_at ∙ simp a
