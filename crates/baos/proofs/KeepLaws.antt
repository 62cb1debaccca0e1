-- Well-formed tables stay well formed, whatever message is carried out and whatever is indicated.
use Prim.Native.Nat.{ℕ, suc, ◌-◌}
use mathlib.Core.Path.{◌≡◌, refl, sym, ◌∙◌, ap, subst}
use mathlib.Core.Bool.{Bool, true, false, not, ◌||◌}
use mathlib.Core.List.{List, [], ◌∷◌, map}
use lib.ListN.{length, drop}
use lib.Dec.{T, leb, eqb, eqb→eq}
use borrow.Author.Tests.{eq-eqb}
use Rattle.std.specs.Prelude.{if◌then◌else◌}
use Rattle.words.specs.Words.{is_yes, is_empty, every, put}
use Rattle.words.proofs.WordLaws.{left, right, both, parts3, parts4, join3, join4, true_T, T_true, every_imp, every_true}
use Rattle.baos.specs.declared.datapoint.Datapoint.{Datapoint}
use Rattle.baos.specs.declared.item.Item.{Item}
use Rattle.baos.specs.Datapoint.{datapoint_id, datapoint_ok, size_of, unused_bits_ok, is_value, with_state, with_mark, handed_out}
use Rattle.baos.specs.Item.{item_id, item_ok, with_bytes}
use Rattle.baos.specs.Lookup.{lookup_of, is_present}
use Rattle.baos.specs.Text.{text_lists_ok}
use Rattle.baos.specs.Table.{Tables, with_datapoints, with_parameters, rising, table_ok, well_formed, found}
use Rattle.baos.specs.Message.{start_of, number_of, Finding, fine, bad, verdict_of, Served, after_of, served}
use Rattle.baos.specs.Get.{room_for_entries, getting, get_server_item, get_datapoint_description, get_description_string, asked, handing_out, get_datapoint_value, get_parameter_byte}
use Rattle.baos.specs.Set.{SetEntry, first_item_entry, first_datapoint_entry, set_entries, item_code, takes_command, datapoint_code, judged_item, judged_datapoint, first_bad, set_finding, setting, set_item, set_server_item, set_datapoint, set_datapoint_value, set_parameter_byte}
use Rattle.baos.specs.Inner.Gather.{get_datapoints}
use Rattle.baos.specs.Service.{service, carried_out}
use Rattle.baos.proofs.LookupLaws.{present_one}
use Rattle.baos.specs.Indication.{goes, room_after, Choice, choices, reported, after_report, indication_of, indication}
use Rattle.baos.proofs.TableLaws
use Rattle.baos.proofs.DispatchLaws.{by_service, by_message}
use Rattle.baos.proofs.ServiceLaws.{items_leave_all, strings_leave_all, parameters_leave_all, datapoints_keep_texts, set_datapoints_keep_texts, set_items_keep_texts, set_parameters_keep_texts}
use Rattle.baos.proofs.SetParameterLaws.{set-length}
use Rattle.baos.proofs.LeftLaws.{datapoint_keeps, item_keeps, each_fine}
use Rattle.baos.proofs.SettingLaws.{code_passes}
use Rattle.baos.proofs.DatapointLaws

-- ---- the tables
pub record Parts (t : Tables) : Type 0 where
  pub datapoints : T (table_ok 1000 datapoint_id datapoint_ok t.datapoints)
  pub items : T (table_ok 64 item_id item_ok t.items)
  pub parameters : T (leb (length t.parameters) 255)
  pub texts : T (text_lists_ok t.texts)

pub parts : (t : Tables) → T (well_formed t) → Parts t
unfolding well_formed
parts t w =
    let p = parts4 (table_ok 1000 datapoint_id datapoint_ok t.datapoints) (table_ok 64 item_id item_ok t.items) (leb (length t.parameters) 255) (text_lists_ok t.texts) w in
    record { datapoints = p.0; items = p.1; parameters = p.2; texts = p.3 }

pub whole : (t : Tables) → Parts t → T (well_formed t)
unfolding well_formed
whole t p =
    join4 (table_ok 1000 datapoint_id datapoint_ok t.datapoints) (table_ok 64 item_id item_ok t.items) (leb (length t.parameters) 255) (text_lists_ok t.texts)
    p.datapoints p.items p.parameters p.texts

-- other datapoints, the rest as it was
pub with_datapoints_lem : (t : Tables) (ds : List Datapoint) → T (well_formed t) → T (table_ok 1000 datapoint_id datapoint_ok ds) → T (well_formed (with_datapoints ds t))
with_datapoints_lem t ds w d = whole _ (record { datapoints = d; items = (parts t w).items; parameters = (parts t w).parameters; texts = (parts t w).texts })

after_keeps : (f : Finding) (t t' : Tables) → T (well_formed t) → (f ≡ fine → T (well_formed t')) → T (well_formed (after_of f t t'))
unfolding after_of
after_keeps fine t t' w k = k refl
after_keeps (bad n c) t t' w k = w

-- ---- values handed out
handed_out_same : (d : Datapoint) → datapoint_id (handed_out d) ≡ datapoint_id d
unfolding handed_out with_state
handed_out_same d = refl

out_keeps : (m : List ℕ) (t : Tables) → T (well_formed t) → T (well_formed (handing_out m t))
unfolding handing_out
out_keeps m t w =
    with_datapoints_lem t _ w
    (TableLaws.table_map datapoint_id 1000 datapoint_ok (λ (d : Datapoint). true) (λ (d : Datapoint). if asked m d then handed_out d else d) ids oks t.datapoints (every_true t.datapoints) (parts t w).datapoints)
  where
    ids : (d : Datapoint) → datapoint_id (if asked m d then handed_out d else d) ≡ datapoint_id d
    ids d = go (asked m d) refl
      where
        go : (u : Bool) → asked m d ≡ u → datapoint_id (if asked m d then handed_out d else d) ≡ datapoint_id d
        go true e = simp e (handed_out_same d)
        go false e = simp e

    oks : (d : Datapoint) → T true → T (datapoint_ok d) → T (datapoint_ok (if asked m d then handed_out d else d))
    oks d x o = go (asked m d) refl
      where
        go : (u : Bool) → asked m d ≡ u → T (datapoint_ok (if asked m d then handed_out d else d))
        go true e = simp e (DatapointLaws.handed_out_ok d o)
        go false e = simp e o

-- ---- sets: where no entry is bad, each was judged 0
none_bad : (judge : SetEntry → ℕ) (os : List SetEntry) → first_bad judge os ≡ fine → T (every (λ o. eqb (judge o) 0) os)
none_bad judge os e = true_T (each_fine judge (λ o. eqb (judge o) 0) (λ o z. true_T (eq-eqb (judge o) 0 z)) os e)

set_keeps : (h : ℕ) (first : List ℕ → SetEntry) (judge : SetEntry → ℕ) (done : List SetEntry → Tables) (t : Tables) (m : List ℕ) → T (well_formed t)
    → ((os : List SetEntry) → T (every (λ o. eqb (judge o) 0) os) → T (well_formed (done os))) → T (well_formed (setting h first judge done t m).after)
unfolding setting served
set_keeps h first judge done t m w g = after_keeps (set_finding h first judge m) t (done os) w (λ e. g os (fits e))
  where
    os : List SetEntry
    os = set_entries first h (number_of m) (drop 6 m)

    fits : set_finding h first judge m ≡ fine → T (every (λ o. eqb (judge o) 0) os)
    fits e = none_bad judge os (code_passes h first judge m (ap (λ (f : Finding). (verdict_of f).code) e ∙ unfold verdict_of in refl)).judged

-- ---- items
item_fits : SetEntry → Item → Bool
item_fits o i = eqb (length o.value) i.size

item_judged : (o : SetEntry) (i : Item) → T (eqb (judged_item (i ∷ []) o) 0) → T (item_fits o i)
unfolding judged_item item_code item_fits
item_judged o i t = go (is_yes i.writable) (eqb (length o.value) i.size) refl refl
  where
    go : (u v : Bool) → is_yes i.writable ≡ u → eqb (length o.value) i.size ≡ v → T (item_fits o i)
    go u true e d = simp d tt
    go true false e d = absurd (simp (e, d) at t)
    go false false e d = absurd (simp e at t)

item_ok_lem : (o : SetEntry) (i : Item) → T (item_fits o i) → T (item_ok i) → T (item_ok (set_item o i))
unfolding set_item item_fits
item_ok_lem o i f t = DatapointLaws.bytes_ok o.value i (eqb→eq (length o.value) i.size f) t

items_keep : (t : Tables) (m : List ℕ) → T (well_formed t) → T (well_formed (set_server_item t m).after)
unfolding set_server_item
items_keep t m w =
    set_keeps 3 first_item_entry (λ o. judged_item (found item_id o.id t.items) o) _ t m w
    (λ os j. whole _ (record {
      datapoints = (parts t w).datapoints;
      parameters = (parts t w).parameters;
      texts = (parts t w).texts;
      items =
          TableLaws.applied_ok item_id 64 item_ok item_fits set_item item_keeps (λ o p i. unfold item_fits set_item with_bytes in refl) item_ok_lem os t.items
          (every_imp _ (λ o. every (TableLaws.at item_id o.id (item_fits o)) t.items)
          (λ o k. TableLaws.found_fits item_id o.id (item_fits o) (λ xs. eqb (judged_item xs o) 0) (item_judged o) 0 t.items (TableLaws.ids_rise item_id 64 item_ok t.items (parts t w).items) k) os j)
          (parts t w).items;
    }))

-- ---- datapoints
datapoint_fits : SetEntry → Datapoint → Bool
datapoint_fits o d = if DatapointLaws.takes_value o.command then is_value d.typecode o.value else true

datapoint-judged : (o : SetEntry) (d : Datapoint) → T (eqb (judged_datapoint (d ∷ []) o) 0) → T (datapoint_fits o d)
unfolding judged_datapoint datapoint_code datapoint_fits DatapointLaws.takes_value is_value
datapoint-judged o d t =
    go (eqb o.command 1 || eqb o.command 3) (not (takes_command (lookup_of (d ∷ [])) d.flags o.command)) (is_empty o.value) (eqb (length o.value) (size_of d.typecode)) (unused_bits_ok d.typecode o.value) refl refl refl refl refl
  where
    here : is_present (lookup_of (d ∷ [])) ≡ true
    here = present_one d []

    go : (a b c e f : Bool) → (eqb o.command 1 || eqb o.command 3) ≡ a → not (takes_command (lookup_of (d ∷ [])) d.flags o.command) ≡ b → is_empty o.value ≡ c → eqb (length o.value) (size_of d.typecode) ≡ e → unused_bits_ok d.typecode o.value ≡ f → T (datapoint_fits o d)
    go false b c e f p1 p2 p3 p4 p5 = simp p1 tt
    go true true c e f p1 p2 p3 p4 p5 = absurd (simp (here, p2) at t)
    go true false true e f p1 p2 p3 p4 p5 = absurd (simp (here, p2, p3, p1) at t)
    go true false false false f p1 p2 p3 p4 p5 = absurd (simp (here, p2, p3, p4) at t)
    go true false false true false p1 p2 p3 p4 p5 = absurd (simp (here, p2, p3, p4, p5) at t)
    go true false false true true p1 p2 p3 p4 p5 = simp (p1, p4, p5) tt

datapoint_ok_lem : (o : SetEntry) (d : Datapoint) → T (datapoint_fits o d) → T (datapoint_ok d) → T (datapoint_ok (set_datapoint o d))
unfolding set_datapoint datapoint_fits
datapoint_ok_lem o d f t = DatapointLaws.command_ok o.command o.value d (λ v. simp (T_true (DatapointLaws.takes_value o.command) v) at f) t

datapoint_fits_lem : (o p : SetEntry) (d : Datapoint) → datapoint_fits p (set_datapoint o d) ≡ datapoint_fits p d
unfolding datapoint_fits set_datapoint
datapoint_fits_lem o p d = simp (DatapointLaws.command_same o.command o.value d).typecode

values_keep : (t : Tables) (m : List ℕ) → T (well_formed t) → T (well_formed (set_datapoint_value t m).after)
unfolding set_datapoint_value
values_keep t m w =
    set_keeps 4 first_datapoint_entry (λ o. judged_datapoint (found datapoint_id o.id t.datapoints) o) _ t m w
    (λ os j. with_datapoints_lem t _ w
    (TableLaws.applied_ok datapoint_id 1000 datapoint_ok datapoint_fits set_datapoint datapoint_keeps datapoint_fits_lem datapoint_ok_lem os t.datapoints
    (every_imp _ (λ o. every (TableLaws.at datapoint_id o.id (datapoint_fits o)) t.datapoints)
    (λ o k. TableLaws.found_fits datapoint_id o.id (datapoint_fits o) (λ xs. eqb (judged_datapoint xs o) 0) (datapoint-judged o) 0 t.datapoints (TableLaws.ids_rise datapoint_id 1000 datapoint_ok t.datapoints (parts t w).datapoints) k) os j)
    (parts t w).datapoints))

-- as many parameter bytes as there were
parameters_keep : (t : Tables) (m : List ℕ) → T (well_formed t) → T (well_formed (set_parameter_byte t m).after)
unfolding set_parameter_byte served
parameters_keep t m w =
    after_keeps _ t _ w (λ f. whole (with_parameters (put t.parameters (start_of m - 1) (drop 6 m)) t) (record {
      datapoints = (parts t w).datapoints;
      items = (parts t w).items;
      parameters = subst (λ (n : ℕ). T (leb n 255)) (sym (set-length t.parameters m f)) (parts t w).parameters;
      texts = (parts t w).texts;
    }))

-- ---- every message
service_keeps : (t : Tables) (m : List ℕ) → T (well_formed t) → T (well_formed (service t m).after)
unfolding get_server_item get_datapoint_description get_description_string get_datapoint_value get_parameter_byte getting served
service_keeps t m w =
    by_service (λ (s : Served). T (well_formed s.after)) t m
    (λ e. after_keeps _ t t w (λ p. w))
    (λ e. items_keep t m w)
    (λ e. after_keeps _ t t w (λ p. w))
    (λ e. after_keeps _ t t w (λ p. w))
    (λ e. after_keeps _ t _ w (λ p. out_keeps m t w))
    (λ e. values_keep t m w)
    (λ e. after_keeps _ t t w (λ p. w))
    (λ e. parameters_keep t m w)
    w

pub carried_out_keeps : (t : Tables) (m : List ℕ) → T (well_formed t) → T (well_formed (carried_out t m).after)
carried_out_keeps t m w = by_message (λ (s : Served). T (well_formed s.after)) t m w (service_keeps t m w)

-- no message changes the texts
pub carried_texts : (t : Tables) (m : List ℕ) → (carried_out t m).after.texts ≡ t.texts
unfolding get_datapoints
carried_texts t m =
    by_message (λ (s : Served). s.after.texts ≡ t.texts) t m refl
    (by_service (λ (s : Served). s.after.texts ≡ t.texts) t m
    (λ e. ap (λ (u : Tables). u.texts) (items_leave_all t m))
    (λ e. set_items_keep_texts t m)
    (λ e. datapoints_keep_texts t m false)
    (λ e. ap (λ (u : Tables). u.texts) (strings_leave_all t m))
    (λ e. datapoints_keep_texts t m true)
    (λ e. set_datapoints_keep_texts t m)
    (λ e. ap (λ (u : Tables). u.texts) (parameters_leave_all t m))
    (λ e. set_parameters_keep_texts t m)
    refl)

-- ---- the indication
told : Choice → Datapoint
told c = if c.carried then with_mark 0 (handed_out c.datapoint) else c.datapoint

told_id : (c : Choice) → datapoint_id (told c) ≡ datapoint_id c.datapoint
unfolding told
told_id c = go c.carried refl
  where
    go : (u : Bool) → c.carried ≡ u → datapoint_id (told c) ≡ datapoint_id c.datapoint
    go true e = unfold with_mark handed_out with_state in simp (e, told)
    go false e = simp (e, told)

told_ok : (c : Choice) → T (datapoint_ok c.datapoint) → T (datapoint_ok (told c))
unfolding told
told_ok c t = go c.carried refl
  where
    go : (u : Bool) → c.carried ≡ u → T (datapoint_ok (told c))
    go true e = simp (e, told) (DatapointLaws.mark_ok 0 (handed_out c.datapoint) tt (DatapointLaws.handed_out_ok c.datapoint t))
    go false e = simp (e, told) t

report_ids : (room : ℕ) (ds : List Datapoint) → map datapoint_id (after_report (choices room ds)) ≡ map datapoint_id ds
unfolding after_report choices told
report_ids room [] = refl
report_ids room (d ∷ ds) = let e = told_id (record { datapoint = d; carried = goes room d }) in let r = report_ids (room_after room d) ds in λ i. e i ∷ r i

pub report_length : (room : ℕ) (ds : List Datapoint) → length (after_report (choices room ds)) ≡ length ds
unfolding after_report choices
report_length room [] = refl
report_length room (d ∷ ds) = ap suc (report_length (room_after room d) ds)

report_every : (room : ℕ) (ds : List Datapoint) → T (every datapoint_ok ds) → T (every datapoint_ok (after_report (choices room ds)))
unfolding after_report choices told
report_every room [] t = tt
report_every room (d ∷ ds) t =
    both (datapoint_ok (told (record { datapoint = d; carried = goes room d }))) (every datapoint_ok (after_report (choices (room_after room d) ds)))
    (told_ok (record { datapoint = d; carried = goes room d }) (left (datapoint_ok d) (every datapoint_ok ds) t))
    (report_every (room_after room d) ds (right (datapoint_ok d) (every datapoint_ok ds) t))

report_ok : (room : ℕ) (ds : List Datapoint) → T (table_ok 1000 datapoint_id datapoint_ok ds) → T (table_ok 1000 datapoint_id datapoint_ok (after_report (choices room ds)))
unfolding table_ok
report_ok room ds t =
    let p = parts3 (leb (length ds) 1000) (rising 0 (map datapoint_id ds)) (every datapoint_ok ds) t in
    rw (report_ids room ds, report_length room ds)
    (join3 (leb (length ds) 1000) (rising 0 (map datapoint_id ds)) (every datapoint_ok (after_report (choices room ds))) p.0 p.1 (report_every room ds p.2))

pub indication_keeps : (t : Tables) → T (well_formed t) → T (well_formed (indication t).after)
unfolding indication
indication_keeps t w = with_datapoints_lem t _ w (report_ok _ t.datapoints (parts t w).datapoints)

-- "with [..] some mark set [..]. Otherwise nothing"
unmarked_stay : (room : ℕ) (ds : List Datapoint) → T (every (λ (d : Datapoint). not (is_yes d.mark)) ds) → (reported (choices room ds) ≡ []) × (after_report (choices room ds) ≡ ds)
unfolding reported after_report choices goes room_after
unmarked_stay room [] t = (refl, refl)
unmarked_stay room (d ∷ ds) t = go (is_yes d.mark) refl (unmarked_stay room ds (right (not (is_yes d.mark)) (every (λ (x : Datapoint). not (is_yes x.mark)) ds) t))
  where
    go : (u : Bool) → is_yes d.mark ≡ u → (reported (choices room ds) ≡ []) × (after_report (choices room ds) ≡ ds) → (reported (choices room (d ∷ ds)) ≡ []) × (after_report (choices room (d ∷ ds)) ≡ d ∷ ds)
    go true e r = absurd (simp e at (left (not (is_yes d.mark)) (every (λ (x : Datapoint). not (is_yes x.mark)) ds) t))
    go false e r = (simp (e, r.0), simp (e, r.1))

pub unmarked_silent : (t : Tables) → T (every (λ (d : Datapoint). not (is_yes d.mark)) t.datapoints) → indication t ≡ record { says = []; after = t }
unfolding indication
unmarked_silent t h = let r = unmarked_stay room_for_entries t.datapoints h in unfold indication_of in rw (r.0, r.1)
