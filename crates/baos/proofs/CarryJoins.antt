-- A message carried out, exit by exit: what its callee wrote and left is what the carrying out has to answer and leave.
use Rattle.std.proofs.Common.{◌≡◌, ℕ, ◌+◌, ◌≤◌, ◌<◌, Bool, true, false, List, length, sym, ap, ◌∙◌, refl, arith}
use Rattle.words.specs.Words.{put}
use Rattle.ft12.proofs.EventLaws.{put_none}
use Rattle.baos.specs.declared.datapoint.Datapoint.{Datapoint}
use Rattle.baos.specs.declared.item.Item.{Item}
use Rattle.baos.specs.Text.{TextLists}
use Rattle.baos.specs.Table.{Tables, tables_of, datapoints_only, items_only, parameters_only, datapoints_with_texts}
use Rattle.baos.specs.Message.{sub_service, start_of, coded, Served}
use Rattle.baos.specs.Get.{get_server_item, get_description_string, get_parameter_byte}
use Rattle.baos.specs.Set.{set_server_item, set_datapoint_value, set_parameter_byte}
use Rattle.baos.specs.Inner.Gather.{get_datapoints}
use Rattle.baos.specs.Inner.Promise.{Written, Answered, Carried}
use Rattle.baos.specs.Service.{unanswered, carried_out}
use Rattle.baos.proofs.ServiceLaws.{datapoints_say, datapoints_after_lem, datapoints_keep_items, set_datapoints_say, set_datapoints_after, set_datapoints_keep_items, items_say, items_leave_all, set_items_say, set_items_after, set_items_keep_datapoints, strings_say, strings_leave_all, parameters_say, parameters_leave_all, set_items_keep_parameters, datapoints_keep_parameters, set_datapoints_keep_parameters, set_parameters_say, set_parameters_after, set_parameters_keep_datapoints, set_parameters_keep_items, not_answered, is_get_item, is_set_item, is_get_description, is_get_string, is_get_value, is_set_value, is_get_parameter, is_set_parameter, is_no_service}

module _ (ds : List Datapoint) (is : List Item) (ps : List ℕ) (ts : TextLists) (m out : List ℕ) (at : ℕ) where
  abbrev t : Tables
  t = tables_of ds is ps ts

  -- the carrying out comes to x, whose answer was written, and whose tables are these
  comes : (x : Served) → carried_out t m ≡ x → {says : List ℕ} {end : ℕ} {o : List ℕ} (d : List Datapoint) (i : List Item) (p : List ℕ)
      → d ≡ x.after.datapoints → i ≡ x.after.items → p ≡ x.after.parameters → says ≡ x.says → o ≡ put out at says → end ≡ at + length says
      → Carried (carried_out t m) out at end o d i p
  comes x e d i p ed ei ep es b n =
      let f = es ∙ ap (λ (y : Served). y.says) (sym e) in
      record {
        datapoints = ed ∙ ap (λ (y : Served). y.after.datapoints) (sym e);
        items = ei ∙ ap (λ (y : Served). y.after.items) (sym e);
        parameters = ep ∙ ap (λ (y : Served). y.after.parameters) (sym e);
        buffer = b ∙ ap (put out at) f;
        ends = n ∙ ap (λ (y : List ℕ). at + length y) f;
      }

  -- where the tables are left as they were
  comes_unchanged : (x : Served) → carried_out t m ≡ x → x.after ≡ t → {says : List ℕ} {end : ℕ} {o : List ℕ} → says ≡ x.says → Written out at says end o
      → Carried (carried_out t m) out at end o ds is ps
  comes_unchanged x e u es w =
      comes x e ds is ps (ap (λ (y : Tables). y.datapoints) (sym u)) (ap (λ (y : Tables). y.items) (sym u)) (ap (λ (y : Tables). y.parameters) (sym u)) es w.buffer w.ends

  pub carry_nothing : unanswered m ≡ true → Carried (carried_out t m) out at at out ds is ps
  carry_nothing u = comes_unchanged _ (not_answered t m u) refl refl (record { buffer = put_none out at; ends = omega arith })

  abbrev Ends : ℕ → List ℕ → List Datapoint → List Item → List ℕ → Type 0
  Ends end o d i p = Carried (carried_out t m) out at end o d i p

  module _ (u : unanswered m ≡ false) {end : ℕ} {o : List ℕ} where
    pub carry_get_items : sub_service m ≡ 1 → Written out at (get_server_item (items_only is) m).says end o → Ends end o ds is ps
    carry_get_items e w = comes_unchanged _ (is_get_item t m u e) (items_leave_all t m) (sym (items_say t m)) w

    pub carry_set_items : {i : List Item} → sub_service m ≡ 2 → Answered (set_server_item (items_only is) m).after.items out at (set_server_item (items_only is) m).says end o i → Ends end o ds i ps
    carry_set_items {i} e w =
        comes _ (is_set_item t m u e) ds i ps (sym (set_items_keep_datapoints t m)) (w.table ∙ sym (set_items_after t m)) (sym (set_items_keep_parameters t m)) (sym (set_items_say t m)) w.buffer w.ends

    gets : (values : Bool) → carried_out t m ≡ get_datapoints values t m → {d : List Datapoint}
        → Answered (get_datapoints values (datapoints_only ds) m).after.datapoints out at (get_datapoints values (datapoints_only ds) m).says end o d → Ends end o d is ps
    gets values e {d} w =
        comes _ e d is ps (w.table ∙ sym (datapoints_after_lem t m values)) (sym (datapoints_keep_items t m values)) (sym (datapoints_keep_parameters t m values)) (sym (datapoints_say t m values)) w.buffer w.ends

    pub carry_descriptions : {d : List Datapoint} → sub_service m ≡ 3 → Answered (get_datapoints false (datapoints_only ds) m).after.datapoints out at (get_datapoints false (datapoints_only ds) m).says end o d
        → Ends end o d is ps
    carry_descriptions e w = gets false (is_get_description t m u e) w

    pub carry_strings : sub_service m ≡ 4 → Written out at (get_description_string (datapoints_with_texts ds ts) m).says end o → Ends end o ds is ps
    carry_strings e w = comes_unchanged _ (is_get_string t m u e) (strings_leave_all t m) (sym (strings_say t m)) w

    pub carry_values : {d : List Datapoint} → sub_service m ≡ 5 → Answered (get_datapoints true (datapoints_only ds) m).after.datapoints out at (get_datapoints true (datapoints_only ds) m).says end o d
        → Ends end o d is ps
    carry_values e w = gets true (is_get_value t m u e) w

    pub carry_set_values : {d : List Datapoint} → sub_service m ≡ 6
        → Answered (set_datapoint_value (datapoints_only ds) m).after.datapoints out at (set_datapoint_value (datapoints_only ds) m).says end o d → Ends end o d is ps
    carry_set_values {d} e w =
        comes _ (is_set_value t m u e) d is ps (w.table ∙ sym (set_datapoints_after t m)) (sym (set_datapoints_keep_items t m)) (sym (set_datapoints_keep_parameters t m)) (sym (set_datapoints_say t m)) w.buffer w.ends

    pub carry_parameters : sub_service m ≡ 7 → Written out at (get_parameter_byte (parameters_only ps) m).says end o → Ends end o ds is ps
    carry_parameters e w = comes_unchanged _ (is_get_parameter t m u e) (parameters_leave_all t m) (sym (parameters_say t m)) w

    pub carry_set_parameters : {p : List ℕ} → sub_service m ≡ 8
        → Answered (set_parameter_byte (parameters_only ps) m).after.parameters out at (set_parameter_byte (parameters_only ps) m).says end o p → Ends end o ds is p
    carry_set_parameters {p} e w =
        comes _ (is_set_parameter t m u e) ds is p (sym (set_parameters_keep_datapoints t m)) (sym (set_parameters_keep_items t m)) (w.table ∙ sym (set_parameters_after t m)) (sym (set_parameters_say t m)) w.buffer w.ends

    pub carry_unknown : (1 ≤ sub_service m → 8 < sub_service m) → Written out at (coded m (start_of m) 5) end o → Ends end o ds is ps
    carry_unknown n w =
        let other : (k : ℕ) → 1 ≤ k → k ≤ 8 → sub_service m ≡ k → ⊥ = λ k l h e. omega (arith, n (omega arith)) in
        comes_unchanged _
        (is_no_service t m u (other 1 (omega arith) (omega arith)) (other 2 (omega arith) (omega arith)) (other 3 (omega arith) (omega arith)) (other 4 (omega arith) (omega arith)) (other 5 (omega arith) (omega arith)) (other 6 (omega arith) (omega arith)) (other 7 (omega arith) (omega arith)) (other 8 (omega arith) (omega arith)))
        refl refl w
