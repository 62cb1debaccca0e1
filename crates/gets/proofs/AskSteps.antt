-- The laws of the gets of datapoints and items, exit by exit, of what their callees answer: v, w, from, g and u; and then
-- of what their checks say.
use Rattle.std.proofs.Common.{ℕ, ◌+◌, ◌≤◌, ◌≡◌, refl, sym, ◌∙◌, ap, Bool, true, false, not, List, ◌++◌, arith, length, take, drop, T, eqb, Ok, Err, inl, inr, subst, eq-eqb, ne_eqb}
use Rattle.words.specs.Words.{put}
use Rattle.words.proofs.ByteLaws.{length-put}
use Rattle.words.proofs.WordLaws.{true_T}
use Rattle.baos.specs.declared.datapoint.Datapoint.{Datapoint}
use Rattle.baos.specs.declared.item.Item.{Item}
use Rattle.baos.specs.Inner.Gather.{Gathered}
use Rattle.baos.specs.Message.{Verdict}
use Rattle.baos.specs.declared.inner.Wanted.{Wanted}
use Rattle.baos.specs.Datapoint.{datapoint_id, datapoint_ok}
use Rattle.baos.specs.Item.{item_id, item_ok}
use Rattle.baos.specs.Table.{datapoints_only, items_only, place, table_ok}
use Rattle.baos.specs.declared.inner.Fault.{Fault}
use Rattle.baos.specs.Message.{coded, verdict_of, code_number}
use Rattle.gets.proofs.MeasureSteps.{code_some}
use Rattle.gets.specs.Measure.{Checked}
use Rattle.gets.specs.declared.found.Entries.{Entries}
use Rattle.baos.specs.Get.{get_server_item}
use Rattle.baos.specs.Inner.Gather.{request_finding, gathered_verdict, wanted_of, walked, nothing_gathered, datapoint_step, item_step, datapoints_built, datapoints_left, items_built, get_datapoints}
use Rattle.baos.specs.Inner.Promise.{Written, Answered}
use Rattle.baos.proofs.AnswerJoins.{head_of, datapoints_refused, datapoints_bad, datapoints_fit, datapoints_sized, datapoints_fine, items_refused, items_bad, items_fit, items_fine}
use Rattle.baos.proofs.WrittenLaws.{coded_ends}

is_not : (n : ℕ) → (n ≡ 0 → ⊥) → T (not (eqb n 0))
is_not n h = true_T (ap not (ne_eqb n 0 h))

is_zero : (n : ℕ) → n ≡ 0 → T (not (not (eqb n 0)))
is_zero n h = true_T (ap (λ (b : Bool). not (not b)) (eq-eqb n 0 h))

-- behind the head there is room for so many bytes
behind_head : {out o : List ℕ} {at e : ℕ} (m : List ℕ) (n : ℕ) (bytes : List ℕ) → at + 254 ≤ length out → length bytes ≤ 248 → Written out at (head_of m n) e o → e + length bytes ≤ length o
behind_head {out} {o} {at} {e} m n bytes l k p = omega (arith, l, k, p.ends, ap length p.buffer, length-put out at (head_of m n) (omega (arith, l)))

-- ---- items
module _ (m : List ℕ) (is : List Item) (ok : table_ok 64 item_id item_ok is ≡ true) (out : List ℕ) (at : ℕ) {v : Verdict} (ev : v ≡ verdict_of (request_finding false m)) where
  pub items_turned_away : {n : ℕ} {o : List ℕ} → (v.code ≡ 0 → ⊥) → Written out at (coded m v.id v.code) n o
      → Written out at (get_server_item (items_only is) m).says n o
  items_turned_away h p =
      let q = items_refused m is ok out at (is_not (verdict_of (request_finding false m)).code (λ y. h (ap (λ (x : Verdict). x.code) ev ∙ y))) in
      record { buffer = p.buffer ∙ ap (λ (x : Verdict). put out at (coded m x.id x.code)) ev ∙ q.buffer; ends = coded_ends m v.id v.code p ∙ q.ends }

  module _ (fine : v.code ≡ 0) {w : Wanted} {from : ℕ} {g : Gathered} {u : Verdict} (ew : w ≡ wanted_of false m) (ef : from ≡ place item_id w.start is)
      (eg : g ≡ walked (item_step w) nothing_gathered (drop from is)) (eu : u ≡ gathered_verdict w.start g) where
    abbrev item_place : ℕ
    item_place = place item_id (wanted_of false m).start is

    abbrev item_sum : Gathered
    item_sum = walked (item_step (wanted_of false m)) nothing_gathered (drop item_place is)

    item_fine : T (not (not (eqb (verdict_of (request_finding false m)).code 0)))
    item_fine = is_zero (verdict_of (request_finding false m)).code (sym (ap (λ (x : Verdict). x.code) ev) ∙ fine)

    item_from : from ≡ item_place
    item_from = ef ∙ ap (λ (x : Wanted). place item_id x.start is) ew

    item_summed : g ≡ item_sum
    item_summed = eg ∙ (λ i. walked (item_step (ew i)) nothing_gathered (drop (item_from i) is))

    item_judged : u ≡ gathered_verdict (wanted_of false m).start item_sum
    item_judged = eu ∙ (λ i. gathered_verdict (ew i).start (item_summed i))

    item_bytes : items_built w (drop from is) ≡ items_built (wanted_of false m) (drop item_place is)
    item_bytes i = items_built (ew i) (drop (item_from i) is)

    pub items_found_none : {n : ℕ} {o : List ℕ} → (u.code ≡ 0 → ⊥) → Written out at (coded m u.id u.code) n o
        → Written out at (get_server_item (items_only is) m).says n o
    items_found_none h p =
        let q = items_bad m is ok out at item_fine (is_not (gathered_verdict (wanted_of false m).start item_sum).code (λ y. h (ap (λ (x : Verdict). x.code) item_judged ∙ y))) in
        record { buffer = p.buffer ∙ ap (λ (x : Verdict). put out at (coded m x.id x.code)) item_judged ∙ q.buffer; ends = coded_ends m u.id u.code p ∙ q.ends }

    module _ (good : u.code ≡ 0) (room : at + 254 ≤ length out) {e : ℕ} {head : List ℕ} (h : Written out at (head_of m g.count) e head) where
      item_good : T (not (not (eqb (gathered_verdict (wanted_of false m).start item_sum).code 0)))
      item_good = is_zero (gathered_verdict (wanted_of false m).start item_sum).code (sym (ap (λ (x : Verdict). x.code) item_judged) ∙ good)

      pub items_have_room : e + length (items_built w (drop from is)) ≤ length head
      items_have_room = behind_head m g.count (items_built w (drop from is)) room (omega (arith, items_fit m is ok out at item_fine item_good, ap length item_bytes)) h

      pub items_answered : {n : ℕ} {o : List ℕ} → Written head e (items_built w (drop from is)) n o
          → Written out at (get_server_item (items_only is) m).says n o
      items_answered p =
          let q = items_fine m is ok out at item_fine item_good room in
          let k : e ≡ at + 6 = h.ends in
          record {
            buffer = p.buffer ∙ (λ i. put ((h.buffer ∙ ap (λ (x : Gathered). put out at (head_of m x.count)) item_summed) i) (k i) (item_bytes i)) ∙ q.buffer;
            ends = p.ends ∙ (λ i. k i + length (item_bytes i)) ∙ q.ends;
          }

-- ---- datapoints
module _ (values : Bool) (m : List ℕ) (ds : List Datapoint) (ok : table_ok 1000 datapoint_id datapoint_ok ds ≡ true) (out : List ℕ) (at : ℕ) {v : Verdict} (ev : v ≡ verdict_of (request_finding values m)) where
  pub datapoints_turned_away : {n : ℕ} {o : List ℕ} → (v.code ≡ 0 → ⊥) → Written out at (coded m v.id v.code) n o
      → Answered (get_datapoints values (datapoints_only ds) m).after.datapoints out at (get_datapoints values (datapoints_only ds) m).says n o ds
  datapoints_turned_away h p =
      let q = datapoints_refused values m ds ok out at (is_not (verdict_of (request_finding values m)).code (λ y. h (ap (λ (x : Verdict). x.code) ev ∙ y))) in
      record { table = q.table; buffer = p.buffer ∙ ap (λ (x : Verdict). put out at (coded m x.id x.code)) ev ∙ q.buffer; ends = coded_ends m v.id v.code p ∙ q.ends }

  module _ (fine : v.code ≡ 0) {w : Wanted} {from : ℕ} {g : Gathered} {u : Verdict} (ew : w ≡ wanted_of values m) (ef : from ≡ place datapoint_id w.start ds)
      (eg : g ≡ walked (datapoint_step w) nothing_gathered (drop from ds)) (eu : u ≡ gathered_verdict w.start g) where
    abbrev datapoint_place : ℕ
    datapoint_place = place datapoint_id (wanted_of values m).start ds

    abbrev datapoint_sum : Gathered
    datapoint_sum = walked (datapoint_step (wanted_of values m)) nothing_gathered (drop datapoint_place ds)

    datapoint_fine : T (not (not (eqb (verdict_of (request_finding values m)).code 0)))
    datapoint_fine = is_zero (verdict_of (request_finding values m)).code (sym (ap (λ (x : Verdict). x.code) ev) ∙ fine)

    datapoint_from : from ≡ datapoint_place
    datapoint_from = ef ∙ ap (λ (x : Wanted). place datapoint_id x.start ds) ew

    datapoint_summed : g ≡ datapoint_sum
    datapoint_summed = eg ∙ (λ i. walked (datapoint_step (ew i)) nothing_gathered (drop (datapoint_from i) ds))

    datapoint_judged : u ≡ gathered_verdict (wanted_of values m).start datapoint_sum
    datapoint_judged = eu ∙ (λ i. gathered_verdict (ew i).start (datapoint_summed i))

    datapoint_bytes : datapoints_built w (drop from ds) ≡ datapoints_built (wanted_of values m) (drop datapoint_place ds)
    datapoint_bytes i = datapoints_built (ew i) (drop (datapoint_from i) ds)

    pub datapoints_found_none : {n : ℕ} {o : List ℕ} → (u.code ≡ 0 → ⊥) → Written out at (coded m u.id u.code) n o
        → Answered (get_datapoints values (datapoints_only ds) m).after.datapoints out at (get_datapoints values (datapoints_only ds) m).says n o ds
    datapoints_found_none h p =
        let q = datapoints_bad values m ds ok out at datapoint_fine (is_not (gathered_verdict (wanted_of values m).start datapoint_sum).code (λ y. h (ap (λ (x : Verdict). x.code) datapoint_judged ∙ y))) in
        record { table = q.table; buffer = p.buffer ∙ ap (λ (x : Verdict). put out at (coded m x.id x.code)) datapoint_judged ∙ q.buffer; ends = coded_ends m u.id u.code p ∙ q.ends }

    module _ (good : u.code ≡ 0) (room : at + 254 ≤ length out) {e : ℕ} {head : List ℕ} (h : Written out at (head_of m g.count) e head) where
      datapoint_good : T (not (not (eqb (gathered_verdict (wanted_of values m).start datapoint_sum).code 0)))
      datapoint_good = is_zero (gathered_verdict (wanted_of values m).start datapoint_sum).code (sym (ap (λ (x : Verdict). x.code) datapoint_judged) ∙ good)

      pub datapoints_have_room : e + length (datapoints_built w (drop from ds)) ≤ length head
      datapoints_have_room = behind_head m g.count (datapoints_built w (drop from ds)) room (omega (arith, datapoints_fit values m ds ok out at datapoint_fine datapoint_good, ap length datapoint_bytes)) h

      pub datapoints_are_sized : g.size ≡ length (datapoints_built w (drop from ds))
      datapoints_are_sized = ap (λ (x : Gathered). x.size) datapoint_summed ∙ datapoints_sized values m ds ok out at datapoint_fine datapoint_good ∙ sym (ap length datapoint_bytes)

      pub datapoints_answered : {n : ℕ} {o : List ℕ} {t : List Datapoint} → Answered (take from ds ++ datapoints_left w (drop from ds)) head e (datapoints_built w (drop from ds)) n o t
          → Answered (get_datapoints values (datapoints_only ds) m).after.datapoints out at (get_datapoints values (datapoints_only ds) m).says n o t
      datapoints_answered p =
          let q = datapoints_fine values m ds ok out at datapoint_fine datapoint_good room in
          let k : e ≡ at + 6 = h.ends in
          record {
            table = p.table ∙ (λ i. take (datapoint_from i) ds ++ datapoints_left (ew i) (drop (datapoint_from i) ds)) ∙ q.table;
            buffer = p.buffer ∙ (λ i. put ((h.buffer ∙ ap (λ (x : Gathered). put out at (head_of m x.count)) datapoint_summed) i) (k i) (datapoint_bytes i)) ∙ q.buffer;
            ends = p.ends ∙ (λ i. k i + length (datapoint_bytes i)) ∙ q.ends;
          }

-- ---- what the checks say
module _ (m : List ℕ) (is : List Item) (ok : table_ok 64 item_id item_ok is ≡ true) (out : List ℕ) (at : ℕ) where
  abbrev items_asked : Wanted
  items_asked = wanted_of false m

  pub items_faulty : (f : Fault) {n : ℕ} {o : List ℕ}
      → Checked (request_finding false m) items_asked.start (walked (item_step items_asked) nothing_gathered (drop (place item_id items_asked.start is) is)) (Err f)
      → Written out at (coded m f.id (code_number f.code)) n o → Written out at (get_server_item (items_only is) m).says n o
  unfolding verdict_of
  items_faulty f (inl e) p = items_turned_away m is ok out at (sym (ap verdict_of e)) (code_some f.code) p
  items_faulty f (inr (e, q)) p = items_found_none m is ok out at (sym (ap verdict_of e)) refl refl refl refl (sym q) (code_some f.code) p

  module _ (e : Entries) {w : Wanted} {from : ℕ} (ew : w ≡ wanted_of false m) (ef : from ≡ place item_id w.start is)
      (c : Checked (request_finding false m) w.start (walked (item_step w) nothing_gathered (drop from is)) (Ok e)) (room : at + 254 ≤ length out)
      {end : ℕ} {head : List ℕ} (h : Written out at (head_of m e.count) end head) where
    pub items_room : end + length (items_built w (drop from is)) ≤ length head
    unfolding verdict_of
    items_room =
        items_have_room m is ok out at (sym (ap verdict_of c.0)) refl ew ef refl (sym c.1.0) refl room
        (subst (λ (n : ℕ). Written out at (head_of m n) end head) c.1.1 h)

    pub items_done : {n : ℕ} {o : List ℕ} → Written head end (items_built w (drop from is)) n o → Written out at (get_server_item (items_only is) m).says n o
    unfolding verdict_of
    items_done p =
        items_answered m is ok out at (sym (ap verdict_of c.0)) refl ew ef refl (sym c.1.0) refl room
        (subst (λ (n : ℕ). Written out at (head_of m n) end head) c.1.1 h) p

module _ (values : Bool) (m : List ℕ) (ds : List Datapoint) (ok : table_ok 1000 datapoint_id datapoint_ok ds ≡ true) (out : List ℕ) (at : ℕ) where
  abbrev datapoints_asked : Wanted
  datapoints_asked = wanted_of values m

  pub datapoints_faulty : (f : Fault) {n : ℕ} {o : List ℕ}
      → Checked (request_finding values m) datapoints_asked.start (walked (datapoint_step datapoints_asked) nothing_gathered (drop (place datapoint_id datapoints_asked.start ds) ds)) (Err f)
      → Written out at (coded m f.id (code_number f.code)) n o
      → Answered (get_datapoints values (datapoints_only ds) m).after.datapoints out at (get_datapoints values (datapoints_only ds) m).says n o ds
  unfolding verdict_of
  datapoints_faulty f (inl e) p = datapoints_turned_away values m ds ok out at (sym (ap verdict_of e)) (code_some f.code) p
  datapoints_faulty f (inr (e, q)) p = datapoints_found_none values m ds ok out at (sym (ap verdict_of e)) refl refl refl refl (sym q) (code_some f.code) p

  module _ (e : Entries) {w : Wanted} {from : ℕ} (ew : w ≡ wanted_of values m) (ef : from ≡ place datapoint_id w.start ds)
      (c : Checked (request_finding values m) w.start (walked (datapoint_step w) nothing_gathered (drop from ds)) (Ok e)) (room : at + 254 ≤ length out)
      {end : ℕ} {head : List ℕ} (h : Written out at (head_of m e.count) end head) where
    pub datapoints_room : end + length (datapoints_built w (drop from ds)) ≤ length head
    unfolding verdict_of
    datapoints_room =
        datapoints_have_room values m ds ok out at (sym (ap verdict_of c.0)) refl ew ef refl (sym c.1.0) refl room
        (subst (λ (n : ℕ). Written out at (head_of m n) end head) c.1.1 h)

    pub datapoints_size : e.size ≡ length (datapoints_built w (drop from ds))
    unfolding verdict_of
    datapoints_size =
        c.1.2 ∙ datapoints_are_sized values m ds ok out at (sym (ap verdict_of c.0)) refl ew ef refl (sym c.1.0) refl room
        (subst (λ (n : ℕ). Written out at (head_of m n) end head) c.1.1 h)

    pub datapoints_done : {n : ℕ} {o : List ℕ} {t : List Datapoint} → Answered (take from ds ++ datapoints_left w (drop from ds)) head end (datapoints_built w (drop from ds)) n o t
        → Answered (get_datapoints values (datapoints_only ds) m).after.datapoints out at (get_datapoints values (datapoints_only ds) m).says n o t
    unfolding verdict_of
    datapoints_done p =
        datapoints_answered values m ds ok out at (sym (ap verdict_of c.0)) refl ew ef refl (sym c.1.0) refl room
        (subst (λ (n : ℕ). Written out at (head_of m n) end head) c.1.1 h) p
