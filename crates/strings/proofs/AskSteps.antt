-- The laws of the get of strings, exit by exit, of what its callees answer: v, w, from, g and u; and then of what its
-- checks say.
use Rattle.std.proofs.Common.{ℕ, ◌+◌, ◌≤◌, ◌≡◌, refl, sym, ◌∙◌, ap, Bool, true, false, not, List, arith, length, drop, T, eqb, Ok, Err, inl, inr, subst, eq-eqb, ne_eqb}
use Rattle.words.specs.Words.{put}
use Rattle.words.proofs.ByteLaws.{length-put}
use Rattle.words.proofs.WordLaws.{true_T}
use Rattle.baos.specs.declared.datapoint.Datapoint.{Datapoint}
use Rattle.baos.specs.Inner.Gather.{Gathered}
use Rattle.baos.specs.Message.{Verdict}
use Rattle.baos.specs.declared.inner.Wanted.{Wanted}
use Rattle.baos.specs.Datapoint.{datapoint_id, datapoint_ok}
use Rattle.baos.specs.Table.{datapoints_with_texts, place, table_ok}
use Rattle.baos.specs.Text.{TextLists}
use Rattle.baos.specs.declared.inner.Fault.{Fault}
use Rattle.baos.specs.Message.{coded, verdict_of, code_number}
use Rattle.gets.proofs.MeasureSteps.{code_some}
use Rattle.gets.specs.Measure.{Checked}
use Rattle.gets.specs.declared.found.Entries.{Entries}
use Rattle.baos.specs.Get.{get_description_string}
use Rattle.baos.specs.Inner.Gather.{request_finding, gathered_verdict, wanted_of, walked, nothing_gathered}
use Rattle.baos.specs.Inner.Strings.{string_step, strings_built}
use Rattle.baos.specs.Inner.Promise.{Written}
use Rattle.baos.proofs.AnswerJoins.{head_of, strings_refused_lem, strings_bad, strings_fit, strings_fine}
use Rattle.baos.proofs.WrittenLaws.{coded_ends}

is_not : (n : ℕ) → (n ≡ 0 → ⊥) → T (not (eqb n 0))
is_not n h = true_T (ap not (ne_eqb n 0 h))

is_zero : (n : ℕ) → n ≡ 0 → T (not (not (eqb n 0)))
is_zero n h = true_T (ap (λ (b : Bool). not (not b)) (eq-eqb n 0 h))

-- behind the head there is room for so many bytes
behind_head : {out o : List ℕ} {at e : ℕ} (m : List ℕ) (n : ℕ) (bytes : List ℕ) → at + 254 ≤ length out → length bytes ≤ 248 → Written out at (head_of m n) e o → e + length bytes ≤ length o
behind_head {out} {o} {at} {e} m n bytes l k p = omega (arith, l, k, p.ends, ap length p.buffer, length-put out at (head_of m n) (omega (arith, l)))

module _ (ts : TextLists) (m : List ℕ) (ds : List Datapoint) (ok : table_ok 1000 datapoint_id datapoint_ok ds ≡ true) (out : List ℕ) (at : ℕ) {v : Verdict} (ev : v ≡ verdict_of (request_finding false m)) where
  pub strings_turned_away : {n : ℕ} {o : List ℕ} → (v.code ≡ 0 → ⊥) → Written out at (coded m v.id v.code) n o
      → Written out at (get_description_string (datapoints_with_texts ds ts) m).says n o
  strings_turned_away h p =
      let q = strings_refused_lem ts m ds ok out at (is_not (verdict_of (request_finding false m)).code (λ y. h (ap (λ (x : Verdict). x.code) ev ∙ y))) in
      record { buffer = p.buffer ∙ ap (λ (x : Verdict). put out at (coded m x.id x.code)) ev ∙ q.buffer; ends = coded_ends m v.id v.code p ∙ q.ends }

  module _ (fine : v.code ≡ 0) {w : Wanted} {from : ℕ} {g : Gathered} {u : Verdict} (ew : w ≡ wanted_of false m) (ef : from ≡ place datapoint_id w.start ds)
      (eg : g ≡ walked (string_step ts w) nothing_gathered (drop from ds)) (eu : u ≡ gathered_verdict w.start g) where
    abbrev string_place : ℕ
    string_place = place datapoint_id (wanted_of false m).start ds

    abbrev string_sum : Gathered
    string_sum = walked (string_step ts (wanted_of false m)) nothing_gathered (drop string_place ds)

    string_fine : T (not (not (eqb (verdict_of (request_finding false m)).code 0)))
    string_fine = is_zero (verdict_of (request_finding false m)).code (sym (ap (λ (x : Verdict). x.code) ev) ∙ fine)

    string_from : from ≡ string_place
    string_from = ef ∙ ap (λ (x : Wanted). place datapoint_id x.start ds) ew

    string_summed : g ≡ string_sum
    string_summed = eg ∙ (λ i. walked (string_step ts (ew i)) nothing_gathered (drop (string_from i) ds))

    string_judged : u ≡ gathered_verdict (wanted_of false m).start string_sum
    string_judged = eu ∙ (λ i. gathered_verdict (ew i).start (string_summed i))

    string_bytes : strings_built ts w (drop from ds) ≡ strings_built ts (wanted_of false m) (drop string_place ds)
    string_bytes i = strings_built ts (ew i) (drop (string_from i) ds)

    pub strings_found_none : {n : ℕ} {o : List ℕ} → (u.code ≡ 0 → ⊥) → Written out at (coded m u.id u.code) n o
        → Written out at (get_description_string (datapoints_with_texts ds ts) m).says n o
    strings_found_none h p =
        let q = strings_bad ts m ds ok out at string_fine (is_not (gathered_verdict (wanted_of false m).start string_sum).code (λ y. h (ap (λ (x : Verdict). x.code) string_judged ∙ y))) in
        record { buffer = p.buffer ∙ ap (λ (x : Verdict). put out at (coded m x.id x.code)) string_judged ∙ q.buffer; ends = coded_ends m u.id u.code p ∙ q.ends }

    module _ (good : u.code ≡ 0) (room : at + 254 ≤ length out) {e : ℕ} {head : List ℕ} (h : Written out at (head_of m g.count) e head) where
      string_good : T (not (not (eqb (gathered_verdict (wanted_of false m).start string_sum).code 0)))
      string_good = is_zero (gathered_verdict (wanted_of false m).start string_sum).code (sym (ap (λ (x : Verdict). x.code) string_judged) ∙ good)

      pub strings_have_room : e + length (strings_built ts w (drop from ds)) ≤ length head
      strings_have_room = behind_head m g.count (strings_built ts w (drop from ds)) room (omega (arith, strings_fit ts m ds ok out at string_fine string_good, ap length string_bytes)) h

      pub strings_answered : {n : ℕ} {o : List ℕ} → Written head e (strings_built ts w (drop from ds)) n o
          → Written out at (get_description_string (datapoints_with_texts ds ts) m).says n o
      strings_answered p =
          let q = strings_fine ts m ds ok out at string_fine string_good room in
          let k : e ≡ at + 6 = h.ends in
          record {
            buffer = p.buffer ∙ (λ i. put ((h.buffer ∙ ap (λ (x : Gathered). put out at (head_of m x.count)) string_summed) i) (k i) (string_bytes i)) ∙ q.buffer;
            ends = p.ends ∙ (λ i. k i + length (string_bytes i)) ∙ q.ends;
          }

-- ---- what the checks say
module _ (ts : TextLists) (m : List ℕ) (ds : List Datapoint) (ok : table_ok 1000 datapoint_id datapoint_ok ds ≡ true) (out : List ℕ) (at : ℕ) where
  abbrev asked : Wanted
  asked = wanted_of false m

  pub strings_faulty : (f : Fault) {n : ℕ} {o : List ℕ}
      → Checked (request_finding false m) asked.start (walked (string_step ts asked) nothing_gathered (drop (place datapoint_id asked.start ds) ds)) (Err f)
      → Written out at (coded m f.id (code_number f.code)) n o → Written out at (get_description_string (datapoints_with_texts ds ts) m).says n o
  unfolding verdict_of
  strings_faulty f (inl e) p = strings_turned_away ts m ds ok out at (sym (ap verdict_of e)) (code_some f.code) p
  strings_faulty f (inr (e, q)) p = strings_found_none ts m ds ok out at (sym (ap verdict_of e)) refl refl refl refl (sym q) (code_some f.code) p

  module _ (e : Entries) {w : Wanted} {from : ℕ} (ew : w ≡ wanted_of false m) (ef : from ≡ place datapoint_id w.start ds)
      (c : Checked (request_finding false m) w.start (walked (string_step ts w) nothing_gathered (drop from ds)) (Ok e)) (room : at + 254 ≤ length out)
      {end : ℕ} {head : List ℕ} (h : Written out at (head_of m e.count) end head) where
    pub strings_room : end + length (strings_built ts w (drop from ds)) ≤ length head
    unfolding verdict_of
    strings_room =
        strings_have_room ts m ds ok out at (sym (ap verdict_of c.0)) refl ew ef refl (sym c.1.0) refl room
        (subst (λ (n : ℕ). Written out at (head_of m n) end head) c.1.1 h)

    pub strings_done : {n : ℕ} {o : List ℕ} → Written head end (strings_built ts w (drop from ds)) n o → Written out at (get_description_string (datapoints_with_texts ds ts) m).says n o
    unfolding verdict_of
    strings_done p =
        strings_answered ts m ds ok out at (sym (ap verdict_of c.0)) refl ew ef refl (sym c.1.0) refl room
        (subst (λ (n : ℕ). Written out at (head_of m n) end head) c.1.1 h) p
