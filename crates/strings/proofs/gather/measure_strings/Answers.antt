-- The laws of both passes: what is known of the datapoint at hand, a turn that goes on, and each end of the pass.
use Rattle.std.proofs.Common.{rules, sym, ◌∙◌, arith}
use Rattle.std.proofs.lemmas.Result.{MatchResult-at_ok, MatchResult-at_err, err_from_is_err_and}
use Rattle.baos.specs.Text.{text_lists}
use Rattle.baos.proofs.AnswerJoins.{sought}
use Rattle.baos.specs.Datapoint.{datapoint_id, datapoint_ok}
use Rattle.strings.proofs.PassSteps.{blank_datapoint, from_start, found_begins, reached, text_small, string_size, found_over_room, found_goes, found_behind}
use Rattle.gets.proofs.MeasureSteps.{with_found, comes_end, judged}
use Rattle.strings.proofs.gather.measure_strings.Goals.{else-loop-d-test, then-loop-d-test+then-is_behind}
use Rattle.strings.proofs.gather.measure_strings.Goals as goal

pub offset_bounds-table-from : goal.offset_bounds-table-from
offset_bounds-table-from c =
    let a = c.args in
    let ts = text_lists a.texts.site.now a.texts.defaults.now in
    omega (arith, (from_start ts a.w a.table.now a.from c.requires.0 c.requires.1 a.c c.requires.2).0, (sought 1000 datapoint_id datapoint_ok a.table.now c.requires.0).0)

pub slice_bounds-d-items-count : goal.slice_bounds-d-items-count
slice_bounds-d-items-count c =
    let a = c.args in
    let ts = text_lists a.texts.site.now a.texts.defaults.now in
    (from_start ts a.w a.table.now a.from c.requires.0 c.requires.1 a.c c.requires.2).0

pub slice_bounds-d-items-start : goal.slice_bounds-d-items-start
slice_bounds-d-items-start c =
    let a = c.args in
    let ts = text_lists a.texts.site.now a.texts.defaults.now in
    (from_start ts a.w a.table.now a.from c.requires.0 c.requires.1 a.c c.requires.2).0

pub loop-d-init : goal.loop-d-init
loop-d-init c =
    let a = c.args in
    let ts = text_lists a.texts.site.now a.texts.defaults.now in
    found_begins ts a.w a.table.now a.from c.requires.0 c.requires.1 a.c c.requires.2 c.new-found.result c.new-found.ensures.0 c.new-found.ensures.1

pub cursors_at-cursors-requires : goal.cursors_at-cursors-requires
cursors_at-cursors-requires c =
    let a = c.args in
    let ts = text_lists a.texts.site.now a.texts.defaults.now in
    reached ts a.table.now a.from c.loop-d.d-index c.loop-d.invariant.follows c.loop-d-test.true blank_datapoint

pub with_entry-requires : goal.with_entry-requires
with_entry-requires c =
    let a = c.args in
    let h = text_small a.texts.site a.texts.defaults c.text_of.result _ c.text_of.ensures in
    (c.loop-d.invariant.measured.few, omega (arith, h))

pub returns-in_err-found : goal.returns-in_err-found
returns-in_err-found c =
    let a = c.args in
    let s = c.in_err-found.field-0.0 in
    let p = err_from_is_err_and c.from_residual.result c.from_residual.ensures.1 in
    let f = MatchResult-at_err _ _ s c.in_err-found.was (with_found _ _ _ c.loop-d.found c.with_entry.result c.map_err.result c.with_entry.ensures c.map_err.ensures.cases (λ f s k. (search rules, search rules, search rules))) in
    rw (p.1, p.2)
    (found_over_room c.loop-d.invariant c.loop-d-test.true blank_datapoint (sym c.is_behind.ensures ∙ c.if-is_behind.false) _ (string_size a.texts.site a.texts.defaults c.text_of.result _ c.text_of.ensures)
    c.requires.0 c.requires.1 f.2.0 f.0 f.2.1 s f.1)

pub loop-d-preserved : goal.loop-d-preserved
loop-d-preserved c =
    let a = c.args in
    let x = c.in_ok-found.found in
    let f = MatchResult-at_ok _ _ x c.in_ok-found.was (with_found _ _ _ c.loop-d.found c.with_entry.result c.map_err.result c.with_entry.ensures c.map_err.ensures.cases (λ f s k. (search rules, search rules, search rules))) in
    found_goes c.loop-d.invariant c.loop-d-test.true blank_datapoint (sym c.is_behind.ensures ∙ c.if-is_behind.false) _ (string_size a.texts.site a.texts.defaults c.text_of.result _ c.text_of.ensures)
    (omega arith) x f.0 f.1 _ c.cursors_at-cursors.ensures

pub returns : goal.returns
returns c =
    let e = c.loop-d.found in
    let r = c.map_err-2.result in
    judged c.args.w.start _ e
    (elim c.loop-d-test.branch [
      | else-loop-d-test w ↦ comes_end c.loop-d.invariant.measured w.loop-d-test.false
      | then-loop-d-test+then-is_behind w ↦ found_behind c.loop-d.invariant w.loop-d-test.true blank_datapoint (sym w.is_behind.ensures ∙ w.if-is_behind.true)
    ])
    r (with_found _ _ _ e c.unless_none.result r c.unless_none.ensures c.map_err-2.ensures.cases (λ f s k. (search rules, search rules, search rules)))
