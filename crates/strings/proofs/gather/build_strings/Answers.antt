-- The laws of the second pass, in PassSteps: its start, the turn that ends it, one that puts a string, and its end.
use Rattle.std.proofs.Common.{sym, ◌∙◌, arith}
use Rattle.baos.specs.Text.{text_lists}
use Rattle.baos.proofs.AnswerJoins.{sought}
use Rattle.baos.specs.Datapoint.{datapoint_id, datapoint_ok}
use Rattle.strings.proofs.PassSteps.{blank_datapoint, from_start, stands_begins, stops, reached, follows_next, room, goes, ends, text_small, string_size}
use Rattle.baos.specs.Get.{string_of}
use Rattle.baos.proofs.StringLaws.{handed_text}
use Rattle.strings.proofs.gather.build_strings.Goals as goal

pub offset_bounds-table-from : goal.offset_bounds-table-from
offset_bounds-table-from c =
    let a = c.args in
    let ts = text_lists a.texts.site.now a.texts.defaults.now in
    omega (arith, (from_start ts a.w a.table.now a.from c.requires.0 c.requires.1 a.c c.requires.2).0, (sought 1000 datapoint_id datapoint_ok a.table.now c.requires.0).0)

pub slice_bounds-d-items-count : goal.slice_bounds-d-items-count
slice_bounds-d-items-count c =
    let a = c.args in
    let ts = text_lists a.texts.site.now a.texts.defaults.now in
    (from_start ts a.w a.table.now a.from c.requires.0 c.requires.1 a.c c.requires.2).0

pub slice_bounds-d-items-start : goal.slice_bounds-d-items-start
slice_bounds-d-items-start c =
    let a = c.args in
    let ts = text_lists a.texts.site.now a.texts.defaults.now in
    (from_start ts a.w a.table.now a.from c.requires.0 c.requires.1 a.c c.requires.2).0

pub loop-d-init : goal.loop-d-init
loop-d-init c =
    let a = c.args in
    let ts = text_lists a.texts.site.now a.texts.defaults.now in
    stands_begins ts a.w a.table.now a.from a.out.now a.at c.requires.0 c.requires.1 a.c c.requires.2 c.requires.3

pub returns-then-is_behind : goal.returns-then-is_behind
returns-then-is_behind c = stops c.loop-d.invariant blank_datapoint c.loop-d-test.true (sym c.is_behind.ensures ∙ c.if-is_behind.true)

pub cursors_at-cursors-requires : goal.cursors_at-cursors-requires
cursors_at-cursors-requires c =
    let a = c.args in
    let ts = text_lists a.texts.site.now a.texts.defaults.now in
    reached ts a.table.now a.from c.loop-d.d-index c.loop-d.invariant.follows c.loop-d-test.true blank_datapoint

pub put_string-end-requires : goal.put_string-end-requires
put_string-end-requires c =
    let a = c.args in
    let t = c.text_of.result in
    let h = room c.loop-d.invariant blank_datapoint c.loop-d-test.true (sym c.is_behind.ensures ∙ c.if-is_behind.false) in
    (text_small a.texts.site a.texts.defaults t _ c.text_of.ensures, omega (arith, h, string_size a.texts.site a.texts.defaults t _ c.text_of.ensures))

pub loop-d-preserved : goal.loop-d-preserved
unfolding string_of
loop-d-preserved c =
    let a = c.args in
    let ts = text_lists a.texts.site.now a.texts.defaults.now in
    goes c.loop-d.invariant blank_datapoint c.loop-d-test.true (sym c.is_behind.ensures ∙ c.if-is_behind.false) _
    (follows_next ts a.table.now a.from c.loop-d.d-index c.loop-d.invariant.follows c.loop-d-test.true blank_datapoint _ c.cursors_at-cursors.ensures) _ _
    (rw (handed_text _ a.texts.site a.texts.defaults c.text_of.result c.text_of.ensures) at c.put_string-end.ensures)

pub returns : goal.returns
returns c = ends c.loop-d.invariant blank_datapoint c.loop-d-test.false
