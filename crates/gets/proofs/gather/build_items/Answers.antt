-- The laws of the second pass: what is known of the item at hand, a turn that puts an entry, and each end.
use Rattle.std.proofs.Common.{sym, ◌∙◌, add_assoc, arith}
use Rattle.baos.specs.Item.{item_id, item_ok, zero_item}
use Rattle.baos.proofs.AnswerJoins.{sought}
use Rattle.baos.proofs.PlaceLaws.{at_place}
use Rattle.gets.proofs.MeasureSteps.{part_reads, part_size}
use Rattle.gets.proofs.PassSteps.{blank_item, items_begin, items_end, item_stops, item_room, item_goes}
use Rattle.gets.proofs.gather.build_items.Goals as goal

pub offset_bounds-table-from : goal.offset_bounds-table-from
offset_bounds-table-from c =
    let a = c.args in
    omega (arith, (at_place item_id zero_item a.w.start item_ok 64 a.table.now a.from c.requires.0 c.requires.1).0, (sought 64 item_id item_ok a.table.now c.requires.0).0)

pub slice_bounds-item-items-count : goal.slice_bounds-item-items-count
slice_bounds-item-items-count c = let a = c.args in (at_place item_id zero_item a.w.start item_ok 64 a.table.now a.from c.requires.0 c.requires.1).0

pub slice_bounds-item-items-start : goal.slice_bounds-item-items-start
slice_bounds-item-items-start c = let a = c.args in (at_place item_id zero_item a.w.start item_ok 64 a.table.now a.from c.requires.0 c.requires.1).0

pub loop-item-init : goal.loop-item-init
loop-item-init c = let a = c.args in items_begin a.w a.from a.table.now a.out.now a.at c.requires.0 c.requires.1 c.requires.2

pub returns-then-is_behind : goal.returns-then-is_behind
returns-then-is_behind c =
    let a = c.args in
    item_stops c.loop-item.invariant blank_item (omega (arith, c.loop-item-test.true, part_size a.table.now a.from))
    (rw (part_reads a.table.now a.from c.loop-item.item-index blank_item) at (sym c.is_behind.ensures ∙ c.if-is_behind.true))

pub put_item-end-requires : goal.put_item-end-requires
put_item-end-requires c =
    let a = c.args in
    let e = part_reads a.table.now a.from c.loop-item.item-index blank_item in
    rw e (item_room c.loop-item.invariant blank_item (omega (arith, c.loop-item-test.true, part_size a.table.now a.from)) (rw e at (sym c.is_behind.ensures ∙ c.if-is_behind.false)))

pub loop-item-preserved : goal.loop-item-preserved
loop-item-preserved c =
    let a = c.args in
    let p = c.put_item-end.ensures in
    let e = part_reads a.table.now a.from c.loop-item.item-index blank_item in
    rw (p.ends, p.buffer, e, ← add_assoc a.from c.loop-item.item-index 1) (item_goes c.loop-item.invariant blank_item (omega (arith, c.loop-item-test.true, part_size a.table.now a.from)) (rw e at (sym c.is_behind.ensures ∙ c.if-is_behind.false)))

pub returns : goal.returns
returns c = items_end c.loop-item.invariant zero_item (omega (arith, c.loop-item-test.false, part_size c.args.table.now c.args.from))
