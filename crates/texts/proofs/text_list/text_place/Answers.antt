use Rattle.std.proofs.Common.{arith}
use Rattle.baos.proofs.TextListLaws.{search_begins, search_ends, search_entry, search_stops, search_next}
use Rattle.texts.proofs.text_list.text_place.Goals as goal

pub loop-place-init : goal.loop-place-init
loop-place-init c =
    let a = c.args in
    search_begins a.id a.at a.list.now c.requires.0 c.requires.1

pub id_at-requires : goal.id_at-requires
id_at-requires c = omega (arith, (search_entry c.args.id c.loop-place.place c.args.list.now c.loop-place.invariant (omega arith)).whole)

pub returns-else-id_at-id : goal.returns-else-id_at-id
returns-else-id_at-id c = search_stops c.args.id c.loop-place.place c.args.list.now c.loop-place.invariant (omega arith) (omega (arith, c.id_at.ensures))

pub bounds-list-place : goal.bounds-list-place
bounds-list-place c = omega (arith, (search_entry c.args.id c.loop-place.place c.args.list.now c.loop-place.invariant (omega arith)).whole)

pub loop-place-preserved : goal.loop-place-preserved
loop-place-preserved c = search_next c.args.id c.loop-place.place c.args.list.now c.loop-place.invariant (omega arith) (omega (arith, c.id_at.ensures))

pub returns-after-loop-place : goal.returns-after-loop-place
returns-after-loop-place c = search_ends c.args.id c.loop-place.place c.args.list.now c.loop-place.invariant (omega arith)
