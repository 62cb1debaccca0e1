-- A law of AskSteps for each exit.
use Rattle.gets.proofs.AskSteps.{items_faulty, items_room, items_done}
use Rattle.gets.proofs.get.get_items.Goals as goal

pub build_items-requires : goal.build_items-requires
build_items-requires c =
    let l = c.in-Ok.ensures in
    (c.requires.0, l.1, items_room c.args.request.message.now c.args.table.now c.requires.0 c.args.out.now c.args.at c.in-Ok.l.found l.0 l.1 l.2 c.requires.1 c.put_answer_head-end.ensures)

pub returns-in-Ok : goal.returns-in-Ok
returns-in-Ok c =
    let l = c.in-Ok.ensures in
    items_done c.args.request.message.now c.args.table.now c.requires.0 c.args.out.now c.args.at c.in-Ok.l.found l.0 l.1 l.2 c.requires.1 c.put_answer_head-end.ensures c.build_items.ensures

pub returns-in-Err : goal.returns-in-Err
returns-in-Err c = items_faulty c.args.request.message.now c.args.table.now c.requires.0 c.args.out.now c.args.at c.in-Err.fault c.in-Err.ensures c.put_fault.ensures
