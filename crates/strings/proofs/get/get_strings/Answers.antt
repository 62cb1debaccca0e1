-- A law of AskSteps for each exit.
use Rattle.baos.specs.Text.{text_lists}
use Rattle.strings.proofs.AskSteps.{strings_faulty, strings_room, strings_done}
use Rattle.strings.proofs.get.get_strings.Goals as goal

pub build_strings-requires : goal.build_strings-requires
build_strings-requires c =
    let l = c.in-Ok.ensures in (
      c.requires.0,
      l.1,
      l.2,
      strings_room (text_lists c.args.site.now c.args.defaults.now) c.args.request.message.now c.args.table.now c.requires.0 c.args.out.now c.args.at c.in-Ok.l.found l.0 l.1 l.3 c.requires.2 c.put_answer_head-end.ensures,
    )

pub returns-in-Ok : goal.returns-in-Ok
returns-in-Ok c =
    let l = c.in-Ok.ensures in
    strings_done (text_lists c.args.site.now c.args.defaults.now) c.args.request.message.now c.args.table.now c.requires.0 c.args.out.now c.args.at c.in-Ok.l.found l.0 l.1 l.3 c.requires.2 c.put_answer_head-end.ensures c.build_strings.ensures

pub returns-in-Err : goal.returns-in-Err
returns-in-Err c = strings_faulty (text_lists c.args.site.now c.args.defaults.now) c.args.request.message.now c.args.table.now c.requires.0 c.args.out.now c.args.at c.in-Err.fault c.in-Err.ensures c.put_fault.ensures
