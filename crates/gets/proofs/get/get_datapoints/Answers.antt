-- A law of AskSteps for each exit.
use Rattle.gets.proofs.AskSteps.{datapoints_faulty, datapoints_room, datapoints_size, datapoints_done}
use Rattle.gets.proofs.get.get_datapoints.Goals as goal

pub build_datapoints-requires : goal.build_datapoints-requires
build_datapoints-requires c =
    let l = c.in-Ok.ensures in (
      c.requires.0,
      l.1,
      datapoints_room c.args.values c.args.request.message.now c.args.table.now c.requires.0 c.args.out.now c.args.at c.in-Ok.l.found l.0 l.1 l.2 c.requires.1 c.put_answer_head-end.ensures,
      datapoints_size c.args.values c.args.request.message.now c.args.table.now c.requires.0 c.args.out.now c.args.at c.in-Ok.l.found l.0 l.1 l.2 c.requires.1 c.put_answer_head-end.ensures,
    )

pub returns-in-Ok : goal.returns-in-Ok
returns-in-Ok c =
    let l = c.in-Ok.ensures in
    datapoints_done c.args.values c.args.request.message.now c.args.table.now c.requires.0 c.args.out.now c.args.at c.in-Ok.l.found l.0 l.1 l.2 c.requires.1 c.put_answer_head-end.ensures c.build_datapoints.ensures

pub returns-in-Err : goal.returns-in-Err
returns-in-Err c = datapoints_faulty c.args.values c.args.request.message.now c.args.table.now c.requires.0 c.args.out.now c.args.at c.in-Err.fault c.in-Err.ensures c.put_fault.ensures
