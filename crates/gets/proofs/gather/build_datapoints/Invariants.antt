-- The datapoints before `i` are done, and those from there on are as they were.
use Rattle.gets.proofs.PassSteps.{Stands}
use Rattle.gets.proofs.gather.build_datapoints.Given as goal

abbrev pub invariant-loop-i : goal.invariant-loop-i
invariant-loop-i l = Stands l.w l.from l.fn.table l.fn.out l.at l.i l.end l.table l.out
