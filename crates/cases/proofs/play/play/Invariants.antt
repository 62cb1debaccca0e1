use Rattle.std.proofs.Common.{length}
use Rattle.cases.specs.View.{bench_of, stand_of}
use Rattle.cases.proofs.ScriptLaws.{Playing}
use Rattle.cases.proofs.play.play.Given as goal

abbrev pub invariant-loop-rest : goal.invariant-loop-rest
invariant-loop-rest l = Playing l.script (bench_of l.wanted) (stand_of l.stand) l.right l.rest

abbrev pub decreases-loop-rest : goal.decreases-loop-rest
decreases-loop-rest l = length l.rest
