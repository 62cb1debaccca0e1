use Rattle.std.proofs.Common.{length}
use Rattle.cases.proofs.cases.Given as goal

abbrev pub decreases-loop-end : goal.decreases-loop-end
decreases-loop-end l = length l.rest
