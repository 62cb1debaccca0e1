-- The loop: what was found so far.
use Rattle.std.proofs.Common.{◌-◌, length}
use Rattle.bursts.proofs.LoopLaws.{SoFar}
use Rattle.bursts.proofs.burst.read_burst.Given as goal

abbrev pub invariant-loop-at : goal.invariant-loop-at
invariant-loop-at l = SoFar l.burst l.initial.starts l.at l.starts l.found l.acknowledgements

abbrev pub decreases-loop-at : goal.decreases-loop-at
decreases-loop-at l = length l.burst - l.at
