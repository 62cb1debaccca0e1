use Rattle.script.proofs.LineLaws.{Reading}
use Rattle.script.proofs.line.Line.read.Given as goal

abbrev pub invariant-loop-k : goal.invariant-loop-k
invariant-loop-k l = Reading l.text l.bytes l.k
