-- The pass over the table: the records before i are told.
use Rattle.baos.proofs.IndicationLaws.{Telling}
use Rattle.indications.proofs.indication.tell_marked.Given as goal

abbrev pub invariant-loop-i : goal.invariant-loop-i
invariant-loop-i l = Telling l.initial.table l.initial.out l.at l.i l.end l.count l.table l.out
