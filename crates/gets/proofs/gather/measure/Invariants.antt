-- The records before this one are measured.
use Rattle.gets.proofs.MeasureSteps.{MeasuredTo}
use Rattle.gets.proofs.gather.measure.Given as goal

abbrev pub invariant-loop-record : goal.invariant-loop-record
invariant-loop-record g l = MeasuredTo g.R.Listed.most g.R.Record.id_of g.R.Record.ok g.R.Listed.is_wanted g.R.Listed.entry l.w l.table l.from l.record-index l.found
