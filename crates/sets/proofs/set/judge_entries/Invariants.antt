-- The first k entries are fine, and what is wrong with the request is wrong with those that are left.
use Rattle.baos.specs.Table.{found}
use Rattle.sets.proofs.Loops.{Judging}
use Rattle.sets.proofs.set.judge_entries.Given as goal

abbrev pub invariant-loop-k : goal.invariant-loop-k
invariant-loop-k g l = let t = g.T.Settable in Judging (λ e. t.judged (found g.T.Record.id_of e.id l.table) e) t.first t.HEAD l.m l.n l.k l.at
