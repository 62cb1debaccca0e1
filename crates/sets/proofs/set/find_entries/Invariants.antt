-- The first k entries are found, and those from byte `at` on are left.
use Rattle.sets.proofs.Loops.{Seeking}
use Rattle.sets.proofs.set.find_entries.Given as goal

abbrev pub invariant-loop-k : goal.invariant-loop-k
invariant-loop-k g l = let t = g.T.Settable in Seeking g.T.Record.id_of t.first t.HEAD l.m l.table l.n l.k l.at l.places
