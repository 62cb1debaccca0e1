-- The entries that are left are applied to the table as it is now: they leave what all of them leave.
use Rattle.std.proofs.Common.{drop}
use Rattle.baos.specs.Set.{set_entries, applied}
use Rattle.sets.proofs.Loops.{Applying}
use Rattle.sets.proofs.set.apply_entries.Given as goal

abbrev pub invariant-loop-k : goal.invariant-loop-k
invariant-loop-k g l =
    let t = g.T.Settable in
    Applying g.T.Record.id_of t.changed t.first t.HEAD t.room l.m l.initial.table (applied g.T.Record.id_of t.changed (set_entries t.first t.HEAD l.n (drop 6 l.m)) l.initial.table) l.n l.k l.at l.table
