-- Two searches, four records a turn and then one: no record that was passed is marked.
use Rattle.std.proofs.Common.{◌-◌, ◌≤◌, length}
use Rattle.baos.proofs.MarkLaws.{SearchedTo}
use Rattle.indications.proofs.indication.first_marked.Given as goal

abbrev pub invariant-loop-i : goal.invariant-loop-i
invariant-loop-i l = (l.i ≤ length l.table) × SearchedTo l.table l.i

abbrev pub decreases-loop-i : goal.decreases-loop-i
decreases-loop-i l = l.n - l.i

abbrev pub invariant-loop-j : goal.invariant-loop-j
invariant-loop-j l = (l.j ≤ length l.table) × SearchedTo l.table l.j
