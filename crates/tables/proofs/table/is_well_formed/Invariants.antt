-- The loops, four records a turn and then one: the records that are left, behind one with the ID `last`, decide.
use Rattle.std.proofs.Common.{◌≡◌, length, drop}
use Rattle.baos.proofs.RisenLaws.{risen}
use Rattle.tables.proofs.table.is_well_formed.Given as goal

abbrev pub invariant-loop-rest : goal.invariant-loop-rest
invariant-loop-rest g l = let r = g.R.Record in risen r.id_of r.ok l.last l.rest ≡ risen r.id_of r.ok 0 l.table

abbrev pub decreases-loop-rest : goal.decreases-loop-rest
decreases-loop-rest g l = length l.rest

abbrev pub invariant-loop-record : goal.invariant-loop-record
invariant-loop-record g l = let r = g.R.Record in risen r.id_of r.ok l.last (drop l.record-index l.record-items) ≡ risen r.id_of r.ok 0 l.table
