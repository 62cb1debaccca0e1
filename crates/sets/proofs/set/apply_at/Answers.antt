-- The record at `index` is changed as the entry says; where no record is, none has its ID.
use Rattle.std.proofs.Common.{drop, ◌∙◌, ap, set}
use Rattle.sets.proofs.Loops.{applied_there, applied_nowhere}
use Rattle.sets.proofs.set.apply_at.Goals as goal

pub returns-then-index-table : goal.returns-then-index-table
returns-then-index-table g c =
    let t = g.T.Settable in
    let a = c.args in
    ap (set a.table.now a.index) c.apply.ensures
    ∙ applied_there g.T.Record.id_of (t.first (drop a.at a.m.now)) a.table.now c.requires.0 a.index c.requires.3 c.index-table-index.result c.index-table-index.is c.if-index-table.true t.changed

pub returns-else-index-table : goal.returns-else-index-table
returns-else-index-table g c =
    let t = g.T.Settable in
    let a = c.args in
    applied_nowhere g.T.Record.id_of (t.first (drop a.at a.m.now)) a.table.now c.requires.0 a.index c.requires.3 c.if-index-table.false t.changed
