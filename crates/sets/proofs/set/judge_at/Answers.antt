-- The record of the ID stands at `index`; where no record is, none has it.
use Rattle.std.proofs.Common.{drop, sym, ◌∙◌}
use Rattle.baos.specs.Message.{code_of, code_number}
use Rattle.sets.proofs.Loops.{judged_there, judged_nowhere}
use Rattle.sets.proofs.set.judge_at.Goals as goal

pub returns-then-index-table : goal.returns-then-index-table
returns-then-index-table g c =
    let t = g.T.Settable in
    let a = c.args in
    c.judge.ensures
    ∙ judged_there g.T.Record.id_of (t.first (drop a.at a.m.now)) a.table.now c.requires.0 a.index c.requires.2 c.index-table-index.result c.index-table-index.is c.if-index-table.true t.judged

pub returns-else-index-table : goal.returns-else-index-table
unfolding code_of code_number
returns-else-index-table g c =
    let t = g.T.Settable in
    let a = c.args in
    let e = t.first (drop a.at a.m.now) in
    sym (g.met.T.Settable.laws.absent e) ∙ judged_nowhere g.T.Record.id_of e a.table.now c.requires.0 a.index c.requires.2 c.if-index-table.false t.judged
