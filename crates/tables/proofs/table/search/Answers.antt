-- A law of the search for each answer, and one for each way through a turn.
use Rattle.std.proofs.Common.{arith}
use Rattle.words.proofs.WordLaws.{true_T}
use Rattle.baos.proofs.PlaceLaws.{rises}
use Rattle.tables.proofs.SearchLaws.{turns_end, middle_behind, middle_before, first_behind, first_before}
use Rattle.tables.proofs.table.search.Goals as goal

pub loop-power-preserved-then-id : goal.loop-power-preserved-then-id
loop-power-preserved-then-id g c =
    let l = c.loop-power in
    middle_behind g.R.Record.id_of c.args.table.now c.args.id l.begun l.power l.rest.now l.invariant (λ b. rises g.R.Record.id_of b 0 c.args.table.now (true_T c.requires.rising))
    l.auto.power c.loop-power-test.true c.index-rest-width.result c.if-begun.true c.index-rest-width.is (omega (arith, c.if-id.true, c.id.ensures))

pub loop-power-preserved-else-id : goal.loop-power-preserved-else-id
loop-power-preserved-else-id g c =
    let l = c.loop-power in
    middle_before g.R.Record.id_of c.args.table.now c.args.id l.begun l.power l.rest.now l.invariant (λ b. rises g.R.Record.id_of b 0 c.args.table.now (true_T c.requires.rising))
    l.auto.power c.loop-power-test.true c.index-rest-width.result c.if-begun.true c.index-rest-width.is (omega (arith, c.if-id.false, c.id.ensures))

pub loop-power-preserved-then-id-2 : goal.loop-power-preserved-then-id-2
loop-power-preserved-then-id-2 g c =
    let l = c.loop-power in
    first_behind g.R.Record.id_of c.args.table.now c.args.id l.begun l.power l.rest.now l.invariant (λ b. rises g.R.Record.id_of b 0 c.args.table.now (true_T c.requires.rising))
    l.auto.power c.loop-power-test.true c.index-rest-first.result c.if-begun.false c.if-width-n.true c.index-rest-first.is (omega (arith, c.if-id-2.true, c.id-then-width-n.ensures))

pub loop-power-preserved-else-id-2 : goal.loop-power-preserved-else-id-2
loop-power-preserved-else-id-2 g c =
    let l = c.loop-power in
    first_before g.R.Record.id_of c.args.table.now c.args.id l.begun l.power l.rest.now l.invariant (λ b. rises g.R.Record.id_of b 0 c.args.table.now (true_T c.requires.rising))
    l.auto.power c.loop-power-test.true c.index-rest-first.result c.if-begun.false c.if-width-n.true c.index-rest-first.is (omega (arith, c.if-id-2.false, c.id-then-width-n.ensures))

pub returns : goal.returns
returns g c = let l = c.loop-power in turns_end g.R.Record.id_of c.args.table.now c.args.id l.begun l.power l.rest.now l.invariant c.requires.some c.loop-power-test.false
