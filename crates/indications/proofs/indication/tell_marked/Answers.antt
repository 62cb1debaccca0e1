-- What the pass keeps of a record that is passed over, of one that is carried, and of one that does not fit.
use Rattle.std.proofs.Common.{sym, ◌∙◌, ap, set, arith}
use Rattle.baos.proofs.IndicationLaws.{telling_begins, telling_first, telling_done}
use Rattle.indications.proofs.PassSteps.{code_ok, stops, room_left, goes_over, carries}
use Rattle.indications.proofs.indication.tell_marked.Goals as goal
use Rattle.indications.proofs.indication.tell_marked.Goals.{then-table-i-eq1+else-waits, else-table-i-eq1}

pub loop-i-init : goal.loop-i-init
loop-i-init c =
    let a = c.args in
    rw c.first_marked-i.ensures (telling_first a.table.now a.out.now a.at a.at 0 a.table.now a.out.now (telling_begins a.table.now a.out.now a.at c.requires.0 c.requires.1))

pub waits-requires : goal.waits-requires
waits-requires c = (code_ok c.loop-i.invariant (omega arith) _, omega arith)

pub returns-then-waits : goal.returns-then-waits
returns-then-waits c = stops c.loop-i.invariant (omega arith) _ c.if-table-i-eq1.true (sym c.waits.ensures ∙ c.if-waits.true)

pub put_value-end-requires : goal.put_value-end-requires
put_value-end-requires c =
    let p = c.loop-i.invariant in
    (code_ok p (omega arith) _, room_left p (omega arith) _ c.if-table-i-eq1.true (sym c.waits.ensures ∙ c.if-waits.false))

pub loop-i-preserved : goal.loop-i-preserved
loop-i-preserved c =
    let l = c.loop-i in
    let j = c.if-table-i-eq1 in
    elim j.branch [
      | then-table-i-eq1+else-waits w ↦ rw (w.end-is, w.out-is) (carries l.invariant (omega arith) _ w.if-table-i-eq1.true (sym w.waits.ensures ∙ w.if-waits.false) _ w.put_value-end.result j.count j.table w.put_value-end.new.out (omega arith) w.count-is (w.table-is ∙ ap (set l.table l.i) w.reported.ensures) w.put_value-end.ensures)
      | else-table-i-eq1 w ↦ rw (w.table-is, w.out-is, w.end-is, w.count-is) (goes_over l.invariant (omega arith) _ w.if-table-i-eq1.false _ (omega arith))
    ]

pub returns-after-loop-i : goal.returns-after-loop-i
returns-after-loop-i c =
    let a = c.args in
    let l = c.loop-i in
    telling_done a.table.now a.out.now a.at l.i l.end l.count l.table l.out l.invariant (omega arith)
