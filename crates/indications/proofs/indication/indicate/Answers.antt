-- What the pass says and leaves: the head in front of it, or nothing where nothing was told.
use Rattle.std.proofs.Common.{sym, ◌∙◌, arith}
use Rattle.baos.proofs.IndicationLaws.{indicated_nothing, indicated_all}
use Rattle.indications.proofs.indication.indicate.Goals as goal

pub returns-then-told-eq0 : goal.returns-then-told-eq0
returns-then-told-eq0 c =
    let a = c.args in
    let t = c.tell_marked-told.ensures in
    rw (t.table, t.buffer) (indicated_nothing a.table.now (sym t.counted ∙ c.if-told-eq0.true) a.out.now a.at)

pub returns : goal.returns
returns c =
    let a = c.args in
    let t = c.tell_marked-told.ensures in
    rw (t.ends, c.put_indication_head.ensures, t.table, t.buffer, t.counted) (indicated_all a.table.now (omega (arith, t.counted, c.if-told-eq0.false)) a.out.now a.at c.requires.1)
