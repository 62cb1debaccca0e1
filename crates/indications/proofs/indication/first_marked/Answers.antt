-- Each record that is looked at is marked, and the search ends there, or it is passed.
use Rattle.std.proofs.Common.{◌≡◌, ◌∙◌, ◌+◌, length, arith}
use Rattle.baos.proofs.MarkLaws.{SearchedTo, searched_all}
use Rattle.indications.proofs.SearchLaws.{found, passed}
use Rattle.indications.proofs.indication.first_marked.Goals as goal

pub returns-then-table-i-eq1 : goal.returns-then-table-i-eq1
returns-then-table-i-eq1 c = found c.args.table.now _ _ (omega arith) c.if-table-i-eq1.true c.loop-i.invariant.1

pub returns-then-table-i-eq1-2 : goal.returns-then-table-i-eq1-2
returns-then-table-i-eq1-2 c =
    let ys = c.args.table.now in
    let i = c.loop-i.i in
    let p : SearchedTo ys (i + 1) = passed ys _ i (omega arith) c.if-table-i-eq1.false _ (omega arith) c.loop-i.invariant.1 in
    found ys _ _ (omega arith) c.if-table-i-eq1-2.true p

pub returns-then-table-i-eq1-3 : goal.returns-then-table-i-eq1-3
returns-then-table-i-eq1-3 c =
    let ys = c.args.table.now in
    let i = c.loop-i.i in
    let p : SearchedTo ys (i + 1) = passed ys _ i (omega arith) c.if-table-i-eq1.false _ (omega arith) c.loop-i.invariant.1 in
    let p : SearchedTo ys (i + 2) = passed ys _ (i + 1) (omega arith) c.if-table-i-eq1-2.false _ (omega arith) p in
    found ys _ _ (omega arith) c.if-table-i-eq1-3.true p

pub returns-then-table-i-eq1-4 : goal.returns-then-table-i-eq1-4
returns-then-table-i-eq1-4 c =
    let ys = c.args.table.now in
    let i = c.loop-i.i in
    let p : SearchedTo ys (i + 1) = passed ys _ i (omega arith) c.if-table-i-eq1.false _ (omega arith) c.loop-i.invariant.1 in
    let p : SearchedTo ys (i + 2) = passed ys _ (i + 1) (omega arith) c.if-table-i-eq1-2.false _ (omega arith) p in
    let p : SearchedTo ys (i + 3) = passed ys _ (i + 2) (omega arith) c.if-table-i-eq1-3.false _ (omega arith) p in
    found ys _ _ (omega arith) c.if-table-i-eq1-4.true p

pub loop-i-preserved : goal.loop-i-preserved
loop-i-preserved c =
    let ys = c.args.table.now in
    let i = c.loop-i.i in
    let p : SearchedTo ys (i + 1) = passed ys _ i (omega arith) c.if-table-i-eq1.false _ (omega arith) c.loop-i.invariant.1 in
    let p : SearchedTo ys (i + 2) = passed ys _ (i + 1) (omega arith) c.if-table-i-eq1-2.false _ (omega arith) p in
    let p : SearchedTo ys (i + 3) = passed ys _ (i + 2) (omega arith) c.if-table-i-eq1-3.false _ (omega arith) p in
    (omega arith, passed ys _ (i + 3) (omega arith) c.if-table-i-eq1-4.false _ (omega arith) p)

pub returns-then-table-j-eq1 : goal.returns-then-table-j-eq1
returns-then-table-j-eq1 c = found c.args.table.now _ _ (omega arith) c.if-table-j-eq1.true c.loop-j.invariant.1

pub loop-j-preserved : goal.loop-j-preserved
loop-j-preserved c = (omega arith, passed c.args.table.now _ c.loop-j.j (omega arith) c.if-table-j-eq1.false _ (omega arith) c.loop-j.invariant.1)

pub returns : goal.returns
returns c =
    let e : length c.args.table.now ≡ c.loop-j.j = omega arith in
    e ∙ searched_all c.args.table.now _ (omega arith) c.loop-j.invariant.1
