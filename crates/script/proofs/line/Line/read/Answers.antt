use Rattle.std.proofs.Common.{refl, arith}
use Rattle.script.proofs.LineLaws.{reading_begins, reading_goes, reading_ends}
use Rattle.script.proofs.line.Line.read.Goals as goal

pub loop-k-init : goal.loop-k-init
loop-k-init c = reading_begins _

pub loop-k-preserved : goal.loop-k-preserved
loop-k-preserved c =
    reading_goes _ _ c.loop-k.k _ (rw (c.digit.ensures, c.digit-in-loop-k.ensures) refl) (omega arith) c.loop-k.invariant

pub returns : goal.returns
returns c = reading_ends _ _ c.loop-k.k _ c.min-size.ensures c.loop-k-test.false (omega arith) c.loop-k.invariant
