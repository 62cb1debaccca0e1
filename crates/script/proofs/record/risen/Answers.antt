use Rattle.std.proofs.Common.{refl}
use Rattle.script.specs.Record.{risen}
use Rattle.script.proofs.record.risen.Goals as goal

pub returns-then-rises : goal.returns-then-rises
unfolding risen
returns-then-rises c = rw c.if-rises.true refl

pub returns-else-rises : goal.returns-else-rises
unfolding risen
returns-else-rises c = rw c.if-rises.false refl
