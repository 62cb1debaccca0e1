use Rattle.std.proofs.Common.{sym, ◌∙◌, arith}
use Rattle.bursts.proofs.LoopLaws.{ending_of}
use Rattle.bursts.proofs.burst.ending_in.Goals as goal

pub returns-then-is_beginning : goal.returns-then-is_beginning
returns-then-is_beginning c = sym (ending_of _ (omega arith) (omega arith) ∙ simp (sym c.is_beginning.ensures ∙ c.if-is_beginning.true))

pub returns-else-is_beginning : goal.returns-else-is_beginning
returns-else-is_beginning c = sym (ending_of _ (omega arith) (omega arith) ∙ simp (sym c.is_beginning.ensures ∙ c.if-is_beginning.false))
