-- The loop: what is left to test.
use Rattle.std.proofs.Common.{length}
use Rattle.texts.proofs.ListLaws.{LeftToTest}
use Rattle.texts.proofs.text_list.text_list_ok.Given as goal

abbrev pub invariant-loop-rest : goal.invariant-loop-rest
invariant-loop-rest l = LeftToTest l.list l.rest l.least

abbrev pub decreases-loop-rest : goal.decreases-loop-rest
decreases-loop-rest l = length l.rest
