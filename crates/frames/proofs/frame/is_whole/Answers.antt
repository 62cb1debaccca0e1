use Rattle.std.proofs.Common.{arith}
use Rattle.std.proofs.lemmas.Bool.Decides.{nat_tests}
use Rattle.frames.proofs.BuildLaws.{whole_short, whole_long, whole_head, whole_sum, whole_end}
use Rattle.frames.proofs.frame.is_whole.Goals as goal

pub returns-then-f-n : goal.returns-then-f-n
returns-then-f-n c = grind (arith, nat_tests, whole_short, whole_long, whole_head, whole_end)

pub returns-else-f-n : goal.returns-else-f-n
returns-else-f-n c = grind (arith, nat_tests, whole_short, whole_long, whole_head, whole_sum)
