-- A law for each answer, those of a whole frame from `frames`.
use Rattle.std.proofs.Common.{arith}
use Rattle.std.proofs.lemmas.Bool.Decides.{nat_tests}
use Rattle.frames.proofs.BuildLaws.{whole_short, whole_sum, whole_end}
use Rattle.bursts.proofs.PieceLaws.{head_other, head_same}
use Rattle.bursts.proofs.piece.is_whole.Goals as goal

pub returns-then-f-n : goal.returns-then-f-n
returns-then-f-n c = grind (arith, nat_tests, whole_short, head_other, head_same, whole_end)

pub returns-else-f-n : goal.returns-else-f-n
returns-else-f-n c = grind (arith, nat_tests, whole_short, head_other, head_same, whole_sum)
