-- Both numbers fit 32 bits: a refusal is a byte, and what is required of the count.
use Rattle.std.proofs.Common.{ap, arith}
use Rattle.calls.specs.Reply.{reply_by}
use Rattle.calls.specs.Numbers.{reply_number}
use Rattle.calls.proofs.NumberLaws.{is_minus, fits_plus, is_plus, count_small}
use Rattle.numbers.proofs.numbers.reply_number.Goals as goal

pub overflow_cast-result : goal.overflow_cast-result
overflow_cast-result c = fits_plus _ (count_small _ _ (ap reply_by c.in-Ok.is) c.requires)

pub returns-in-Ok : goal.returns-in-Ok
unfolding reply_number
returns-in-Ok c = rw c.in-Ok.is (is_plus _ (count_small _ _ (ap reply_by c.in-Ok.is) c.requires))

pub returns-in-Err : goal.returns-in-Err
unfolding reply_number
returns-in-Err c = rw c.in-Err.is (is_minus c.in-Err.number (omega arith))
