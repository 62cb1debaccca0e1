use Rattle.std.proofs.Common.{ap, ℕ, sym}
use Rattle.baos.specs.Message.{coded, answer_of, finding_of}
use Rattle.baos.proofs.WrittenLaws.{written_as}
use Rattle.sets.proofs.set.put_answer.Goals as goal

pub returns-in-Ok : goal.returns-in-Ok
unfolding answer_of finding_of
returns-in-Ok c = rw c.in-Ok.is (written_as c.args.out.now c.args.at c.put_coded.ensures (ap (λ (i : ℕ). coded c.args.request.message.now i 0) (sym c.start_of.ensures)))

pub returns-in-Err : goal.returns-in-Err
unfolding answer_of finding_of
returns-in-Err c = rw c.in-Err.is c.put_fault.ensures
