use Rattle.std.proofs.Common.{◌∙◌, arith}
use Rattle.baos.specs.Message.{code_of, code_number}
use Rattle.baos.proofs.EntriesLaws.{item_code_here, item_code_other}
use Rattle.sets.proofs.entry.ItemSettable.judge.Goals as goal

pub returns-then-self-entry_id : goal.returns-then-self-entry_id
unfolding code_of code_number
returns-then-self-entry_id c = item_code_other c.args.at c.args.m.now c.args.self (λ q. omega (arith, q))

pub returns : goal.returns
returns c = c.judge_item.ensures ∙ item_code_here c.args.at c.args.m.now c.args.self c.entry_end-end.result (omega arith) (omega arith)
