use Rattle.std.proofs.Common.{◌∙◌, arith}
use Rattle.baos.proofs.EntriesLaws.{item_cut_short, item_set_here, item_set_other}
use Rattle.sets.proofs.entry.ItemSettable.apply.Goals as goal

pub returns-then-self-entry_id : goal.returns-then-self-entry_id
returns-then-self-entry_id c = item_set_other c.args.at c.args.m.now c.args.self (λ q. omega (arith, q))

pub with_bytes-requires : goal.with_bytes-requires
with_bytes-requires c = item_cut_short c.args.at c.args.m.now c.args.self c.entry_end-end.result (omega arith) c.requires.1

pub returns : goal.returns
returns c = c.with_bytes.ensures ∙ item_set_here c.args.at c.args.m.now c.args.self c.entry_end-end.result (omega arith) (omega arith)
