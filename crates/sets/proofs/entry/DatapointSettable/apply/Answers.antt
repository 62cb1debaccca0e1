use Rattle.std.proofs.Common.{◌∙◌, arith}
use Rattle.baos.proofs.EntriesLaws.{cut_short, set_here, set_other}
use Rattle.sets.proofs.entry.DatapointSettable.apply.Goals as goal

pub returns-then-self-entry_id : goal.returns-then-self-entry_id
returns-then-self-entry_id c = set_other c.args.at c.args.m.now c.args.self (λ q. omega (arith, q))

pub command-requires : goal.command-requires
command-requires c = cut_short c.args.at c.args.m.now c.args.self c.entry_end-end.result (omega arith) c.requires.1

pub returns : goal.returns
returns c = c.command.ensures ∙ set_here c.args.at c.args.m.now c.args.self c.entry_end-end.result (omega arith) (omega arith)
