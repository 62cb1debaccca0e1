use Rattle.std.proofs.Common.{◌∙◌, arith}
use Rattle.baos.proofs.EntriesLaws.{code_at}
use Rattle.sets.proofs.entry.DatapointSettable.judge.Goals as goal

pub returns : goal.returns
returns c =
    let a = c.args in
    c.judge_entry.ensures ∙ code_at a.at a.m.now a.self c.entry_end-end.result c.entry_id.result (omega arith) (omega arith)
