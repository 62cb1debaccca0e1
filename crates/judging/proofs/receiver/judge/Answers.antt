use Rattle.std.proofs.Common.{◌∷◌, ◌∙◌, sym, ap, arith}
use Rattle.words.proofs.WordLaws.{rest_whole}
use Rattle.ft12.specs.Receiver.{judged_data}
use Rattle.ft12.proofs.JudgedLaws.{judged_data_lem, data_behind}
use Rattle.judging.proofs.receiver.judge.Goals as goal

pub returns-in-len1-up : goal.returns-in-len1-up
returns-in-len1-up c =
    let g = c.args.g.now in
    let b = c.args.b in
    c.judge_data.ensures
    ∙ ap (λ rest. judged_data (0x68 ∷ rest) b) (rest_whole 1 g)
    ∙ data_behind g b (omega arith)
    ∙ sym (judged_data_lem g b (omega arith) (omega arith))
