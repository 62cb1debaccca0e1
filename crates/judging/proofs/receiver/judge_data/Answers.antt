use Rattle.std.proofs.Common.{◌∷◌, ◌∙◌, sym, ap, arith}
use Rattle.words.proofs.WordLaws.{rest_whole}
use Rattle.ft12.specs.Frame.{checksum}
use Rattle.ft12.specs.Receiver.{only}
use Rattle.ft12.proofs.JudgedLaws.{data_counted}
use Rattle.judging.proofs.receiver.judge_data.Goals as goal

pub returns-then-counted-end-2 : goal.returns-then-counted-end-2
returns-then-counted-end-2 c =
    let g = c.args.g.now in
    c.only-then-counted-end-2.ensures
    ∙ ap (λ x. only x c.args.b) (c.checksum.ensures ∙ ap checksum (rest_whole 3 g))
    ∙ sym (data_counted (0x68 ∷ g) c.args.b (omega arith) (omega arith))
