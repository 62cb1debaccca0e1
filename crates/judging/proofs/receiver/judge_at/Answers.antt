use mathlib.Core.Path.{sym, ◌∙◌}
use Rattle.ft12.proofs.JudgedLaws.{more_room_take}
use Rattle.judging.proofs.receiver.judge_at.Goals as goal

pub returns : goal.returns
returns c =
    let s = c in
    (c.judge.ensures, λ e. more_room_take s.args.receiver.now s.args.n s.args.b s.requires.0 s.requires.1 (sym c.judge.ensures ∙ e))
