use Rattle.std.proofs.Common.{◌≡◌, ◌+◌, ◌-◌, arith}
use Rattle.ft12.proofs.EventLaws.{taken_none, taken_long, taken_waits, taken_framed}
use Rattle.link.proofs.events.take_message.Goals as goal
use Rattle.link.proofs.events.take_message.Goals.{then-n-eq0-via-then-n-eq0, then-n-eq0-via-else-n-eq0+then-n-gt-LONGEST_MESSAGE, then-n-eq0-via-else-n-eq0+else-n-gt-LONGEST_MESSAGE+then-link-ne0}

pub returns-then-n-eq0 : goal.returns-then-n-eq0
returns-then-n-eq0 c =
    elim c.then-n-eq0.branch [
      | then-n-eq0-via-then-n-eq0 w ↦ taken_none _ _ _ _ c.requires.0 c.requires.1 c.requires.2 (omega arith)
      | then-n-eq0-via-else-n-eq0+then-n-gt-LONGEST_MESSAGE w ↦ taken_long _ _ _ _ c.requires.0 c.requires.1 c.requires.2 (omega arith)
      | then-n-eq0-via-else-n-eq0+else-n-gt-LONGEST_MESSAGE+then-link-ne0 w ↦ taken_waits _ _ _ _ c.requires.0 c.requires.1 c.requires.2 (λ e. omega (arith, e))
    ]

pub returns : goal.returns
returns c =
    let a = c.args in
    let e : a.at + (a.n + 7) - a.at ≡ a.n + 7 = omega arith in
    taken_framed _ _ _ _ c.requires.0 c.requires.1 c.requires.2 _ _ _ (λ z. omega (arith, z)) (omega arith) c.if-link-ne0.false c.server_control-control.ensures c.frame_in_place.ensures
    (rw e at c.put_bytes.ensures)
