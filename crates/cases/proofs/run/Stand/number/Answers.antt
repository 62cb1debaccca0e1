use Rattle.std.proofs.Common.{refl}
use Rattle.cases.specs.Script.{numbered}
use Rattle.cases.proofs.run.Stand.number.Goals as goal

pub returns : goal.returns
unfolding numbered
returns c = rw (c.happens.ensures, c.event_numbered-event.ensures, c.raised-id.ensures, c.byte.ensures, c.byte-2.ensures, c.byte-3.ensures, c.byte-4.ensures, c.byte-5.ensures) refl
