use Rattle.std.proofs.Common.{arith}
use Rattle.ft12.proofs.EventLaws.{waited_none, waited_again, waited_over}
use Rattle.link.proofs.events.ack_wait_over.Goals as goal

pub returns-then-n-eq0 : goal.returns-then-n-eq0
returns-then-n-eq0 c = waited_none _ _ c.requires.0 (omega arith)

pub returns-then-link-lt-MOST_RESENDS : goal.returns-then-link-lt-MOST_RESENDS
returns-then-link-lt-MOST_RESENDS c = waited_again _ _ c.requires.0 _ (λ e. omega (arith, e)) (omega arith) c.put_bytes.ensures

pub returns-else-link-lt-MOST_RESENDS : goal.returns-else-link-lt-MOST_RESENDS
returns-else-link-lt-MOST_RESENDS c =
    waited_over _ _ c.requires.0 _ _ _ (λ e. omega (arith, e)) (omega arith) c.put_fixed_frame.ensures c.empty.ensures.zeros c.empty.ensures.none
