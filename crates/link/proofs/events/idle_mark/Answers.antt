use Rattle.ft12.proofs.EventLaws.{place_idle}
use Rattle.link.proofs.events.idle_mark.Goals as goal

pub returns : goal.returns
returns c = place_idle _ _ _ c.requires c.empty.ensures.zeros c.empty.ensures.none
