use Rattle.cases.proofs.ScriptLaws.{mark_quiet}
use Rattle.cases.proofs.run.Stand.mark.Goals as goal

pub returns : goal.returns
returns c = mark_quiet _ _ _ c.happens.ensures c.is_quiet-self.ensures
