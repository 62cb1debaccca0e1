use Rattle.std.proofs.Common.{rules, arith}
use Rattle.std.proofs.lemmas.Slice.Eq.{slice_eq-Decides}
use Rattle.cases.proofs.SameLaws.{refuted}
use Rattle.cases.proofs.RunLaws.{sends_decided}
use Rattle.cases.proofs.run.Stand.has_sent.Goals as goal

pub returns-in-Some : goal.returns-in-Some
returns-in-Some c = sends_decided _ _ _ c.in-Some.ensures.0 c.in-Some.ensures.1 (slice_eq-Decides (λ x y. search rules) _ _ _ c.eq.ensures)

pub returns-in-None : goal.returns-in-None
returns-in-None c = refuted (λ q. let w = q.within in omega (arith, w, c.in-None.ensures))
