use Rattle.std.proofs.Common.{arith}
use Rattle.cases.proofs.SameLaws.{both, left_to, compared}
use Rattle.cases.proofs.RunLaws.{place_decided, quiet_told}
use Rattle.cases.proofs.run.Stand.is_damaged.Goals as goal

pub returns : goal.returns
returns c =
    left_to
    (both (both (place_decided _ _ _ c.from.ensures (omega (arith, c.ranges.asked)) c.eq.ensures) (compared _ _)) (quiet_told _ c.is_quiet.ensures))
    (λ e. record { found = e.0.0; drops = e.0.1; silent = e.1 })
    (λ q. ((q.found, q.drops), q.silent))
