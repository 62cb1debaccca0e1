-- The numbers of what `read_burst` answers, by which it promises.
use Rattle.std.proofs.Common.{ap, ◌∙◌}
use Rattle.ft12.specs.Burst.{burst_numbers}
use Rattle.ft12.proofs.BurstLaws.{by_number}
use Rattle.tagobrelin.proofs.exported.tagobrelin_read_burst.Goals as goal

pub returns : goal.returns
returns c =
    let l = c.read_burst.ensures.leaves in
    let same = by_number c.read_burst.result c.map_err.result c.map_err.ensures.cases in
    record { numbers = c.burst_numbers.ensures ∙ ap burst_numbers same ∙ l.reply; run = l.run }
