use Rattle.std.proofs.Common.{true, ap, ◌∙◌}
use Rattle.cases.specs.Bench.{with_bits}
use Rattle.cases.specs.Run.{Stand}
use Rattle.cases.specs.Script.{standing, started}
use Rattle.cases.proofs.run.Stand.start.Goals as goal

pub returns : goal.returns
unfolding started with_bits
returns c =
    ap (λ (s : Stand). standing (with_bits c.byte-self.result c.byte-self-2.result s.bench) s.quiet s.place) c.new.ensures
    ∙ (λ j. standing (with_bits (c.byte-self.ensures j) (c.byte-self-2.ensures j) (c.copy.ensures j)) true 1000)
