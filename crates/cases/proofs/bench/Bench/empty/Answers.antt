use Rattle.std.proofs.Common.{refl}
use Rattle.cases.specs.Bench.{empty_bench, idle_link, no_line}
use Rattle.cases.proofs.bench.Bench.empty.Goals as goal

pub returns : goal.returns
unfolding empty_bench idle_link no_line
returns c = rw (c.new.ensures, c.new-2.ensures, c.new-3.ensures, c.empty.ensures, c.empty-2.ensures, c.empty-3.ensures) refl
