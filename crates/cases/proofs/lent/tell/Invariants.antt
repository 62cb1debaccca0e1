use Rattle.std.proofs.Common.{◌≡◌}
use Rattle.script.specs.View.{line_of}
use Rattle.cases.specs.Lent.{filled}
use Rattle.cases.specs.View.{bench_of}
use Rattle.cases.proofs.lent.tell.Given as goal

abbrev pub invariant-loop-k : goal.invariant-loop-k
invariant-loop-k l = bench_of l.wanted ≡ filled (line_of l.line).bytes l.k (bench_of l.initial.wanted)
