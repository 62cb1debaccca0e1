use Rattle.cases.specs.View.{bench_of, place_of}
use Rattle.cases.proofs.RunLaws.{Feeding}
use Rattle.cases.proofs.run.Stand.hear.Given as goal

abbrev pub invariant-loop-i : goal.invariant-loop-i
invariant-loop-i l = Feeding l.bytes (bench_of l.initial.self.bench) (bench_of l.self.bench) l.before l.quiet (place_of l.place) l.i
