use Rattle.std.proofs.Common.{◌≡◌, ℕ, ◌+◌, ◌<◌, length, get_or}
use Rattle.script.specs.View.{line_of}
use Rattle.script.proofs.line.Line.array.Given as goal

abbrev pub invariant-loop-k : goal.invariant-loop-k
invariant-loop-k g l = (length l.byte-items ≡ g.row.N) × ((j : ℕ) → j < l.k → get_or l.byte-items j 0 ≡ get_or (line_of l.self).bytes (l.from + j) 0)
