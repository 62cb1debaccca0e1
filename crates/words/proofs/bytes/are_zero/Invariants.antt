-- The loop: the bytes passed are 0, by runs of 32.
use Rattle.std.proofs.Common.{◌≡◌}
use Rattle.std.specs.Slice.Iter.{chunks_exact_rest, chunks_exact_size}
use Rattle.words.proofs.ByteLaws.{ZeroUpTo}
use Rattle.words.proofs.bytes.are_zero.Given as goal

abbrev pub invariant-loop-run : goal.invariant-loop-run
invariant-loop-run l =
    (goal.iterator-loop-run).can_next l.run-iterator
    × (goal.iterator-loop-run).is_finite l.run-iterator
    × (chunks_exact_size l.run-iterator ≡ 32)
    × ZeroUpTo l.s (chunks_exact_rest l.run-iterator)
