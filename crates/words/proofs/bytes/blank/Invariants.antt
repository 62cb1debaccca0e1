-- The loop: the first bytes are 0, the others as they were.
use Rattle.std.proofs.Common.{◌≡◌, ◌++◌, drop, replicate}
use Rattle.words.proofs.bytes.blank.Given as goal

abbrev pub invariant-loop-byte : goal.invariant-loop-byte
invariant-loop-byte l = l.byte-items ≡ replicate l.byte-index 0 ++ drop l.byte-index l.initial.byte-items
