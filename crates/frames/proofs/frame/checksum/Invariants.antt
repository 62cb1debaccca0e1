-- The loop: the sum is the checksum of the bytes passed.
use Rattle.std.proofs.Common.{◌≡◌, take}
use Rattle.ft12.specs.Frame.{checksum}
use Rattle.frames.proofs.frame.checksum.Given as goal

abbrev pub invariant-loop-byte : goal.invariant-loop-byte
invariant-loop-byte l = l.sum ≡ checksum (take l.byte-index l.s)
