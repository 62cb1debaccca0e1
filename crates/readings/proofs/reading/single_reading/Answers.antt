-- The bits of the exponent are all set, or the bits are those of a finite number.
use Rattle.std.proofs.Common.{sym, arith}
use Rattle.dpt.specs.Single.{single}
use Rattle.dpt.proofs.ReadingLaws.{not_finite, finite, is_number}
use Rattle.readings.proofs.reading.single_reading.Goals as goal

pub returns-then-bits-ge2139095040 : goal.returns-then-bits-ge2139095040
returns-then-bits-ge2139095040 c = let t = c.if-bits-ge2139095040.true in sym (not_finite _ (omega (arith, t)))

pub float_from_bits-result : goal.float_from_bits-result
float_from_bits-result c = is_number c.args.bits (omega arith)

pub returns-else-bits-ge2139095040 : goal.returns-else-bits-ge2139095040
unfolding single
returns-else-bits-ge2139095040 c = sym (finite c.args.bits (omega arith))
