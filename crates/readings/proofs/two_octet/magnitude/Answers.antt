use Rattle.readings.proofs.TwoOctetLaws.{size_negative, size_positive}
use Rattle.readings.proofs.two_octet.magnitude.Goals as goal

pub returns-then-high-ge128 : goal.returns-then-high-ge128
returns-then-high-ge128 c = size_negative c.args.high c.args.low c.ranges.low.fits c.if-high-ge128.true

pub returns-else-high-ge128 : goal.returns-else-high-ge128
returns-else-high-ge128 c = size_positive c.args.high c.args.low c.ranges.low.fits c.if-high-ge128.false
