use Rattle.readings.proofs.TwoOctetLaws.{size_fits, negated_fits, hundredths_negative, hundredths_positive}
use Rattle.readings.proofs.two_octet.in_hundredths.Goals as goal

pub overflow_cast-size : goal.overflow_cast-size
overflow_cast-size c = size_fits c.args.high c.args.low c.magnitude-size.result c.ranges.low.fits c.magnitude-size.ensures

pub overflow_sub-result : goal.overflow_sub-result
overflow_sub-result c = negated_fits c.args.high c.args.low c.magnitude-size.result c.ranges.low.fits c.magnitude-size.ensures

pub returns-then-high-ge128 : goal.returns-then-high-ge128
returns-then-high-ge128 c = hundredths_negative c.args.high c.args.low c.magnitude-size.result c.ranges.low.fits c.magnitude-size.ensures c.if-high-ge128.true

pub returns-else-high-ge128 : goal.returns-else-high-ge128
returns-else-high-ge128 c = hundredths_positive c.args.high c.args.low c.magnitude-size.result c.ranges.low.fits c.magnitude-size.ensures c.if-high-ge128.false
