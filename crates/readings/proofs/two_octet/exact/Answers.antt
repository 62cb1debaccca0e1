use Rattle.readings.proofs.TwoOctetLaws.{code_exact}
use Rattle.readings.proofs.two_octet.exact.Goals as goal

pub returns : goal.returns
returns c =
    code_exact c.args.high c.args.low c.in_hundredths.result c.nearest_i32_to_f32.result
    c.ranges.low.fits c.in_hundredths.ensures (record { sfits = c.in_hundredths.type_inv }) c.nearest_i32_to_f32.ensures
