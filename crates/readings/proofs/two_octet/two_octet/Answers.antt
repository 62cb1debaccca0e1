use Rattle.readings.proofs.TwoOctetLaws.{code_divided}
use Rattle.readings.proofs.two_octet.two_octet.Goals as goal

pub returns : goal.returns
returns c = code_divided c.args.high c.args.low c.exact.result c.exact.ensures
