use Rattle.std.proofs.Common.{ap, arith}
use Rattle.words.proofs.WordLaws.{rest_whole}
use Rattle.ft12.specs.Frame.{checksum}
use Rattle.bursts.proofs.SumLaws.{checksum_parts}
use Rattle.bursts.proofs.sum.sum.Goals as goal

pub returns-in-4-to-7 : goal.returns-in-4-to-7
returns-in-4-to-7 c =
    let s = c.args.s.now in
    omega (arith, c.below_four-in-4-to-7.ensures, c.first_four.ensures, ap checksum (rest_whole 4 s), checksum_parts 4 s)
