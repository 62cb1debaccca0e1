use Rattle.std.proofs.Common.{drop, arith}
use Rattle.baos.proofs.SetLaws.{span_head}
use Rattle.sets.proofs.set.place_of.Goals as goal

pub entry_id-requires : goal.entry_id-requires
entry_id-requires g c = omega (arith, g.met.T.Settable.laws.has_id, span_head g.T.Settable.HEAD (drop c.args.at c.args.m.now))
