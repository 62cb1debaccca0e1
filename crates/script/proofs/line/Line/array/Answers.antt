use Rattle.std.proofs.Common.{◌≡◌, ◌<◌, ◌≢◌, length, arith, rules, length-set, get_or-set_other, get_or-set_same, below_more}
use Rattle.script.proofs.PlaceLaws.{part_is}
use Rattle.script.proofs.line.Line.array.Goals as goal

pub loop-k-preserved : goal.loop-k-preserved
loop-k-preserved g c = (
  simp length-set c.loop-k.invariant.0,
  below_more _ _
      (λ j h. let ne : j ≢ c.loop-k.k = omega arith in rw get_or-set_other (c.loop-k.invariant.1 j h))
      (let lt : c.loop-k.k < length c.loop-k.byte-items = omega (arith, c.loop-k.invariant.0) in rw get_or-set_same c.byte.ensures),
)

pub returns : goal.returns
returns g c =
    let e : length c.args.self.now.bytes ≡ 264 = search rules in
    part_is c.args.self.now.bytes _ _ (omega (arith, e, c.requires)) _ c.loop-k.invariant.0 (λ k h. c.loop-k.invariant.1 k (omega arith))
