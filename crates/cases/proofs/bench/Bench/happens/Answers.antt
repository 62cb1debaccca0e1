use Rattle.std.proofs.Common.{◌≡◌, length, rules}
use Rattle.cases.proofs.StepLaws.{refilled, steps}
use Rattle.cases.proofs.bench.Bench.happens.Goals as goal

pub returns : goal.returns
returns c =
    let b = c.args.self.now in
    let nd : length c.call-self.new.datapoints ≡ length b.datapoints.items = search rules in
    let ni : length c.call-self.new.items ≡ length b.items.items = search rules in
    let np : length c.call-self.new.parameters ≡ length b.parameters.items = search rules in
    let l = rw (c.listed.ensures, c.as_mut_slice.ensures.value, c.as_mut_slice-2.ensures.value, c.as_mut_slice-3.ensures.value, c.listed-2.ensures, c.listed-3.ensures) at c.call-self.ensures in
    rw (refilled b.datapoints.items c.call-self.new.datapoints nd, refilled b.items.items c.call-self.new.items ni, refilled b.parameters.items c.call-self.new.parameters np)
    (steps b c.args.event _ _ _ _ _ _ l nd ni np)
