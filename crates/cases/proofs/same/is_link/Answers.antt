use Rattle.std.proofs.Common.{◌≡◌, get_or, sym, ◌∙◌, arith}
use Rattle.words.proofs.WordLaws.{rest_whole}
use Rattle.cases.specs.Same.{Decides}
use Rattle.cases.proofs.SameLaws.{both, left_to, compared, front_compared}
use Rattle.cases.proofs.same.is_link.Goals as goal

pub returns : goal.returns
returns c =
    let a = c.args.asked.now in
    let e = rest_whole 3 a in
    let k = c.args.link.now in
    let t : Decides c.eq.result (((k.expected ≡ get_or a 0 0) × (k.send ≡ get_or a 1 0)) × (k.dropping ≡ get_or a 2 0)) = rw c.eq.ensures (both (both (compared _ _) (compared _ _)) (compared _ _)) in
    let h = front_compared k.outstanding c.from.result c.get.result _ c.eq-2.result c.get.ensures.lookup.0 c.eq-2.ensures in
    left_to (both t h)
    (λ v. record {
      told = omega arith;
      expects = v.0.0.0;
      sends = v.0.0.1;
      drops = v.0.1;
      within = omega (arith, v.1.0, c.from.ensures);
      holds = rw c.from.ensures at (v.1.1 ∙ e);
    })
    (λ q. (((q.expects, q.sends), q.drops), (omega (arith, q.within, c.from.ensures), rw c.from.ensures (q.holds ∙ sym e))))
