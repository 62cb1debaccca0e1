use Rattle.std.proofs.Common.{refl, ap, arith}
use Rattle.cases.specs.View.{place_of}
use Rattle.cases.proofs.RunLaws.{feeding_begins, sound_here, dropped_here, feeding_goes, feeding_ends}
use Rattle.cases.proofs.run.Stand.hear.Goals as goal
use Rattle.cases.proofs.run.Stand.hear.Goals.{then-self-ne1, else-self-ne1}

pub loop-i-init : goal.loop-i-init
loop-i-init c = feeding_begins _ _

pub loop-i-preserved : goal.loop-i-preserved
loop-i-preserved c =
    feeding_goes _ _ _ _ c.loop-i-test.true c.happens.ensures _ _ _ _ _ _ (rw c.is_quiet-quiet.ensures refl)
    (elim c.if-self-ne1.branch [
      | then-self-ne1 w ↦ sound_here c.loop-i.self.bench.link.dropping c.loop-i.i (place_of c.loop-i.place) _ w.if-self-ne1.true (ap place_of w.place-is)
      | else-self-ne1 w ↦ dropped_here c.loop-i.self.bench.link.dropping c.loop-i.i (place_of c.loop-i.place) _ w.if-self-ne1.false (ap place_of w.place-is)
    ])
    c.loop-i.invariant

pub returns : goal.returns
returns c = feeding_ends _ _ _ _ _ _ _ (omega arith) c.loop-i.invariant
