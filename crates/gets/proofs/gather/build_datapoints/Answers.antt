-- The laws of the second pass, in PassSteps: the turn that ends it, one that passes a record over, one that puts an entry, and its end.
use Rattle.std.proofs.Common.{ap, set, refl, sym, ◌∙◌, arith}
use Rattle.baos.specs.Datapoint.{datapoint_id, datapoint_ok, zero_datapoint}
use Rattle.baos.proofs.MeasureLaws.{not_behind, wanted_in_range}
use Rattle.baos.proofs.PlaceLaws.{at_place}
use Rattle.baos.proofs.PassLaws.{putting_all}
use Rattle.gets.proofs.PassSteps.{ends, in_front, code_ok, stops, goes_over, room, goes, goes_wide, stands_as}
use Rattle.gets.proofs.gather.build_datapoints.Goals.{then-passes_filter+then-end-stop, then-passes_filter+else-end-stop, else-passes_filter}
use Rattle.gets.proofs.gather.build_datapoints.Goals as goal

pub loop-i-init : goal.loop-i-init
loop-i-init c =
    let a = c.args in
    let p = at_place datapoint_id zero_datapoint a.w.start datapoint_ok 1000 a.table.now a.from c.requires.0 c.requires.1 in
    record { inside = p.0; long = refl; each = p.1; table = refl; putting = putting_all a.out.now a.at _ c.requires.2 }

pub returns-then-is_behind : goal.returns-then-is_behind
returns-then-is_behind c = stops c.loop-i.invariant _ (omega (arith, c.loop-i.invariant.long)) (sym c.is_behind.ensures ∙ c.if-is_behind.true)

pub put_wide_entry-end-requires : goal.put_wide_entry-end-requires
put_wide_entry-end-requires c =
    let v = c.loop-i.invariant in
    (code_ok v _ (omega (arith, c.loop-i.invariant.long)), omega (arith, c.if-end-stop.true, c.requires.3, v.putting.ends, v.putting.fits))

pub put_entry-end-requires : goal.put_entry-end-requires
put_entry-end-requires c =
    let v = c.loop-i.invariant in
    (code_ok v _ (omega (arith, c.loop-i.invariant.long)), room v _ (omega (arith, c.loop-i.invariant.long)) (sym c.is_behind.ensures ∙ c.if-is_behind.false) (wanted_in_range c.args.w _ (in_front v _ (omega (arith, v.long))) (not_behind c.args.w _ (sym c.is_behind.ensures ∙ c.if-is_behind.false)) ∙ sym c.passes_filter.ensures ∙ c.if-passes_filter.true))

pub loop-i-preserved : goal.loop-i-preserved
loop-i-preserved c =
    let l = c.loop-i in
    let v = l.invariant in
    let ahead = sym c.is_behind.ensures ∙ c.if-is_behind.false in
    let same = wanted_in_range c.args.w _ (in_front v _ (omega (arith, v.long))) (not_behind c.args.w _ ahead) ∙ sym c.passes_filter.ensures in
    elim c.if-passes_filter.branch [
      | then-passes_filter+then-end-stop w ↦ stands_as (w.table-is ∙ ap (set l.table l.i) w.left_of.ensures) (w.end-is ∙ w.put_wide_entry-end.ensures.ends) (w.out-is ∙ w.put_wide_entry-end.ensures.buffer)
          (goes_wide v _ (omega (arith, c.loop-i.invariant.long)) ahead (same ∙ w.if-passes_filter.true) (omega (arith, w.if-end-stop.true, c.requires.3)))
      | then-passes_filter+else-end-stop w ↦ stands_as (w.table-is ∙ ap (set l.table l.i) w.left_of-else-end-stop.ensures) (w.end-is ∙ w.put_entry-end.ensures.ends) (w.out-is ∙ w.put_entry-end.ensures.buffer)
          (goes v _ (omega (arith, c.loop-i.invariant.long)) ahead (same ∙ w.if-passes_filter.true))
      | else-passes_filter w ↦ stands_as w.table-is w.end-is w.out-is (goes_over v _ (omega (arith, c.loop-i.invariant.long)) ahead (same ∙ w.if-passes_filter.false))
    ]

pub returns : goal.returns
returns c = ends c.loop-i.invariant zero_datapoint (omega (arith, c.loop-i.invariant.long))
