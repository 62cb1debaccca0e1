use Rattle.std.proofs.Common.{length, ap, rules}
use Rattle.std.proofs.lemmas.Slice.Eq.{slice_eq-Decides}
use Rattle.script.specs.View.{in_places}
use Rattle.cases.specs.Bench.{no_datapoint, no_item}
use Rattle.cases.proofs.SameLaws.{both, left_to, unplaced}
use Rattle.cases.proofs.same.same_tables.Goals as goal

pub returns : goal.returns
returns c =
    let p = slice_eq-Decides (λ a b. search rules) _ _ _ c.eq.ensures in
    let i = slice_eq-Decides (λ a b. search rules) _ _ _ c.eq-2.ensures in
    let d = slice_eq-Decides (λ a b. search rules) _ _ _ c.eq-3.ensures in
    left_to (both (both p i) d)
    (λ e. record {
      datapoints = ap (in_places 50 no_datapoint) e.1;
      datapointcount = ap length e.1;
      items = ap (in_places 4 no_item) e.0.1;
      itemcount = ap length e.0.1;
      parameters = ap (in_places 264 0) e.0.0;
      parametercount = ap length e.0.0;
    })
    (λ q. ((unplaced 264 0 _ _ q.parametercount q.parameters, unplaced 4 no_item _ _ q.itemcount q.items), unplaced 50 no_datapoint _ _ q.datapointcount q.datapoints))
