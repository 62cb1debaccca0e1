use Rattle.std.proofs.Common.{drop}
use Rattle.baos.specs.Message.{number_of}
use Rattle.baos.specs.Datapoint.{datapoint_id}
use Rattle.baos.specs.Set.{set_entries, applied, set_datapoint, first_datapoint_entry, set_datapoint_value, setting}
use Rattle.baos.specs.Table.{Tables, datapoints_only}
use Rattle.sets.specs.Settable.{entries_of}
use Rattle.sets.proofs.Loops.{answered}
use Rattle.sets.proofs.set.set_datapoints.Goals as goal

pub returns : goal.returns
unfolding set_datapoint_value setting entries_of
returns c =
    let a = c.args in
    let ds = a.table.now in
    let es = set_entries first_datapoint_entry 4 (number_of a.request.message.now) (drop 6 a.request.message.now) in
    answered (λ (t : Tables). t.datapoints) a.request.message.now (datapoints_only ds) (datapoints_only (applied datapoint_id set_datapoint es ds)) c.set_records-outcome.result _ c.set_records-outcome.ensures.judged
    a.out.now a.at _ _ _ c.set_records-outcome.ensures.left c.put_answer.ensures
