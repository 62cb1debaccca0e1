use Rattle.std.proofs.Common.{drop}
use Rattle.baos.specs.Message.{number_of}
use Rattle.baos.specs.Item.{item_id}
use Rattle.baos.specs.Set.{set_entries, applied, set_item, first_item_entry, set_server_item, setting}
use Rattle.baos.specs.Table.{Tables, items_only}
use Rattle.sets.specs.Settable.{entries_of}
use Rattle.sets.proofs.Loops.{answered}
use Rattle.sets.proofs.set.set_items.Goals as goal

pub returns : goal.returns
unfolding set_server_item setting entries_of
returns c =
    let a = c.args in
    let is = a.table.now in
    let es = set_entries first_item_entry 3 (number_of a.request.message.now) (drop 6 a.request.message.now) in
    answered (λ (t : Tables). t.items) a.request.message.now (items_only is) (items_only (applied item_id set_item es is)) c.set_records-outcome.result _ c.set_records-outcome.ensures.judged
    a.out.now a.at _ _ _ c.set_records-outcome.ensures.left c.put_answer.ensures
