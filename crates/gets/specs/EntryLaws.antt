-- An entry is about the ID of its record, is not empty and is not long.
use Rattle.std.proofs.Common.{◌≡◌, refl, true, ◌≤◌, length, arith}
use Rattle.words.proofs.WordLaws.{padded_decided, true_T}
use Rattle.baos.specs.declared.datapoint.Datapoint.{Datapoint}
use Rattle.baos.specs.declared.item.Item.{Item}
use Rattle.baos.specs.declared.inner.Wanted.{Wanted}
use Rattle.baos.specs.Datapoint.{size_of, datapoint_ok}
use Rattle.baos.specs.Item.{item_ok}
use Rattle.baos.specs.Get.{item_entry}
use Rattle.baos.specs.Inner.Gather.{entry_of}
use Rattle.baos.proofs.DatapointLaws.{parts}
use Rattle.baos.proofs.MeasureLaws.{entry_short, item_length}
use Rattle.baos.proofs.PassLaws.{entry_some, item_some, bytes_fit, code_fits}

pub datapoint_bounds : (w : Wanted) (d : Datapoint) → datapoint_ok d ≡ true → (1 ≤ length (entry_of w d).bytes) × (length (entry_of w d).bytes ≤ 32)
datapoint_bounds w d e =
    let p = (padded_decided 14 (size_of d.typecode) d.value).0 (parts d (true_T e)).unused in
    (entry_some w d, omega (arith, entry_short w d p.memory (code_fits d (true_T e))))

pub item_id_lem : (i : Item) → (item_entry i).id ≡ i.id
unfolding item_entry
item_id_lem i = refl

pub item_bounds : (i : Item) → item_ok i ≡ true → (1 ≤ length (item_entry i).bytes) × (length (item_entry i).bytes ≤ 32)
item_bounds i e =
    let f = bytes_fit i (true_T e) in
    (item_some i, omega (arith, item_length i f.1 f.0, f.0))
