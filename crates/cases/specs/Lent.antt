-- What the lines of a script say of the tables.
use Rattle.std.specs.Prelude.{if◌then◌else◌, ℕ, zero, suc, ◌+◌, List, ◌==◌, nat_lt, slice_index, slice_set}
use Rattle.baos.specs.declared.datapoint.Datapoint.{Datapoint}
use Rattle.baos.specs.declared.item.Item.{Item}
use Rattle.cases.specs.Bench.{Bench}
use Rattle.cases.specs.Bench.{empty_bench, with_datapoints, with_items, with_parameters, with_site, with_defaults}
use Rattle.script.specs.Line.{Line}
use Rattle.script.specs.Record.{item_of, datapoint_of}

-- one record more, behind the others; a full table stays
unfoldable pub with_item : Item → Bench → Bench
with_item i b = if nat_lt b.itemcount 4 then with_items (slice_set b.items b.itemcount i) (b.itemcount + 1) b else b

unfoldable pub with_datapoint : Datapoint → Bench → Bench
with_datapoint d b =
    if nat_lt b.datapointcount 50 then with_datapoints (slice_set b.datapoints b.datapointcount d)
    (b.datapointcount + 1) b
    else b

-- n datapoints, one behind the other
unfoldable pub filled : List ℕ → ℕ → Bench → Bench
filled a zero b = b
filled a (suc n) b = with_datapoint (datapoint_of a n) (filled a n b)

-- the letters e, i, d, p, v and w
unfoldable pub built : Line → Bench → Bench
built l b =
    if l.letter == 0x65 then empty_bench
    else if l.letter == 0x69 then with_item (item_of l.bytes) b
    else if l.letter == 0x64 then filled l.bytes (slice_index l.bytes 0) b
    else if l.letter == 0x70 then with_parameters l.bytes l.size b
    else if l.letter == 0x76 then with_site l b
    else if l.letter == 0x77 then with_defaults l b
    else b
