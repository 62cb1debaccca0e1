-- Bus events at one datapoint record.
use Rattle.std.specs.Prelude.{ℕ, Bool, true, ◌&&◌, List}
use Rattle.words.specs.Words.{every}
use Rattle.baos.specs.declared.bus.Outcome.{Outcome}
use Rattle.baos.specs.declared.bus.Outcome.TheVariants.{Sent, Failed, InProgress}
use Rattle.baos.specs.declared.bus.BusEvent.{BusEvent}
use Rattle.baos.specs.declared.bus.BusEvent.TheVariants.{Value, Transmission}
use Rattle.baos.specs.declared.datapoint.Datapoint.{Datapoint}
use Rattle.baos.specs.Datapoint.{is_value, bus_value, outcome}
use Rattle.baos.specs.Lookup.{lookup_of, is_present}

-- "status becomes 00, 01 or 10": sent is idle, failed is idle with error, or in progress
unfoldable pub status_of : Outcome → ℕ
status_of Sent = 0
status_of Failed = 1
status_of InProgress = 2

-- the record takes the event: a value has to be one of its type
unfoldable pub takes : BusEvent → List ℕ → Datapoint → Bool
takes Value v d = is_value d.typecode v
takes (Transmission o) v d = true

-- the record after it
unfoldable pub taken : BusEvent → List ℕ → Datapoint → Datapoint
taken Value v d = bus_value v d
taken (Transmission o) v d = outcome (status_of o) d

-- The datapoint that was found takes it; the list is what `found` gives for the ID. Of the three findings absent alone is
-- refused: closed and open are treated alike.
unfoldable pub found_takes : BusEvent → List ℕ → List Datapoint → Bool
found_takes e v ds = is_present (lookup_of ds) && every (takes e v) ds
