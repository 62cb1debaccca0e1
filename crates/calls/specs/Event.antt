-- The six events by number, and what the bus does to the tables.
use Rattle.std.specs.Prelude.{ℕ, Bool, true, List, [], ◌∷◌}
use Rattle.baos.specs.declared.bus.BusEvent.TheVariants.{Value, Transmission}
use Rattle.baos.specs.declared.datapoint.Datapoint.{Datapoint}
use Rattle.baos.specs.Datapoint.{datapoint_id}
use Rattle.baos.specs.Bus.{status_of, found_takes}
use Rattle.baos.specs.Table.{Tables, with_datapoints, found, changed_at}
use Rattle.calls.specs.declared.event.Event.{Event}
use Rattle.calls.specs.declared.event.Event.TheVariants.{HostByte, IdleMark, AckWaitOver, Poll, BusValue}
use Rattle.calls.specs.declared.event.Event.TheVariants.{TransmissionOutcome}

-- an event's place in the paper's list of six, and its values
unfoldable pub numbers_of : Event → List ℕ
numbers_of (HostByte b) = 1 ∷ b ∷ []
numbers_of IdleMark = 2 ∷ []
numbers_of AckWaitOver = 3 ∷ []
numbers_of Poll = 4 ∷ []
numbers_of (BusValue id) = 5 ∷ id ∷ []
numbers_of (TransmissionOutcome id o) = 6 ∷ id ∷ status_of o ∷ []

-- the tables with the datapoint of this ID changed
unfoldable pub at_datapoint : ℕ → (Datapoint → Datapoint) → Tables → Tables
at_datapoint id f t = with_datapoints (changed_at datapoint_id id f t.datapoints) t

-- Refusal 4 is given for a "bus event: ID absent, value length not the type's, or unused bits set"; this says that it
-- is not. An outcome is a bus event too, of which only the ID is judged.
unfoldable pub bus_ok : Event → List ℕ → Tables → Bool
bus_ok (HostByte b) v t = true
bus_ok IdleMark v t = true
bus_ok AckWaitOver v t = true
bus_ok Poll v t = true
bus_ok (BusValue id) v t = found_takes Value v (found datapoint_id id t.datapoints)
bus_ok (TransmissionOutcome id o) v t = found_takes (Transmission o) v (found datapoint_id id t.datapoints)
