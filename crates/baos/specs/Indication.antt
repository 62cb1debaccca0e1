-- DatapointValue.Ind: marked datapoints in rising ID, while they fit.
use Rattle.std.specs.Prelude.{if◌then◌else◌, ℕ, ◌-◌, Bool, ◌&&◌, List, [], ◌∷◌, map, length, leb}
use Rattle.words.specs.Words.{is_yes, keep}
use Rattle.baos.specs.declared.datapoint.Datapoint.{Datapoint}
use Rattle.baos.specs.Datapoint.{with_mark, handed_out}
use Rattle.baos.specs.Table.{Tables, with_datapoints}
use Rattle.baos.specs.Message.{Served}
use Rattle.baos.specs.Get.{value_entry, room_for_entries, listing}

-- how many bytes a datapoint takes: ID, state, length, value
unfoldable pub needs : Datapoint → ℕ
needs d = length (value_entry d).bytes

-- it is marked, and fits in the room left
unfoldable pub goes : ℕ → Datapoint → Bool
goes room d = is_yes d.mark && leb (needs d) room

-- the room left behind a datapoint: "until the next one does not fit", and then none
unfoldable pub room_after : ℕ → Datapoint → ℕ
room_after room d = if is_yes d.mark then (if leb (needs d) room then room - needs d else 0) else room

-- a datapoint, and whether the indication carries it
pub record Choice : Type 0 where
  pub datapoint : Datapoint
  pub carried : Bool

-- decided once, in rising ID
unfoldable pub choices : ℕ → List Datapoint → List Choice
choices room [] = []
choices room (d ∷ ds) = record { datapoint = d; carried = goes room d } ∷ choices (room_after room d) ds

-- the datapoints that the indication carries
unfoldable pub reported : List Choice → List Datapoint
reported cs = map (λ (c : Choice). c.datapoint) (keep (λ (c : Choice). c.carried) cs)

-- "Marks carried are cleared", and bit 3
unfoldable pub after_report : List Choice → List Datapoint
after_report cs = map (λ (c : Choice). if c.carried then with_mark 0 (handed_out c.datapoint) else c.datapoint) cs

-- "its StartDatapoint is the first one's ID"; nothing is said where nothing is marked
unfoldable pub indication_of : List Datapoint → List ℕ
indication_of [] = []
indication_of (d ∷ ds) = listing 0xC1 d.id (map value_entry (d ∷ ds))

-- one indication, and the tables after it
unfoldable pub indication : Tables → Served
indication t =
    record {
      says = indication_of (reported (choices room_for_entries t.datapoints));
      after = with_datapoints (after_report (choices room_for_entries t.datapoints)) t;
    }
