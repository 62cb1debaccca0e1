-- What the functions of the server promise: the reply by its numbers, the output buffer to its end, the tables and
-- the link record.
use Rattle.std.specs.Prelude.{if◌then◌else◌, ℕ, ◌≡◌, Bool, not, List, [], ltb}
use Rattle.ft12.specs.declared.record.Link.{Link}
use Rattle.ft12.specs.declared.rules.Heard.{Heard}
use Rattle.ft12.specs.declared.rules.Heard.TheVariants.{Gathered, Dropped, Ignored, Acknowledged, Reset, Repeat}
use Rattle.ft12.specs.declared.rules.Heard.TheVariants.{Request}
use Rattle.ft12.specs.Frame.{acknowledgement}
use Rattle.ft12.specs.Record.{in_range}
use Rattle.baos.specs.declared.datapoint.Datapoint.{Datapoint}
use Rattle.baos.specs.declared.bus.BusEvent.{BusEvent}
use Rattle.baos.specs.Datapoint.{datapoint_id}
use Rattle.baos.specs.Bus.{taken, found_takes}
use Rattle.baos.specs.Table.{Tables, tables_ok, found, changed_at}
use Rattle.calls.specs.Reply.{Reply, Refused, Accepted, reply_numbers}
use Rattle.calls.specs.Call.{Called}

-- reply, tables, link record and output buffer are those of c
pub record Leaves (c : Called) (r : Reply) (t' : Tables) (k' : Link) (out' : List ℕ) : Type 0 where
  pub reply : reply_numbers r ≡ reply_numbers c.reply
  pub tables : t' ≡ c.tables
  pub link : k' ≡ c.link
  pub output : out' ≡ c.output

-- the refusals that do not look at the event: 1, 2 and 3, the lowest first; 0 where none is given. Whether a frame is
-- outstanding is told beside the tables.
unfoldable pub lent_refusal : Bool → Tables → Link → ℕ → ℕ
lent_refusal outstanding t k room =
    if not (tables_ok outstanding t) then 1 else if not (in_range k) then 2 else if ltb room 262 then 3 else 0

-- ---- a bus event

-- a bus event about the datapoint of this ID: refused with 4 where there is none, or where it does not take the event
pub record BusEventTaken (e : BusEvent) (id : ℕ) (v : List ℕ) (ds : List Datapoint) (r : Reply) (ds' : List Datapoint) :
    Type 0 where
  pub reply : r ≡ (if found_takes e v (found datapoint_id id ds) then Accepted 0 else Refused 4)
  pub datapoints : ds' ≡ (if found_takes e v (found datapoint_id id ds) then changed_at datapoint_id id (taken e v) ds
      else ds)

-- ---- a host byte, as it was heard

-- the acknowledgement, where one is due
unfoldable pub acknowledgement_of : Heard → List ℕ
acknowledgement_of Gathered = []
acknowledgement_of Dropped = []
acknowledgement_of Ignored = []
acknowledgement_of Acknowledged = []
acknowledgement_of Reset = acknowledgement
acknowledgement_of Repeat = acknowledgement
acknowledgement_of (Request n) = acknowledgement

-- the L of the request that it ended, 1 at least; 0 where it ended none
unfoldable pub request_l : Heard → ℕ
request_l Gathered = 0
request_l Dropped = 0
request_l Ignored = 0
request_l Acknowledged = 0
request_l Reset = 0
request_l Repeat = 0
request_l (Request n) = n
