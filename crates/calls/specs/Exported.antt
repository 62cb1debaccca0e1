-- What the functions that firmware links promise.
use Rattle.std.specs.Prelude.{if◌then◌else◌, ℕ, ◌≡◌, true, false, List, [], ℤ}
use Rattle.ft12.specs.declared.record.Link.{Link}
use Rattle.ft12.specs.Record.{Line}
use Rattle.baos.specs.Table.{Tables}
use Rattle.calls.specs.Call.{Called, call}
use Rattle.calls.specs.Numbers.{is_event, event_numbered, reply_number, no_event}

-- what a call answers and leaves, its reply as a number
pub record Answered : Type 0 where
  pub number : ℤ
  pub tables : Tables
  pub link : Link
  pub output : List ℕ

unfoldable pub answered : Called → Answered
answered c = record { number = reply_number c.reply; tables = c.tables; link = c.link; output = c.output }

-- the call of the event that the numbers name; where they name none, the number of that and everything as it was
unfoldable pub called_by : ℕ → ℕ → ℕ → ℕ → List ℕ → Tables → Link → List ℕ → Answered
called_by event byte id outcome v t k out =
    if is_event event outcome then answered (call (event_numbered event byte id outcome) v t k out)
    else record { number = no_event; tables = t; link = k; output = out }

-- number, tables, link record and output buffer are those of a
pub record Gives (a : Answered) (r : ℤ) (t' : Tables) (k' : Link) (out' : List ℕ) : Type 0 where
  pub number : r ≡ a.number
  pub tables : t' ≡ a.tables
  pub link : k' ≡ a.link
  pub output : out' ≡ a.output

-- the line as a reset leaves it: the receiver at a frame start, both bits odd, nothing outstanding
unfoldable pub fresh_line : Line
fresh_line = record { gathered = []; dropping = false; expected = true; send = true; outstanding = []; resends = 0 }
