-- One call: from event, lent value, tables, link record and output buffer to reply, buffer to its end, tables and
-- link record.
use Rattle.std.specs.Prelude.{if◌then◌else◌, ℕ, not, List, [], ◌++◌, length, drop, ltb, eqb}
use Rattle.words.specs.Words.{is_empty}
use Rattle.ft12.specs.declared.record.Link.{Link}
use Rattle.ft12.specs.Record.{Line, line_of, link_of, holds_frame, in_range}
use Rattle.ft12.specs.Rules.{Up, nothing, acknowledged, dropped, reset, message, Moved, on_host_byte, on_idle_mark}
use Rattle.ft12.specs.Rules.{on_ack_wait_over, on_message}
use Rattle.baos.specs.Datapoint.{bus_value, outcome}
use Rattle.baos.specs.Table.{Tables, tables_ok}
use Rattle.baos.specs.Message.{Served}
use Rattle.baos.specs.Service.{carried_out}
use Rattle.baos.specs.Indication.{indication}
use Rattle.calls.specs.declared.event.Event.{Event}
use Rattle.calls.specs.declared.event.Event.TheVariants.{HostByte, IdleMark, AckWaitOver, Poll, BusValue}
use Rattle.calls.specs.declared.event.Event.TheVariants.{TransmissionOutcome}
use Rattle.calls.specs.Reply.{Reply, Refused, Accepted}
use Rattle.baos.specs.Bus.{status_of}
use Rattle.calls.specs.Event.{at_datapoint, bus_ok}

-- what an accepted call does: the bytes sent, the tables and the line after it
pub record Done : Type 0 where
  pub sent : List ℕ
  pub tables : Tables
  pub line : Line

abbrev pub quiet : Tables → Line → Done
quiet t l = record { sent = []; tables = t; line = l }

-- the answer goes back to the link, "framed right after" the bytes s
unfoldable pub saying : List ℕ → Served → Line → Done
saying s v l =
    record {
      sent = s ++ (on_message v.says l).sent;
      tables = v.after;
      line = (on_message v.says l).line;
    }

-- a message that the link hands up is carried out; that a frame was acknowledged or dropped, and a reset, leave the
-- tables
unfoldable pub handed_up : Up → List ℕ → Tables → Line → Done
handed_up nothing s t l = record { sent = s; tables = t; line = l }
handed_up acknowledged s t l = record { sent = s; tables = t; line = l }
handed_up dropped s t l = record { sent = s; tables = t; line = l }
handed_up reset s t l = record { sent = s; tables = t; line = l }
handed_up (message m) s t l = saying s (carried_out t m) l

unfoldable pub on_moved : Moved → Tables → Done
on_moved v t = handed_up v.up v.sent t v.line

-- "Poll: with nothing outstanding and some mark set, one indication is framed, sent and held as outstanding [..].
-- Otherwise nothing." Where no mark is set the indication says nothing and changes nothing.
unfoldable pub on_poll : Tables → Line → Done
on_poll t l = if is_empty l.outstanding then saying [] (indication t) l else quiet t l

-- each event; v is the value lent beside it, and "other events ignore what is lent there"
unfoldable pub happens : Event → List ℕ → Tables → Line → Done
happens (HostByte b) v t l = on_moved (on_host_byte b l) t
happens IdleMark v t l = on_moved (on_idle_mark l) t
happens AckWaitOver v t l = on_moved (on_ack_wait_over l) t
happens Poll v t l = on_poll t l
happens (BusValue id) v t l = quiet (at_datapoint id (bus_value v) t) l
happens (TransmissionOutcome id o) v t l = quiet (at_datapoint id (outcome (status_of o)) t) l

-- the number of the refusal, "Several at once: the lowest number"; 0 where the call is accepted
unfoldable pub refusal : Event → List ℕ → Tables → Link → ℕ → ℕ
refusal e v t k room =
    if not (tables_ok (holds_frame k) t) then 1
    else if not (in_range k) then 2
    else if ltb room 262 then 3
    else if not (bus_ok e v t) then 4
    else 0

-- what a call answers and leaves
pub record Called : Type 0 where
  pub reply : Reply
  pub output : List ℕ
  pub tables : Tables
  pub link : Link

-- "number only, nothing sent, all lent memory unaltered"
unfoldable pub refused : ℕ → Tables → Link → List ℕ → Called
refused n t k out = record { reply = Refused n; output = out; tables = t; link = k }

-- "An accepted call alters no output byte after its reply."
unfoldable pub accepted : List ℕ → Done → Called
accepted out d =
    record {
      reply = Accepted (length d.sent);
      output = d.sent ++ drop (length d.sent) out;
      tables = d.tables;
      link = link_of d.line;
    }

unfoldable pub call : Event → List ℕ → Tables → Link → List ℕ → Called
call e v t k out =
    if eqb (refusal e v t k (length out)) 0 then accepted out (happens e v t (line_of k))
    else refused (refusal e v t k (length out)) t k out
