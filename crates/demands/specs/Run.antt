-- Calls one after the other.
use Rattle.std.specs.Prelude.{ℕ, List, [], ◌∷◌, ◌++◌, take}
use Rattle.ft12.specs.declared.record.Link.{Link}
use Rattle.baos.specs.Table.{Tables}
use Rattle.calls.specs.declared.event.Event.{Event}
use Rattle.calls.specs.Reply.{Reply, Refused, Accepted}
use Rattle.calls.specs.Call.{call}

-- what a run of calls sent, and the tables and the link record after it
pub record Ran : Type 0 where
  pub sent : List ℕ
  pub tables : Tables
  pub link : Link

-- what a call sends of its output. A refusal shows as 100 hex, which no byte is, and its number.
unfoldable pub sent_of : Reply → List ℕ → List ℕ
sent_of (Refused n) out = 0x100 ∷ n ∷ []
sent_of (Accepted count) out = take count out

unfoldable pub before : List ℕ → Ran → Ran
before s r = record { sent = s ++ r.sent; tables = r.tables; link = r.link }

-- the events in turn, no value lent beside them, each with this output buffer
unfoldable pub run : List ℕ → List Event → Tables → Link → Ran
run out [] t k = record { sent = []; tables = t; link = k }
run out (e ∷ es) t k =
    let c = call e [] t k out in
    before (sent_of c.reply c.output) (run out es c.tables c.link)
