-- Demand 1. "No event may fault or fail to end. Bad tables, a bad link record, a short output buffer and a bad bus
-- event are each refused by number, and a refusal changes no byte of anything lent. This is here because the serial
-- line is shared with test gear." That no call faults or fails to end is no statement of ours: the language proves
-- both of every function. What is stated here is when a call is refused, with which number, and what it leaves.
use Rattle.std.specs.Prelude.{ℕ, ◌≤◌, ◌<◌, ◌≡◌, false, List, length, take, drop, T}
use Rattle.ft12.specs.declared.record.Link.{Link}
use Rattle.ft12.specs.Record.{line_of, in_range}
use Rattle.baos.specs.Table.{Tables, well_formed}
use Rattle.calls.specs.declared.event.Event.{Event}
use Rattle.calls.specs.Reply.{Refused, Accepted}
use Rattle.calls.specs.Event.{bus_ok}
use Rattle.calls.specs.Call.{happens, call}

-- the table of refusals: what is wrong where number n stands
pub data Wrong (e : Event) (v : List ℕ) (t : Tables) (k : Link) (out : List ℕ) (n : ℕ) : Type 0 where
  bad_tables : n ≡ 1 → well_formed t ≡ false → Wrong e v t k out n
  bad_link_record : n ≡ 2 → in_range k ≡ false → Wrong e v t k out n
  short_output : n ≡ 3 → length out < 262 → Wrong e v t k out n
  bad_bus_event : n ≡ 4 → bus_ok e v t ≡ false → Wrong e v t k out n

-- "Several at once: the lowest number."
pub record Lowest (e : Event) (v : List ℕ) (t : Tables) (k : Link) (out : List ℕ) (n : ℕ) : Type 0 where
  pub wrong : Wrong e v t k out n
  pub none_below : (i : ℕ) → i < n → Wrong e v t k out i → ⊥

pub record Refusals (e : Event) (v : List ℕ) (t : Tables) (k : Link) (out : List ℕ) : Type 0 where
  -- "Given exactly when"
  pub given : (n : ℕ) → Lowest e v t k out n → (call e v t k out).reply ≡ Refused n
  pub only_then : (n : ℕ) → (call e v t k out).reply ≡ Refused n → Lowest e v t k out n
  -- "number only, nothing sent, all lent memory unaltered"
  pub leaves : (n : ℕ) → (call e v t k out).reply ≡ Refused n
      → call e v t k out ≡ record { reply = Refused n; output = out; tables = t; link = k }
  -- otherwise, and only then, the reply is the count of the bytes sent, and these stand at the front of the output
  pub accepted : ((n : ℕ) → Wrong e v t k out n → ⊥)
      → (call e v t k out).reply ≡ Accepted (length (happens e v t (line_of k)).sent)
  pub not_wrong : (count : ℕ) → (call e v t k out).reply ≡ Accepted count → (n : ℕ) → Wrong e v t k out n → ⊥
  pub sent : (count : ℕ) → (call e v t k out).reply ≡ Accepted count
      → take count (call e v t k out).output ≡ (happens e v t (line_of k)).sent
  -- 262 bytes are room enough; "An accepted call alters no output byte after its reply."
  pub fits : (count : ℕ) → (call e v t k out).reply ≡ Accepted count → count ≤ 262
  pub behind : (count : ℕ) → (call e v t k out).reply ≡ Accepted count
      → drop count (call e v t k out).output ≡ drop count out
  -- "The tables and the link record after it are such that 1 and 2 do not refuse them"
  pub lasts : (count : ℕ) → (call e v t k out).reply ≡ Accepted count
      → T (well_formed (call e v t k out).tables) × T (in_range (call e v t k out).link)

abbrev pub Demand1 : Type 0
Demand1 = (e : Event) (v : List ℕ) (t : Tables) (k : Link) (out : List ℕ) → Refusals e v t k out

-- To read it: for every event, value, tables, link record and output buffer, well formed or not, the reply is refusal
-- n if and only if n is the lowest number of the table whose condition is met, and then reply, output, tables and
-- link record are that number and what was lent. If and only if none is met, the reply is how many bytes were sent,
-- at most 262; those bytes stand in front in the output, behind them the output is as it was, and refusals 1 and 2 do
-- not refuse the tables and the link record that are left.
