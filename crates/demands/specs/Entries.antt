-- Requests to set datapoints by their entries, and what it means that such a request is refused for one of them.
use Rattle.std.specs.Prelude.{ℕ, ◌≡◌, Bool, false, not, ◌&&◌, List, [], ◌∷◌, ◌++◌, drop, T, eqb}
use Rattle.words.specs.Words.{is_empty, keep, every}
use Rattle.ft12.specs.declared.record.Link.{Link}
use Rattle.ft12.specs.Record.{line_of}
use Rattle.ft12.specs.Rules.{Up, nothing, acknowledged, dropped, reset, message, on_host_byte}
use Rattle.baos.specs.Datapoint.{datapoint_id}
use Rattle.baos.specs.Table.{Tables, found}
use Rattle.baos.specs.Message.{sub_service, number_of, coded}
use Rattle.baos.specs.Set.{SetEntry, first_datapoint_entry, set_entries, fills, judged_datapoint}
use Rattle.baos.specs.Service.{unanswered, carried_out}
use Rattle.calls.specs.declared.event.Event.TheVariants.{HostByte}
use Rattle.calls.specs.Call.{call}
use Rattle.demands.specs.Answers.{ErrorAnswer}

-- the entries of a request to set datapoints, so many as it states; bytes that it does not have read 0, and it is
-- answered with code 10 then
unfoldable pub entries_of : List ℕ → List SetEntry
entries_of m = set_entries first_datapoint_entry 4 (number_of m) (drop 6 m)

-- its sub is that of SetDatapointValue, and one of its entries passes the test
unfoldable pub holds_entry : (SetEntry → Bool) → List ℕ → Bool
holds_entry p m = eqb (sub_service m) 0x06 && not (is_empty (keep p (entries_of m)))

-- the message that the link hands up, empty where it hands up none
unfoldable pub message_up : Up → List ℕ
message_up nothing = []
message_up acknowledged = []
message_up dropped = []
message_up reset = []
message_up (message m) = m

-- ---- p says of an entry that it is bad
-- A request that holds a bad entry is refused whole: no table changes, and an error answers it where it is answered at
-- all.
abbrev pub RefusedWhole : (Tables → SetEntry → Bool) → Type 0
RefusedWhole p = (t : Tables) (m : List ℕ) → T (holds_entry (p t) m)
    → (unanswered m ≡ false → ErrorAnswer (carried_out t m).says) × ((carried_out t m).after ≡ t)

-- Nor does the call of the host byte that ends it change a table.
abbrev pub CallRefusedWhole : (Tables → SetEntry → Bool) → Type 0
CallRefusedWhole p =
    (b : ℕ) (v : List ℕ) (t : Tables) (k : Link) (out : List ℕ)
    → T (holds_entry (p t) (message_up (on_host_byte b (line_of k)).up)) → (call (HostByte b) v t k out).tables ≡ t

-- A bad entry is refused at the command check: in a request that is answered and whose entries fill it, where every
-- entry in front is good, and whatever value comes with it, the answer has code 8 and that entry's ID.
abbrev pub CommandCode : (Tables → SetEntry → Bool) → Type 0
CommandCode p =
    (t : Tables) (m : List ℕ) (before : List SetEntry) (e : SetEntry) (behind : List SetEntry)
    → unanswered m ≡ false → sub_service m ≡ 0x06 → T (fills 4 (number_of m) (drop 6 m))
    → entries_of m ≡ before ++ e ∷ behind
    → T (every (λ (o : SetEntry). eqb (judged_datapoint (found datapoint_id o.id t.datapoints) o) 0) before)
    → T (p t e) → (carried_out t m).says ≡ coded m e.id 8
