-- Document 02, item 2. "Document 01 lets a send command through although the project has the datapoint's communication or
-- transmit flag off. The status then stays "requested" for good. Mend the rule: commands 2 and 3 need config bits 2 and
-- 6, command 4 needs bit 2; others as before. Looking up an ID has three findings from now on [..], and each service says
-- which it treats alike. Gets and bus events treat the last two alike. [..] Refusals: a command whose needed bits are off
-- gives code 8, placed with the command check, before code 9."
use Rattle.std.specs.Prelude.{if◌then◌else◌, ℕ, ◌≡◌, ◌⊎◌, Bool, true, false, not, ◌&&◌, ◌||◌, List, [], ◌∷◌, map, T, leb, ltb, eqb}
use Rattle.words.specs.Words.{keep, every}
use Rattle.ft12.specs.declared.record.Link.{Link}
use Rattle.ft12.specs.Record.{Line, line_of}
use Rattle.ft12.specs.Rules.{on_host_byte}
use Rattle.baos.specs.declared.datapoint.Datapoint.{Datapoint}
use Rattle.baos.specs.Datapoint.{datapoint_id}
use Rattle.baos.specs.Lookup.{lookup_of, is_present}
use Rattle.baos.specs.Flags.{needed_bits_on, with_flags, reflagged, reflagged_served}
use Rattle.baos.specs.Table.{Tables, found}
use Rattle.baos.specs.Message.{sub_service, start_of, filter_of, answer_of}
use Rattle.baos.specs.Get.{in_request, listing, get_finding, description_entry, value_entry, passes}
use Rattle.baos.specs.Set.{SetEntry, takes_command}
use Rattle.baos.specs.Service.{unanswered, carried_out}
use Rattle.calls.specs.declared.event.Event.{Event}
use Rattle.calls.specs.declared.event.Event.TheVariants.{HostByte, IdleMark, AckWaitOver, Poll, BusValue}
use Rattle.calls.specs.declared.event.Event.TheVariants.{TransmissionOutcome}
use Rattle.calls.specs.Call.{Called, call}
use Rattle.demands.specs.Entries.{entries_of, message_up, RefusedWhole, CallRefusedWhole, CommandCode}
use Rattle.demands.specs.Status.{status_at}

-- ---- "commands 2 and 3 need config bits 2 and 6, command 4 needs bit 2; others as before"
-- a datapoint that is there takes a command from 0 to 4 exactly where the bits are on that the command needs
abbrev pub CommandTaken : Type 0
CommandTaken = (d : Datapoint) (c : ℕ)
    → takes_command (lookup_of (d ∷ [])) d.flags c ≡ (leb c 4 && needed_bits_on d.flags c)

-- the entry's datapoint is there, and a bit that its command needs is off
unfoldable pub lacks_bits : Tables → SetEntry → Bool
lacks_bits t e =
    not (every (λ (d : Datapoint). needed_bits_on d.flags e.command) (found datapoint_id e.id t.datapoints))

abbrev pub ClosedRefused : Type 0
ClosedRefused = RefusedWhole lacks_bits

abbrev pub ClosedCallRefused : Type 0
ClosedCallRefused = CallRefusedWhole lacks_bits

-- "gives code 8, placed with the command check, before code 9"
abbrev pub ClosedCode : Type 0
ClosedCode = CommandCode lacks_bits

-- ---- so no status becomes "requested" where a flag is off
-- the datapoint of this ID is there, and may send
unfoldable pub may_send : ℕ → Tables → Bool
may_send id t =
    let ds = found datapoint_id id t.datapoints in
    is_present (lookup_of ds) && every (λ (d : Datapoint). needed_bits_on d.flags 2) ds

-- where the status is 11 it was so before, or the datapoint may send
abbrev pub RequestedOnlyIfMaySend : ℕ → Tables → Tables → Type 0
RequestedOnlyIfMaySend id t t' = status_at id t' ≡ 3 ∷ [] → (status_at id t ≡ 3 ∷ []) ⊎ T (may_send id t)

abbrev pub RequestedByRequest : Type 0
RequestedByRequest = (id : ℕ) (t : Tables) (m : List ℕ) → RequestedOnlyIfMaySend id t (carried_out t m).after

abbrev pub RequestedByCall : Type 0
RequestedByCall =
    (id : ℕ) (e : Event) (v : List ℕ) (t : Tables) (k : Link) (out : List ℕ)
    → RequestedOnlyIfMaySend id t (call e v t k out).tables

-- ---- "Gets and bus events treat the last two alike": nothing else goes by the flags
-- the datapoints in the range of a get: an ID is among them exactly where it is in the range and present
unfoldable pub listed : Tables → List ℕ → List Datapoint
listed t m = keep (λ (d : Datapoint). in_request m d.id) t.datapoints

abbrev pub ListedIfPresent : Type 0
ListedIfPresent = (t : Tables) (m : List ℕ) (id : ℕ)
    → is_present (lookup_of (found datapoint_id id (listed t m)))
    ≡ (in_request m id && is_present (lookup_of (found datapoint_id id t.datapoints)))

-- a get of values is answered about those of them that pass the filter; one of descriptions about all (`FlagsShown`)
abbrev pub ValuesListed : Type 0
ValuesListed = (t : Tables) (m : List ℕ) → unanswered m ≡ false → sub_service m ≡ 0x05 →
    let entries = map value_entry (keep (passes (filter_of m)) (listed t m)) in
    let finding = get_finding 7 (ltb 2 (filter_of m)) m entries in
    (carried_out t m).says ≡ answer_of finding m (listing 0x85 (start_of m) entries)

-- an answered request for descriptions: these show the flags
unfoldable pub asks_descriptions : List ℕ → Bool
asks_descriptions m = not (unanswered m) && eqb (sub_service m) 0x03

-- the entry lacks a bit with the flags that the tables have and with the others, or with neither
unfoldable pub lacks_alike : (ℕ → ℕ) → Tables → SetEntry → Bool
lacks_alike flags t e =
    let others = lacks_bits (reflagged flags t) e in
    if lacks_bits t e then others else not others

-- and so does each entry, where the message has the sub of a request to set datapoints, answered or not
unfoldable pub all_lack_alike : (ℕ → ℕ) → Tables → List ℕ → Bool
all_lack_alike flags t m = not (eqb (sub_service m) 0x06) || every (lacks_alike flags t) (entries_of m)

-- with any other flags the same is said, and the same is left but for the flags
abbrev pub FlagsUnseen : Type 0
FlagsUnseen = (flags : ℕ → ℕ) (t : Tables) (m : List ℕ) → T (not (asks_descriptions m)) → T (all_lack_alike flags t m)
    → carried_out (reflagged flags t) m ≡ reflagged_served flags (carried_out t m)

-- a request for descriptions finds the same and is answered about the same datapoints, each with the flags that it has
abbrev pub FlagsShown : Type 0
FlagsShown = (flags : ℕ → ℕ) (t : Tables) (m : List ℕ) → T (asks_descriptions m) →
    let entries = map description_entry (listed t m) in
    let others = map description_entry (map (λ (d : Datapoint). with_flags (flags d.id) d) (listed t m)) in
    let finding = get_finding 6 false m entries in
    (carried_out t m ≡ record { says = answer_of finding m (listing 0x83 (start_of m) entries); after = t })
    × (carried_out (reflagged flags t) m
    ≡ record { says = answer_of finding m (listing 0x83 (start_of m) others); after = reflagged flags t })

-- No event goes by the flags but a host byte that ends a request for descriptions, or a request to set datapoints of
-- which some entry lacks a bit with one of the two flags only.
unfoldable pub is_unseen_by : (ℕ → ℕ) → Event → Tables → Line → Bool
is_unseen_by flags (HostByte b) t l =
    let m = message_up (on_host_byte b l).up in
    not (asks_descriptions m) && all_lack_alike flags t m
is_unseen_by flags IdleMark t l = true
is_unseen_by flags AckWaitOver t l = true
is_unseen_by flags Poll t l = true
is_unseen_by flags (BusValue id) t l = true
is_unseen_by flags (TransmissionOutcome id o) t l = true

abbrev pub reflagged_called : (ℕ → ℕ) → Called → Called
reflagged_called flags c =
    record { reply = c.reply; output = c.output; tables = reflagged flags c.tables; link = c.link }

abbrev pub FlagsUnseenByCall : Type 0
FlagsUnseenByCall =
    (flags : ℕ → ℕ) (e : Event) (v : List ℕ) (t : Tables) (k : Link) (out : List ℕ) → T (is_unseen_by flags e t (line_of k))
    → call e v (reflagged flags t) k out ≡ reflagged_called flags (call e v t k out)

-- ---- the sentences together
pub record ClosedDatapoints : Type 0 where
  pub command_taken : CommandTaken
  pub closed_refused : ClosedRefused
  pub closed_call_refused : ClosedCallRefused
  pub closed_code : ClosedCode
  pub requested_by_request : RequestedByRequest
  pub requested_by_call : RequestedByCall
  pub listed_if_present : ListedIfPresent
  pub values_listed : ValuesListed
  pub flags_unseen : FlagsUnseen
  pub flags_shown : FlagsShown
  pub flags_unseen_by_call : FlagsUnseenByCall
