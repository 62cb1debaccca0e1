-- Document 02, item 9. "From now on a failed status 01 stands until the next send command or outcome. A stored request
-- that still holds command 5 is refused whole. Refusals: command 5 gives code 8, at the command check."
use Rattle.std.specs.Prelude.{if◌then◌else◌, ℕ, ◌%◌, ◌≡◌, ◌⊎◌, Bool, true, false, not, ◌&&◌, ◌||◌, List, [], ◌∷◌, map, length, get_or, T, eqb}
use Rattle.words.specs.Words.{is_empty}
use Rattle.ft12.specs.declared.record.Link.{Link}
use Rattle.ft12.specs.Record.{Line, line_of}
use Rattle.ft12.specs.Rules.{on_host_byte}
use Rattle.baos.specs.declared.datapoint.Datapoint.{Datapoint}
use Rattle.baos.specs.declared.bus.Outcome.TheVariants.{Sent}
use Rattle.baos.specs.Datapoint.{datapoint_id, is_send}
use Rattle.baos.specs.Bus.{status_of}
use Rattle.baos.specs.Table.{Tables, found}
use Rattle.baos.specs.Lookup.{lookup_of, is_present}
use Rattle.baos.specs.Set.{SetEntry}
use Rattle.baos.specs.Service.{carried_out}
use Rattle.calls.specs.declared.event.Event.{Event}
use Rattle.calls.specs.declared.event.Event.TheVariants.{HostByte, IdleMark, AckWaitOver, Poll, BusValue}
use Rattle.calls.specs.declared.event.Event.TheVariants.{TransmissionOutcome}
use Rattle.calls.specs.Call.{refusal, call}
use Rattle.demands.specs.HostHears.{Happening}
use Rattle.demands.specs.Entries.{holds_entry, message_up, RefusedWhole, CallRefusedWhole, CommandCode}

-- the datapoint's "bits 1-0 transmission status": a list with that number alone, or the empty list where the ID is
-- absent; in well-formed tables an ID stands once
unfoldable pub status_at : ℕ → Tables → List ℕ
status_at id t = map (λ (d : Datapoint). d.state % 4) (found datapoint_id id t.datapoints)

-- what comes in the place of the status s: the first list's number, or s itself where that list is empty
unfoldable pub replaced : List ℕ → List ℕ → List ℕ
replaced [] s = s
replaced (n ∷ ns) s = map (λ x. n) s

-- ---- a request
-- a send command for this ID
unfoldable pub is_send_for : ℕ → SetEntry → Bool
is_send_for id e = eqb e.id id && is_send e.command

-- a request makes the status 11 where it holds a send command for this ID and is answered with code 0; the 1 stands for
-- no answer
unfoldable pub status_by_request : ℕ → Tables → List ℕ → List ℕ
status_by_request id t m =
    if holds_entry (is_send_for id) m && eqb (get_or (carried_out t m).says 6 1) 0 then 3 ∷ [] else []

-- ---- an event
-- The one place that says what changes a status: a request, as above, and an outcome for the ID.
unfoldable pub status_by : ℕ → Event → Tables → Line → List ℕ
status_by id (HostByte b) t l = status_by_request id t (message_up (on_host_byte b l).up)
status_by id IdleMark t l = []
status_by id AckWaitOver t l = []
status_by id Poll t l = []
status_by id (BusValue n) t l = []
status_by id (TransmissionOutcome n o) t l = if eqb n id then status_of o ∷ [] else []

-- the status after every request, and after every accepted call
abbrev pub AfterRequest : Type 0
AfterRequest = (id : ℕ) (t : Tables) (m : List ℕ)
    → status_at id (carried_out t m).after ≡ replaced (status_by_request id t m) (status_at id t)

abbrev pub AfterCall : Type 0
AfterCall =
    (id : ℕ) (e : Event) (v : List ℕ) (t : Tables) (k : Link) (out : List ℕ) → refusal e v t k (length out) ≡ 0
    → status_at id (call e v t k out).tables ≡ replaced (status_by id e t (line_of k)) (status_at id t)

-- ---- no request, and no event but an outcome for its ID, changes a datapoint's status to anything but 11
abbrev pub StaysOrRequested : ℕ → Tables → Tables → Type 0
StaysOrRequested id t t' = (status_at id t' ≡ status_at id t) ⊎ (status_at id t' ≡ replaced (3 ∷ []) (status_at id t))

unfoldable pub is_outcome_for : ℕ → Event → Bool
is_outcome_for id (HostByte b) = false
is_outcome_for id IdleMark = false
is_outcome_for id AckWaitOver = false
is_outcome_for id Poll = false
is_outcome_for id (BusValue n) = false
is_outcome_for id (TransmissionOutcome n o) = eqb n id

abbrev pub StaysOrRequestedByRequest : Type 0
StaysOrRequestedByRequest = (id : ℕ) (t : Tables) (m : List ℕ) → StaysOrRequested id t (carried_out t m).after

abbrev pub StaysOrRequestedByCall : Type 0
StaysOrRequestedByCall =
    (id : ℕ) (e : Event) (v : List ℕ) (t : Tables) (k : Link) (out : List ℕ) → T (not (is_outcome_for id e))
    → StaysOrRequested id t (call e v t k out).tables

-- so nothing but the outcome "sent" makes a status 00
abbrev pub IdleBySent : Type 0
IdleBySent =
    (id : ℕ) (e : Event) (v : List ℕ) (t : Tables) (k : Link) (out : List ℕ)
    → status_at id (call e v t k out).tables ≡ 0 ∷ []
    → (status_at id t ≡ 0 ∷ []) ⊎ (e ≡ TransmissionOutcome id Sent)

-- ---- calls one after the other: "a failed status 01 stands until the next send command or outcome"
-- no accepted call brings an outcome for this ID, or a request that holds a send command for it and is answered with
-- code 0
unfoldable pub no_send_or_outcome : ℕ → List Happening → Tables → Link → Bool
no_send_or_outcome id [] t k = true
no_send_or_outcome id (h ∷ hs) t k =
    let c = call h.event h.value t k h.output in
    (not (eqb (refusal h.event h.value t k (length h.output)) 0)
    || is_empty (status_by id h.event t (line_of k)))
    && no_send_or_outcome id hs c.tables c.link

unfoldable pub tables_after_all : List Happening → Tables → Link → Tables
tables_after_all [] t k = t
tables_after_all (h ∷ hs) t k =
    let c = call h.event h.value t k h.output in
    tables_after_all hs c.tables c.link

abbrev pub StandsUntil : Type 0
StandsUntil = (id : ℕ) (hs : List Happening) (t : Tables) (k : Link) → T (no_send_or_outcome id hs t k)
    → status_at id (tables_after_all hs t k) ≡ status_at id t

-- ---- "A stored request that still holds command 5 is refused whole"
unfoldable pub is_retired : SetEntry → Bool
is_retired e = eqb e.command 5

abbrev pub RetiredRefused : Type 0
RetiredRefused = RefusedWhole (λ t. is_retired)

abbrev pub RetiredCallRefused : Type 0
RetiredCallRefused = CallRefusedWhole (λ t. is_retired)

-- "command 5 gives code 8, at the command check": where the ID is present
abbrev pub RetiredCode : Type 0
RetiredCode =
    CommandCode (λ t e. is_retired e && is_present (lookup_of (found datapoint_id e.id t.datapoints)))

-- ---- the sentences together
pub record StatusStands : Type 0 where
  pub after_request : AfterRequest
  pub after_call : AfterCall
  pub stays_or_requested_by_request : StaysOrRequestedByRequest
  pub stays_or_requested_by_call : StaysOrRequestedByCall
  pub idle_by_sent : IdleBySent
  pub stands_until : StandsUntil
  pub retired_refused : RetiredRefused
  pub retired_call_refused : RetiredCallRefused
  pub retired_code : RetiredCode
