-- Events, outcomes and replies as the numbers that firmware gives and gets.
use Rattle.std.specs.Prelude.{if◌then◌else◌, ℕ, Bool, ◌&&◌, List, [], ◌∷◌, leb, ltb, eqb, ℤ, pos, neg_ℤ}
use Rattle.calls.specs.declared.event.Event.{Event}
use Rattle.calls.specs.declared.event.Event.TheVariants.{HostByte, IdleMark, AckWaitOver, Poll, BusValue}
use Rattle.calls.specs.declared.event.Event.TheVariants.{TransmissionOutcome}
use Rattle.baos.specs.declared.bus.Outcome.{Outcome}
use Rattle.baos.specs.declared.bus.Outcome.TheVariants.{Sent, Failed, InProgress}
use Rattle.calls.specs.Reply.{Reply, Refused, Accepted}

-- whether the numbers name an event: 1 to 6, its place in the paper's list, and for the sixth an outcome of 0 to 2
unfoldable pub is_event : ℕ → ℕ → Bool
is_event event outcome = if eqb event 6 then ltb outcome 3 else leb 1 event && ltb event 6

-- sent, failed or in progress, by the status that it leaves
unfoldable pub outcome_numbered : ℕ → Outcome
outcome_numbered n = if eqb n 0 then Sent else if eqb n 1 then Failed else InProgress

-- the event of these numbers; a number that the event does not have is not looked at
unfoldable pub event_numbered : ℕ → ℕ → ℕ → ℕ → Event
event_numbered event byte id outcome =
    if eqb event 1 then HostByte byte
    else if eqb event 2 then IdleMark
    else if eqb event 3 then AckWaitOver
    else if eqb event 4 then Poll
    else if eqb event 5 then BusValue id
    else TransmissionOutcome id (outcome_numbered outcome)

-- those of the four numbers that are looked at
unfoldable pub given : ℕ → ℕ → ℕ → ℕ → List ℕ
given event byte id outcome =
    if eqb event 1 then event ∷ byte ∷ []
    else if eqb event 5 then event ∷ id ∷ []
    else if eqb event 6 then event ∷ id ∷ outcome ∷ []
    else event ∷ []

-- how many bytes are to be sent, or minus the refusal's number
unfoldable pub reply_number : Reply → ℤ
reply_number (Refused n) = neg_ℤ (pos n)
reply_number (Accepted count) = pos count

-- the answer where the numbers name no event
abbrev pub no_event : ℤ
no_event = neg_ℤ (pos 100)
