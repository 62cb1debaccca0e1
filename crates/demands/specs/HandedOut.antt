-- "The filter asks for updated readings only, and a reading is handed out once." Between two bus values for a
-- datapoint, whatever events come, at most one message that the server builds carries the datapoint with bit 3 set. A
-- frame that is sent again is no message built anew.
use Rattle.std.specs.Prelude.{if◌then◌else◌, ℕ, zero, suc, ◌+◌, ◌≤◌, Bool, false, not, ◌&&◌, ◌||◌, List, [], ◌∷◌, ◌++◌, get_or, drop, T, eqb}
use Rattle.words.specs.Words.{of_two_bytes, is_empty, every}
use Rattle.ft12.specs.declared.record.Link.{Link}
use Rattle.ft12.specs.declared.rules.Heard.{Heard}
use Rattle.ft12.specs.declared.rules.Heard.TheVariants.{Gathered, Dropped, Ignored, Acknowledged, Reset, Repeat}
use Rattle.ft12.specs.declared.rules.Heard.TheVariants.{Request}
use Rattle.ft12.specs.Frame.{message_of}
use Rattle.ft12.specs.Record.{Line, line_of}
use Rattle.ft12.specs.Rules.{heard_at}
use Rattle.baos.specs.Datapoint.{is_updated}
use Rattle.baos.specs.Table.{Tables}
use Rattle.baos.specs.Message.{sub_service, number_of}
use Rattle.baos.specs.Service.{carried_out}
use Rattle.baos.specs.Indication.{indication}
use Rattle.calls.specs.declared.event.Event.{Event}
use Rattle.calls.specs.declared.event.Event.TheVariants.{HostByte, IdleMark, AckWaitOver, Poll, BusValue}
use Rattle.calls.specs.declared.event.Event.TheVariants.{TransmissionOutcome}
use Rattle.calls.specs.Call.{call}
use Rattle.demands.specs.HostHears.{Happening, all_accepted}

-- ---- the values in a message, as the host reads them
pub record Shown : Type 0 where
  pub id : ℕ
  pub state : ℕ

-- so many entries of the bytes s: ID, state, length, value
unfoldable pub shown_in : ℕ → List ℕ → List Shown
shown_in zero s = []
shown_in (suc n) s = record { id = of_two_bytes (get_or s 0 0) (get_or s 1 0); state = get_or s 2 0 }
    ∷ shown_in n (drop (4 + get_or s 3 0) s)

-- an answer of GetDatapointValue or an indication has NumberOfDatapoints entries; an error answer has none
unfoldable pub values_in : List ℕ → List Shown
values_in m = if eqb (sub_service m) 0x85 || eqb (sub_service m) 0xC1 then shown_in (number_of m) (drop 6 m) else []

unfoldable pub shows_updated : ℕ → List Shown → Bool
shows_updated id [] = false
shows_updated id (s ∷ ss) = (eqb s.id id && is_updated s.state) || shows_updated id ss

-- ---- what hands a reading out
-- the message that a call builds, empty where it builds none: an answer, or an indication
unfoldable pub builds_at : Heard → ℕ → Tables → Line → List ℕ
builds_at Gathered b t l = []
builds_at Dropped b t l = []
builds_at Ignored b t l = []
builds_at Acknowledged b t l = []
builds_at Reset b t l = []
builds_at Repeat b t l = []
builds_at (Request n) b t l = (carried_out t (message_of (l.gathered ++ b ∷ []))).says

unfoldable pub builds : Event → Tables → Line → List ℕ
builds (HostByte b) t l = builds_at (heard_at b l) b t l
builds IdleMark t l = []
builds AckWaitOver t l = []
builds Poll t l = if is_empty l.outstanding then (indication t).says else []
builds (BusValue id) t l = []
builds (TransmissionOutcome id o) t l = []

-- The one place that says when a reading of this ID is handed out: it is shown, with bit 3 set, in the message that
-- is built.
unfoldable pub hands_out : ℕ → Event → Tables → Line → Bool
hands_out id e t l = shows_updated id (values_in (builds e t l))

-- ---- over calls
unfoldable pub times_handed_out : ℕ → List Happening → Tables → Link → ℕ
times_handed_out id [] t k = 0
times_handed_out id (h ∷ hs) t k =
    let c = call h.event h.value t k h.output in
    (if hands_out id h.event t (line_of k) then 1 else 0) + times_handed_out id hs c.tables c.link

unfoldable pub is_value_for : ℕ → Event → Bool
is_value_for id (HostByte b) = false
is_value_for id IdleMark = false
is_value_for id AckWaitOver = false
is_value_for id Poll = false
is_value_for id (BusValue n) = eqb n id
is_value_for id (TransmissionOutcome n o) = false

-- no call brings a bus value for this ID
unfoldable pub no_value_for : ℕ → List Happening → Bool
no_value_for id hs = every (λ (h : Happening). not (is_value_for id h.event)) hs

abbrev pub HandedOutOnce : Type 0
HandedOutOnce = (id : ℕ) (hs : List Happening) (t : Tables) (k : Link) → T (all_accepted hs t k) → T (no_value_for id hs)
    → times_handed_out id hs t k ≤ 1
