-- What the host is to hear of a call, and of calls one after the other. "Each data frame we send reads back, by the
-- host's rules, to its one message": the frame of an answer to what `carried_out` says, that of a poll to what
-- `indication` says, and one that is sent again to what the outstanding frame carries.
use Rattle.std.specs.Prelude.{if◌then◌else◌, ℕ, ◌≡◌, Bool, true, false, ◌&&◌, List, [], ◌∷◌, ◌++◌, length, T, ltb, eqb}
use Rattle.words.specs.Words.{is_empty}
use Rattle.ft12.specs.declared.record.Link.{Link}
use Rattle.ft12.specs.declared.rules.Heard.{Heard}
use Rattle.ft12.specs.declared.rules.Heard.TheVariants.{Gathered, Dropped, Ignored, Acknowledged, Reset, Repeat}
use Rattle.ft12.specs.declared.rules.Heard.TheVariants.{Request}
use Rattle.ft12.specs.Frame.{message_of}
use Rattle.ft12.specs.Record.{Line, line_of}
use Rattle.ft12.specs.Rules.{heard_at}
use Rattle.baos.specs.Table.{Tables}
use Rattle.baos.specs.Service.{carried_out}
use Rattle.baos.specs.Indication.{indication}
use Rattle.calls.specs.declared.event.Event.{Event}
use Rattle.calls.specs.declared.event.Event.TheVariants.{HostByte, IdleMark, AckWaitOver, Poll, BusValue}
use Rattle.calls.specs.declared.event.Event.TheVariants.{TransmissionOutcome}
use Rattle.calls.specs.Call.{refusal, call}
use Rattle.demands.specs.Run.{sent_of}
use Rattle.demands.specs.Host.{HostHeard, heard_acknowledgement, heard_fixed, heard_message, host_reads}

-- ---- one call
-- the message m under this count bit; nothing where there is none
unfoldable pub said : Bool → List ℕ → List HostHeard
said odd m = if is_empty m then [] else heard_message odd m ∷ []

-- a host byte, by what it is to the link
unfoldable pub to_hear_of : Heard → ℕ → Tables → Line → List HostHeard
to_hear_of Gathered b t l = []
to_hear_of Dropped b t l = []
to_hear_of Ignored b t l = []
to_hear_of Acknowledged b t l = []
to_hear_of Reset b t l = heard_acknowledgement ∷ []
to_hear_of Repeat b t l = heard_acknowledgement ∷ []
to_hear_of (Request n) b t l =
    heard_acknowledgement ∷ said l.send (carried_out t (message_of (l.gathered ++ b ∷ []))).says

unfoldable pub to_hear : Event → Tables → Line → List HostHeard
to_hear (HostByte b) t l = to_hear_of (heard_at b l) b t l
to_hear IdleMark t l = []
to_hear AckWaitOver t l =
    if is_empty l.outstanding then []
    else if ltb l.resends 3 then heard_message l.send (message_of l.outstanding) ∷ []
    else heard_fixed 0xC0 ∷ []
to_hear Poll t l = if is_empty l.outstanding then said l.send (indication t).says else []
to_hear (BusValue id) t l = []
to_hear (TransmissionOutcome id o) t l = []

abbrev pub HostHears : Type 0
HostHears =
    (e : Event) (v : List ℕ) (t : Tables) (k : Link) (out : List ℕ) → refusal e v t k (length out) ≡ 0
    → host_reads (sent_of (call e v t k out).reply (call e v t k out).output) ≡ to_hear e t (line_of k)

-- "outstanding frame sent again unaltered, three times at most": byte for byte
abbrev pub SentAgain : Type 0
SentAgain =
    (v : List ℕ) (t : Tables) (k : Link) (out : List ℕ) → refusal AckWaitOver v t k (length out) ≡ 0
    → is_empty (line_of k).outstanding ≡ false → ltb k.resends 3 ≡ true
    → sent_of (call AckWaitOver v t k out).reply (call AckWaitOver v t k out).output ≡ (line_of k).outstanding

-- ---- calls one after the other
-- the event, the value lent beside it and the output buffer of a call
pub record Happening : Type 0 where
  pub event : Event
  pub value : List ℕ
  pub output : List ℕ

-- none of the calls is refused
unfoldable pub all_accepted : List Happening → Tables → Link → Bool
all_accepted [] t k = true
all_accepted (h ∷ hs) t k =
    let c = call h.event h.value t k h.output in
    eqb (refusal h.event h.value t k (length h.output)) 0 && all_accepted hs c.tables c.link

-- all bytes sent
unfoldable pub all_sent : List Happening → Tables → Link → List ℕ
all_sent [] t k = []
all_sent (h ∷ hs) t k =
    let c = call h.event h.value t k h.output in
    sent_of c.reply c.output ++ all_sent hs c.tables c.link

-- what the host is to hear of the calls in turn
unfoldable pub all_to_hear : List Happening → Tables → Link → List HostHeard
all_to_hear [] t k = []
all_to_hear (h ∷ hs) t k =
    let c = call h.event h.value t k h.output in
    to_hear h.event t (line_of k) ++ all_to_hear hs c.tables c.link

abbrev pub HostHearsAll : Type 0
HostHearsAll = (hs : List Happening) (t : Tables) (k : Link) → T (all_accepted hs t k)
    → host_reads (all_sent hs t k) ≡ all_to_hear hs t k

-- To read it: the host that reads all bytes of any run of accepted calls, one after the other, hears the
-- acknowledgements, messages and resets of the calls in turn, each with its count bit, and nothing else; no byte of
-- them is damage to it.
