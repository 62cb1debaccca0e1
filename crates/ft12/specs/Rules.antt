-- The link rules of the server end. "The link rules know nothing of datapoints: the link hands up a message and takes
-- one back." It also tells when the outstanding frame was acknowledged, when it was dropped and when the host asked
-- for a reset; none of the three touches a table.
use Rattle.std.specs.Prelude.{if◌then◌else◌, ℕ, ◌+◌, ◌≡◌, Bool, true, false, not, ◌||◌, List, [], ◌∷◌, ◌++◌, length, ltb, eqb}
use Rattle.ft12.specs.declared.receiver.Judgement.{Judgement}
use Rattle.ft12.specs.declared.receiver.Judgement.TheVariants.{More, Damage, Acknowledgement, Fixed, Data}
use Rattle.ft12.specs.declared.rules.Heard.{Heard}
use Rattle.ft12.specs.declared.rules.Heard.TheVariants.{Gathered, Dropped, Ignored, Acknowledged, Reset}
use Rattle.ft12.specs.declared.rules.Heard.TheVariants.{Repeat, Request}
use Rattle.words.specs.Words.{yes_or_no, is_empty}
use Rattle.ft12.specs.Frame.{acknowledgement, fixed_frame, data_frame, longest_message, message_of}
use Rattle.ft12.specs.Receiver.{judged}
use Rattle.ft12.specs.Record.{Line, line_of, link_of, host_control, server_control}
use Rattle.ft12.specs.declared.record.Link.{Link}
use Rattle.ft12.specs.declared.rules.Bits.{Bits}

-- what the link hands up: nothing, that the outstanding frame was acknowledged, that it was dropped after its last
-- wait, that the host asked for a reset (which drops it too), or a message to be carried out
pub data Up : Type 0 where
  nothing : Up
  acknowledged : Up
  dropped : Up
  reset : Up
  message : List ℕ → Up

-- what a rule does: the bytes sent, what is handed up, and the line after it
pub record Moved : Type 0 where
  pub sent : List ℕ
  pub up : Up
  pub line : Line

abbrev pub still : Line → Moved
still l = record { sent = []; up = nothing; line = l }

-- the line with another receiver
abbrev pub receiving : List ℕ → Bool → Line → Line
receiving g d l =
    record {
      gathered = g;
      dropping = d;
      expected = l.expected;
      send = l.send;
      outstanding = l.outstanding;
      resends = l.resends;
    }

-- the receiver at a frame start
unfoldable pub at_start : Line → Line
at_start l = receiving [] false l

-- "the rest is dropped up to the next idle mark"
unfoldable pub start_dropping : Line → Line
start_dropping l = receiving [] true l

unfoldable pub gathering : List ℕ → Line → Line
gathering g l = receiving g false l

-- nothing outstanding any more, and this send bit: "one that is cleared or dropped leaves count 0 and none of its
-- bytes"
unfoldable pub cleared : Bool → Line → Line
cleared send l =
    record {
      gathered = l.gathered;
      dropping = l.dropping;
      expected = l.expected;
      send = send;
      outstanding = [];
      resends = 0;
    }

-- this frame outstanding, sent again so often
unfoldable pub holding : List ℕ → ℕ → Line → Line
holding f n l =
    record {
      gathered = l.gathered;
      dropping = l.dropping;
      expected = l.expected;
      send = l.send;
      outstanding = f;
      resends = n;
    }

unfoldable pub expecting : Bool → Line → Line
expecting odd l =
    record {
      gathered = l.gathered;
      dropping = l.dropping;
      expected = odd;
      send = l.send;
      outstanding = l.outstanding;
      resends = l.resends;
    }

-- ---- a host byte: what it is to the link, by its judgement, the expected bit and whether nothing is outstanding

-- "with nothing outstanding it is ignored"
unfoldable pub case_of_acknowledgement : Bool → Heard
case_of_acknowledgement free = if free then Ignored else Acknowledged

-- "C = 40 is the reset request [..]. Other C: whole frame ignored, unanswered."
unfoldable pub case_of_fixed : ℕ → Heard
case_of_fixed c = if eqb c 0x40 then Reset else Ignored

-- "Expected count bit, nothing outstanding: [..] carried out [..]. Expected bit, something outstanding: dropped,
-- unanswered, bit kept (build). Other bit: E5, message dropped." "A sound frame with another control byte is ignored,
-- unanswered."
unfoldable pub case_of_data : ℕ → ℕ → Bool → Bool → Heard
case_of_data c n expected free =
    if eqb c (host_control expected) then (if free then Request n else Ignored)
    else if eqb c (host_control (not expected)) then Repeat
    else Ignored

unfoldable pub case_of : Judgement → Bool → Bool → Heard
case_of More expected free = Gathered
case_of Damage expected free = Dropped
case_of Acknowledgement expected free = case_of_acknowledgement free
case_of (Fixed c) expected free = case_of_fixed c
case_of (Data c n) expected free = case_of_data c n expected free

unfoldable pub heard_at : ℕ → Line → Heard
heard_at b l = if l.dropping then Dropped else case_of (judged l.gathered b) l.expected (is_empty l.outstanding)

-- What each does. "After every idle mark, whole frame or acknowledgement the receiver is at a frame start"; damage:
-- "the rest is dropped up to the next idle mark". Acknowledgement: "Clears the outstanding frame and flips the send
-- bit". Reset: "answered E5, both bits become odd, the outstanding frame is dropped". A request: "E5, bit flips,
-- message carried out".
unfoldable pub on_heard : Heard → ℕ → Line → Moved
on_heard Gathered b l = still (gathering (l.gathered ++ b ∷ []) l)
on_heard Dropped b l = still (start_dropping l)
on_heard Ignored b l = still (at_start l)
on_heard Acknowledged b l = record { sent = []; up = acknowledged; line = cleared (not l.send) (at_start l) }
on_heard Reset b l = record { sent = acknowledgement; up = reset; line = expecting true (cleared true (at_start l)) }
on_heard Repeat b l = record { sent = acknowledgement; up = nothing; line = at_start l }
on_heard (Request n) b l =
    record {
      sent = acknowledgement;
      up = message (message_of (l.gathered ++ b ∷ []));
      line = expecting (not l.expected) (at_start l);
    }

unfoldable pub on_host_byte : ℕ → Line → Moved
on_host_byte b l = on_heard (heard_at b l) b l

-- ---- what stands in the record for a moment

-- the two bits and the count, as the record holds them
unfoldable pub bits_of : Line → Bits
bits_of l = record { expected = yes_or_no l.expected; send = yes_or_no l.send; resends = l.resends }

-- on every line with the bits `before`, this case leaves the bits `after`
abbrev pub BitsAfter : Heard → Bits → Bits → Type 0
BitsAfter h before after = (l : Line) (b : ℕ) → bits_of l ≡ before → bits_of (on_heard h b l).line ≡ after

-- a request's bytes stay in the receiver until its message was carried out, since the message stands among them; then
-- an idle mark's work clears them
unfoldable pub unread : Heard → List ℕ → Line → Line
unread Gathered g l = l
unread Dropped g l = l
unread Ignored g l = l
unread Acknowledged g l = l
unread Reset g l = l
unread Repeat g l = l
unread (Request n) g l = gathering g l

-- the record after a host byte, a request not yet carried out
unfoldable pub after_host_byte : ℕ → Link → Link
after_host_byte b k = link_of (unread (heard_at b (line_of k)) (line_of k).gathered (on_host_byte b (line_of k)).line)

-- ---- the other events

-- "An idle mark in mid-frame drops what was gathered. After every idle mark [..] the receiver is at a frame start;
-- the mark alters nothing else."
unfoldable pub on_idle_mark : Line → Moved
on_idle_mark l = still (at_start l)

-- "outstanding frame sent again unaltered, three times at most. The fourth wait drops it, sends 10 C0 C0 16 and makes
-- the send bit odd (build). With nothing outstanding: nothing."
unfoldable pub on_ack_wait_over : Line → Moved
on_ack_wait_over l =
    if is_empty l.outstanding then still l
    else if ltb l.resends 3 then record {
      sent = l.outstanding;
      up = nothing;
      line = holding l.outstanding (l.resends + 1) l;
    }
    else record { sent = fixed_frame 0xC0; up = dropped; line = cleared true l }

-- A message is taken back: framed, sent and held as outstanding; "a new frame starts with count 0". No message is
-- empty, and none is taken that is above 254 bytes or comes while something is outstanding: nothing sent, nothing
-- changed. The services and the server meet neither of the two.
unfoldable pub on_message : List ℕ → Line → Moved
on_message m l =
    if is_empty m || ltb longest_message (length m) || not (is_empty l.outstanding) then still l
    else record {
      sent = data_frame (server_control l.send) m;
      up = nothing;
      line = holding (data_frame (server_control l.send) m) 0 l;
    }
