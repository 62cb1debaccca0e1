-- The link record, as the rules see it and as the serial loop lends it, and when it is in range.
use Rattle.std.specs.Prelude.{if◌then◌else◌, ℕ, ◌≤◌, ◌≡◌, Bool, true, false, not, ◌&&◌, List, [], length, take, leb, eqb}
use Rattle.ft12.specs.declared.record.Link.{Link}
use Rattle.words.specs.Words.{is_yes_or_no, is_yes, yes_or_no, is_empty, pad, is_padded, Padded}
use Rattle.ft12.specs.Frame.{Begins, Whole, is_whole}
use Rattle.ft12.specs.Receiver.{is_beginning}

-- "receiver bytes, expected bit, send bit, outstanding frame, count of resends", and whether the receiver drops.
-- A bit is true where it is odd; no outstanding bytes: nothing is outstanding.
pub record Line : Type 0 where
  pub gathered : List ℕ
  pub dropping : Bool
  pub expected : Bool
  pub send : Bool
  pub outstanding : List ℕ
  pub resends : ℕ

-- the record of these parts
abbrev pub link_with : List ℕ → ℕ → ℕ → ℕ → ℕ → List ℕ → ℕ → ℕ → Link
link_with receiver received dropping expected send outstanding held resends =
    record {
      receiver = receiver;
      received = received;
      dropping = dropping;
      expected = expected;
      send = send;
      outstanding = outstanding;
      held = held;
      resends = resends;
    }

-- what the record holds
unfoldable pub line_of : Link → Line
line_of k =
    record {
      gathered = take k.received k.receiver;
      dropping = is_yes k.dropping;
      expected = is_yes k.expected;
      send = is_yes k.send;
      outstanding = take k.held k.outstanding;
      resends = k.resends;
    }

-- how the record holds it: unused bytes are 0
unfoldable pub link_of : Line → Link
link_of l =
    record {
      receiver = pad 260 l.gathered;
      received = length l.gathered;
      dropping = yes_or_no l.dropping;
      expected = yes_or_no l.expected;
      send = yes_or_no l.send;
      outstanding = pad 261 l.outstanding;
      held = length l.outstanding;
      resends = l.resends;
    }

-- a frame is outstanding, whatever else the record holds
abbrev pub holds_frame : Link → Bool
holds_frame k = not (eqb k.held 0)

-- "Control from host: 73 (count bit odd) or 53 (even); from server: F3 or D3."
unfoldable pub host_control : Bool → ℕ
host_control odd = if odd then 0x73 else 0x53

unfoldable pub server_control : Bool → ℕ
server_control odd = if odd then 0xF3 else 0xD3

-- "It is in range when the receiver bytes are a beginning, not the whole, of some sound frame, or none while the
-- receiver drops"
unfoldable pub receiver_ok : Bool → List ℕ → Bool
receiver_ok dropping gathered = if dropping then is_empty gathered else is_beginning gathered

-- "either nothing is outstanding and the count is 0, or a whole server data frame is, under the send bit, with a
-- count of 0 to 3"
unfoldable pub outstanding_ok : Bool → ℕ → List ℕ → Bool
outstanding_ok send resends outstanding =
    if is_empty outstanding then eqb resends 0
    else is_whole (server_control send) outstanding && leb resends 3

unfoldable pub line_ok : Line → Bool
line_ok l = receiver_ok l.dropping l.gathered && outstanding_ok l.send l.resends l.outstanding

-- what is two-valued is 0 or 1
unfoldable pub two_valued : ℕ → ℕ → ℕ → Bool
two_valued dropping expected send = is_yes_or_no dropping && is_yes_or_no expected && is_yes_or_no send

-- the lengths are within the memory, "and [..] its unused bytes are 0"
unfoldable pub memory_ok : Link → Bool
memory_ok k = is_padded 260 k.received k.receiver && is_padded 261 k.held k.outstanding
    && two_valued k.dropping k.expected k.send

unfoldable pub in_range : Link → Bool
in_range k = memory_ok k && line_ok (line_of k)

-- ---- the same in the paper's words
pub data ReceiverInRange (l : Line) : Type 0 where
  beginning : l.dropping ≡ false → Begins l.gathered → ReceiverInRange l
  drops : l.dropping ≡ true → l.gathered ≡ [] → ReceiverInRange l

pub data OutstandingInRange (l : Line) : Type 0 where
  holds_nothing : l.outstanding ≡ [] → l.resends ≡ 0 → OutstandingInRange l
  frame_held : Whole (server_control l.send) l.outstanding → l.resends ≤ 3 → OutstandingInRange l

pub record InRange (k : Link) : Type 0 where
  pub receiver_padded : Padded 260 k.received k.receiver
  pub outstanding_padded : Padded 261 k.held k.outstanding
  pub dropping_two_valued : k.dropping ≤ 1
  pub expected_two_valued : k.expected ≤ 1
  pub send_two_valued : k.send ≤ 1
  pub receiver_in_range : ReceiverInRange (line_of k)
  pub outstanding_in_range : OutstandingInRange (line_of k)
