-- Demand 2, third sentence: "Each data frame we send reads back, by the host's rules, to its one message and count
-- bit. This is here because the host was written by another group from the same paper."
use Rattle.std.specs.Prelude.{ℕ, ◌≤◌, ◌≡◌, Bool, List, [], ◌∷◌, ◌++◌, length}
use Rattle.ft12.specs.declared.record.Link.{Link}
use Rattle.ft12.specs.Frame.{acknowledgement, fixed_frame, data_frame, longest_message}
use Rattle.ft12.specs.Record.{Line, line_of, server_control}
use Rattle.ft12.specs.Delivery.{ReadsAs}
use Rattle.baos.specs.Table.{Tables}
use Rattle.calls.specs.declared.event.Event.{Event}
use Rattle.calls.specs.Call.{refusal, call}
use Rattle.demands.specs.Run.{sent_of}
use Rattle.demands.specs.Host.{heard_acknowledgement, heard_fixed, heard_message, host_reads}

-- the frame f was built of a message under this count bit; the host reads it as one data frame with that message and
-- that bit, and nothing behind it
pub record ReadsBack (f : List ℕ) (odd : Bool) : Type 0 where
  pub message : List ℕ
  pub short : length message ≤ longest_message
  pub built : f ≡ data_frame (server_control odd) message
  pub heard : host_reads f ≡ heard_message odd message ∷ []
  -- byte by byte, by the rules of frames alone: each byte but the last asks for more, and no other control byte or
  -- message is read
  pub reads : ReadsAs f (server_control odd) message
  pub only : (c : ℕ) (m : List ℕ) → ReadsAs f c m → (c ≡ server_control odd) × (m ≡ message)

-- What an accepted call sends, with the line after it, and what the host hears of it: an acknowledgement, a data
-- frame, one right after the other, the fixed frame of a fourth wait, or nothing. A data frame is then outstanding
-- and has the send bit.
pub data Sends (s : List ℕ) (l : Line) : Type 0 where
  nothing : s ≡ [] → Sends s l
  acknowledges : s ≡ acknowledgement → host_reads s ≡ heard_acknowledgement ∷ [] → Sends s l
  resets : s ≡ fixed_frame 0xC0 → host_reads s ≡ heard_fixed 0xC0 ∷ [] → Sends s l
  frames : s ≡ l.outstanding → (back : ReadsBack l.outstanding l.send)
      → host_reads s ≡ heard_message l.send back.message ∷ [] → Sends s l
  answers : s ≡ acknowledgement ++ l.outstanding → (back : ReadsBack l.outstanding l.send)
      → host_reads s ≡ heard_acknowledgement ∷ heard_message l.send back.message ∷ [] → Sends s l

abbrev pub SentFramesRead : Type 0
SentFramesRead =
    (e : Event) (v : List ℕ) (t : Tables) (k : Link) (out : List ℕ) → refusal e v t k (length out) ≡ 0
    → Sends (sent_of (call e v t k out).reply (call e v t k out).output) (line_of (call e v t k out).link)

-- To read it: whatever an accepted call sends, in any of the six events, the host hears at most one acknowledgement
-- and at most one data frame in it, and in the data frame the very message that the server framed and the count bit
-- of its send bit; no bytes of it are damage to the host.
