-- What the functions on the link record promise: the record, the buffer to its end and the answer, by the rules.
use Rattle.std.specs.Prelude.{ℕ, ◌≡◌, List, length}
use Rattle.ft12.specs.declared.record.Link.{Link}
use Rattle.ft12.specs.declared.rules.Heard.{Heard}
use Rattle.words.specs.Words.{put}
use Rattle.ft12.specs.Record.{line_of, link_of}
use Rattle.ft12.specs.Rules.{heard_at, after_host_byte, on_ack_wait_over, on_message}

-- a host byte b at the record k: how it was heard, and the record after it
pub record HostByteHeard (k : Link) (b : ℕ) (heard : Heard) (k' : Link) : Type 0 where
  pub answer : heard ≡ heard_at b (line_of k)
  pub link : k' ≡ after_host_byte b k

-- ack wait over at the record k, with the buffer out: the count of bytes to send, the buffer and the record after it
pub record AckWaited (k : Link) (out : List ℕ) (count : ℕ) (out' : List ℕ) (k' : Link) : Type 0 where
  pub answer : count ≡ length (on_ack_wait_over (line_of k)).sent
  pub buffer : out' ≡ put out 0 (on_ack_wait_over (line_of k)).sent
  pub link : k' ≡ link_of (on_ack_wait_over (line_of k)).line

-- the message m taken back at the record k, its frame written to the buffer from `at` on
pub record MessageTaken (m : List ℕ) (k : Link) (out : List ℕ) (at count : ℕ) (out' : List ℕ) (k' : Link) : Type 0 where
  pub answer : count ≡ length (on_message m (line_of k)).sent
  pub buffer : out' ≡ put out at (on_message m (line_of k)).sent
  pub link : k' ≡ link_of (on_message m (line_of k)).line
