-- No call sends more than 262 bytes: an acknowledgement and a frame.
use Prim.Native.Nat.{ℕ, ◌+◌, ◌≤◌}
use mathlib.Core.Path.{◌≡◌, refl}
use mathlib.Core.Bool.{Bool, true, false}
use mathlib.Core.List.{List, []}
use native.Mathlib.Omega.{arith}
use lib.ListN.{length, length-take, length-append}
use lib.Dec.{T, ltb, eqb}
use borrow.Author.Tests.{ltb-false, eqb-true}
use Rattle.words.specs.Words.{is_empty}
use Rattle.ft12.specs.declared.record.Link.{Link}
use Rattle.ft12.specs.declared.rules.Heard.{Heard}
use Rattle.ft12.specs.declared.rules.Heard.TheVariants.{Gathered, Dropped, Ignored, Acknowledged, Reset, Repeat, Request}
use Rattle.ft12.specs.Frame.{fixed_frame, longest_message}
use Rattle.ft12.specs.Record.{Line, line_of, server_control, in_range}
use Rattle.ft12.specs.Rules.{on_heard, on_host_byte, on_idle_mark, on_ack_wait_over, on_message}
use Rattle.ft12.proofs.FrameLaws.{frame_length}
use Rattle.ft12.proofs.PlaceLaws.{held_fits}
use Rattle.baos.specs.Table.{Tables}
use Rattle.baos.specs.Message.{Served}
use Rattle.baos.specs.Indication.{indication}
use Rattle.calls.specs.declared.event.Event.{Event}
use Rattle.calls.specs.declared.event.Event.TheVariants.{HostByte, IdleMark, AckWaitOver, Poll, BusValue, TransmissionOutcome}
use Rattle.calls.specs.Reply.{sent_count}
use Rattle.calls.specs.Call.{saying, handed_up, on_moved, on_poll, happens, refusal, refused, accepted, call}
use Rattle.calls.proofs.CallLaws.{not_refused}

-- a message taken back
message_sent : (m : List ℕ) (l : Line) → length (on_message m l).sent ≤ 261
unfolding on_message
message_sent m l = go (is_empty m) (ltb longest_message (length m)) (is_empty l.outstanding) refl refl refl
  where
    go : (a b c : Bool) → is_empty m ≡ a → ltb longest_message (length m) ≡ b → is_empty l.outstanding ≡ c → length (on_message m l).sent ≤ 261
    go true b c p q r = simp p (omega arith)
    go false true c p q r = simp (p, q) (omega arith)
    go false false false p q r = simp (p, q, r) (omega arith)
    go false false true p q r = simp (p, q, r) (omega (arith, frame_length (server_control l.send) m, ltb-false longest_message (length m) q))

said : (s : List ℕ) (v : Served) (l : Line) → length (saying s v l).sent ≤ length s + 261
unfolding saying
said s v l = omega (arith, length-append s (on_message v.says l).sent, message_sent v.says l)

-- a host byte
heard : (h : Heard) (b : ℕ) (l : Line) (t : Tables) → length (on_moved (on_heard h b l) t).sent ≤ 262
unfolding on_moved handed_up on_heard
heard Gathered b l t = omega arith
heard Dropped b l t = omega arith
heard Ignored b l t = omega arith
heard Acknowledged b l t = omega arith
heard Reset b l t = omega arith
heard Repeat b l t = omega arith
heard (Request n) b l t = said _ _ _

marked : (l : Line) (t : Tables) → length (on_moved (on_idle_mark l) t).sent ≤ 262
unfolding on_moved handed_up on_idle_mark
marked l t = omega arith

-- the outstanding frame, or the reset's frame
waited : (k : Link) (t : Tables) → T (in_range k) → length (on_moved (on_ack_wait_over (line_of k)) t).sent ≤ 262
unfolding on_moved handed_up on_ack_wait_over line_of fixed_frame
waited k t r = go (is_empty (line_of k).outstanding) (ltb k.resends 3) refl refl
  where
    go : (a b : Bool) → is_empty (line_of k).outstanding ≡ a → ltb k.resends 3 ≡ b → length (on_moved (on_ack_wait_over (line_of k)) t).sent ≤ 262
    go true b p q = simp p (omega arith)
    go false true p q = simp (p, q) (omega (arith, length-take k.held k.outstanding, held_fits k r))
    go false false p q = simp (p, q) (omega arith)

polled : (t : Tables) (l : Line) → length (on_poll t l).sent ≤ 262
unfolding on_poll
polled t l = go (is_empty l.outstanding) refl
  where
    go : (a : Bool) → is_empty l.outstanding ≡ a → length (on_poll t l).sent ≤ 262
    go true p = simp p (omega (arith, said [] (indication t) l))
    go false p = simp p (omega arith)

happened : (e : Event) (v : List ℕ) (t : Tables) (k : Link) → T (in_range k) → length (happens e v t (line_of k)).sent ≤ 262
unfolding happens on_host_byte
happened (HostByte b) v t k r = heard _ b (line_of k) t
happened IdleMark v t k r = marked (line_of k) t
happened AckWaitOver v t k r = waited k t r
happened Poll v t k r = polled t (line_of k)
happened (BusValue id) v t k r = omega arith
happened (TransmissionOutcome id o) v t k r = omega arith

pub sent_small : (e : Event) (v : List ℕ) (t : Tables) (k : Link) (out : List ℕ) → sent_count (call e v t k out).reply ≤ 262
unfolding call refused accepted sent_count
sent_small e v t k out = go (eqb (refusal e v t k (length out)) 0) refl
  where
    go : (a : Bool) → eqb (refusal e v t k (length out)) 0 ≡ a → sent_count (call e v t k out).reply ≤ 262
    go true p = simp p (happened e v t k (not_refused e v t k (length out) (eqb-true _ _ p)).link)
    go false p = simp p (omega arith)
