-- Each data frame that is sent reads back to its one message and count bit.
use Prim.Native.Nat.{ℕ, ◌≤◌}
use mathlib.Core.Path.{◌≡◌, refl, sym, ◌∙◌, ap, subst}
use mathlib.Core.Bool.{Bool, true, false, not}
use mathlib.Core.List.{List, [], ◌++◌}
use lib.ListN.{length, drop}
use lib.Seq.{take-append_seam}
use lib.Dec.{T, ltb}
use borrow.Author.Tests.{ltb-false}
use Rattle.words.specs.Words.{is_empty}
use Rattle.ft12.specs.declared.rules.Heard.{Heard}
use Rattle.ft12.specs.declared.rules.Heard.TheVariants.{Gathered, Dropped, Ignored, Acknowledged, Reset, Repeat, Request}
use Rattle.ft12.specs.Frame.{acknowledgement, data_frame}
use Rattle.ft12.specs.Record.{Line, line_of, server_control, memory_ok, line_ok, in_range, holds_nothing, frame_held, OutstandingInRange}
use Rattle.ft12.specs.Rules.{Moved, holding, heard_at, on_heard, on_host_byte, on_idle_mark, on_ack_wait_over, on_message}
use Rattle.words.proofs.WordLaws.{right}
use Rattle.ft12.proofs.RecordLaws.{line_of-link_of, outstanding_decided}
use Rattle.ft12.proofs.RulesLaws.{outstanding_of}
use Rattle.ft12.proofs.HearingLaws.{frame_reads, reads_one}
use Rattle.baos.specs.Table.{Tables}
use Rattle.baos.specs.Message.{Served}
use Rattle.baos.specs.Service.{carried_out}
use Rattle.baos.specs.Indication.{indication}
use Rattle.calls.specs.declared.event.Event.{Event}
use Rattle.calls.specs.declared.event.Event.TheVariants.{HostByte, IdleMark, AckWaitOver, Poll, BusValue, TransmissionOutcome}
use Rattle.calls.specs.Call.{saying, handed_up, on_moved, on_poll, happens, accepted, call}
use Rattle.calls.proofs.CallLaws.{not_refused}
use Rattle.demands.specs.Run.{sent_of}
use Rattle.demands.specs.Host.{host_reads}
use Rattle.demands.proofs.HostLaws.{frame_read, answer_read, acknowledgement_read, fixed_read}
use Rattle.demands.specs.SentFrames.{ReadsBack, Sends, nothing, acknowledges, resets, frames, answers, SentFramesRead}

built_back : (odd : Bool) (m : List ℕ) → length m ≤ 254 → ReadsBack (data_frame (server_control odd) m) odd
built_back odd m h =
    record {
      message = m;
      short = h;
      built = refl;
      heard = frame_read odd m h;
      reads = frame_reads (server_control odd) m h;
      only = λ c x r. reads_one r (frame_reads (server_control odd) m h);
    }

-- each form, as the host hears it
acknowledging : {s : List ℕ} {l : Line} → s ≡ acknowledgement → Sends s l
acknowledging e = acknowledges e (ap host_reads e ∙ acknowledgement_read)

framing : {s : List ℕ} {l : Line} → s ≡ l.outstanding → ReadsBack l.outstanding l.send → Sends s l
framing e r = frames e r (ap host_reads e ∙ r.heard)

answering : {s : List ℕ} {l : Line} → s ≡ acknowledgement ++ l.outstanding → ReadsBack l.outstanding l.send → Sends s l
answering {s} {l} e r = answers e r (ap host_reads (e ∙ ap (λ (f : List ℕ). acknowledgement ++ f) r.built) ∙ answer_read l.send r.message r.short)

-- ---- a message taken back
data Framed (v : Moved) : Type 0 where
  silent : v.sent ≡ [] → Framed v
  framed : v.sent ≡ v.line.outstanding → ReadsBack v.line.outstanding v.line.send → Framed v

message_framed : (m : List ℕ) (l : Line) → Framed (on_message m l)
unfolding on_message holding
message_framed m l = go (is_empty m) (ltb 254 (length m)) (is_empty l.outstanding) refl refl refl
  where
    go : (a b c : Bool) → is_empty m ≡ a → ltb 254 (length m) ≡ b → is_empty l.outstanding ≡ c → Framed (on_message m l)
    go true b c p q r = simp p (silent refl)
    go false true c p q r = simp (p, q) (silent refl)
    go false false false p q r = simp (p, q, r) (silent refl)
    go false false true p q r = simp (p, q, r) (framed refl (built_back l.send m (ltb-false 254 (length m) q)))

-- right after an acknowledgement, or after nothing
answer_sends : (v : Served) (l : Line) → Sends (saying acknowledgement v l).sent (saying acknowledgement v l).line
unfolding saying
answer_sends v l = go (message_framed v.says l)
  where
    go : Framed (on_message v.says l) → Sends (acknowledgement ++ (on_message v.says l).sent) (on_message v.says l).line
    go (silent e) = acknowledging (ap (λ (s : List ℕ). acknowledgement ++ s) e)
    go (framed e r) = answering (ap (λ (s : List ℕ). acknowledgement ++ s) e) r

indication_sends : (v : Served) (l : Line) → Sends (saying [] v l).sent (saying [] v l).line
unfolding saying
indication_sends v l = go (message_framed v.says l)
  where
    go : Framed (on_message v.says l) → Sends (on_message v.says l).sent (on_message v.says l).line
    go (silent e) = nothing e
    go (framed e r) = framing e r

-- ---- each event
heard_sends : (h : Heard) (b : ℕ) (t : Tables) (l : Line) → Sends (on_moved (on_heard h b l) t).sent (on_moved (on_heard h b l) t).line
unfolding on_moved on_heard handed_up
heard_sends Gathered b t l = nothing refl
heard_sends Dropped b t l = nothing refl
heard_sends Ignored b t l = nothing refl
heard_sends Acknowledged b t l = nothing refl
heard_sends Reset b t l = acknowledging refl
heard_sends Repeat b t l = acknowledging refl
heard_sends (Request n) b t l = answer_sends (carried_out t _) _

-- "outstanding frame sent again unaltered"
wait_sends : (t : Tables) (l : Line) → T (line_ok l) → Sends (on_moved (on_ack_wait_over l) t).sent (on_moved (on_ack_wait_over l) t).line
unfolding on_moved handed_up on_ack_wait_over
wait_sends t l o = go (is_empty l.outstanding) (ltb l.resends 3) refl refl
  where
    whole : is_empty l.outstanding ≡ false → OutstandingInRange l → ReadsBack l.outstanding l.send
    whole e (holds_nothing n z) = absurd (subst (λ (b : Bool). T (not b)) (sym e ∙ ap is_empty n) tt)
    whole e (frame_held w h) = subst (λ (f : List ℕ). ReadsBack f l.send) (sym w.frame) (built_back l.send w.carried w.short)

    go : (u v : Bool) → is_empty l.outstanding ≡ u → ltb l.resends 3 ≡ v → Sends (on_moved (on_ack_wait_over l) t).sent (on_moved (on_ack_wait_over l) t).line
    go true v e d = simp (e, on_ack_wait_over) (nothing refl)
    go false true e d = simp (e, d, on_ack_wait_over) (unfold holding in framing refl (whole e ((outstanding_decided l).0 (outstanding_of l o))))
    go false false e d = simp (e, d, on_ack_wait_over) (resets refl (fixed_read 0xC0))

poll_sends : (t : Tables) (l : Line) → Sends (on_poll t l).sent (on_poll t l).line
unfolding on_poll
poll_sends t l = go (is_empty l.outstanding) refl
  where
    go : (u : Bool) → is_empty l.outstanding ≡ u → Sends (on_poll t l).sent (on_poll t l).line
    go true e = simp (e, on_poll) (indication_sends (indication t) l)
    go false e = simp (e, on_poll) (nothing refl)

pub happens_sends : (e : Event) (v : List ℕ) (t : Tables) (l : Line) → T (line_ok l) → Sends (happens e v t l).sent (happens e v t l).line
unfolding happens
happens_sends (HostByte b) v t l o = unfold on_host_byte in heard_sends (heard_at b l) b t l
happens_sends IdleMark v t l o = nothing (unfold on_moved handed_up on_idle_mark in refl)
happens_sends AckWaitOver v t l o = wait_sends t l o
happens_sends Poll v t l o = poll_sends t l
happens_sends (BusValue id) v t l o = nothing refl
happens_sends (TransmissionOutcome id x) v t l o = nothing refl

pub sent_frames_read : SentFramesRead
unfolding call accepted sent_of
sent_frames_read e v t k out h =
    let line = right (memory_ok k) (line_ok (line_of k)) (unfold in_range in (not_refused e v t k (length out) h).link) in
    let d = happens e v t (line_of k) in
    simp h (rw (take-append_seam d.sent (drop (length d.sent) out), line_of-link_of d.line) (happens_sends e v t (line_of k) line))
