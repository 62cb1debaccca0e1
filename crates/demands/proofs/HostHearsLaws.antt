-- What the host hears of each call, and of calls one after the other.
use Prim.Native.Nat.{ℕ}
use mathlib.Core.Path.{◌≡◌, refl, sym, ◌∙◌, ap, subst}
use mathlib.Core.Bool.{Bool, true, false, not}
use mathlib.Core.List.{List, [], ◌∷◌, ◌++◌}
use lib.ListN.{length, drop}
use lib.Seq.{take-append_seam}
use lib.Dec.{T, ltb, eqb}
use borrow.Author.Tests.{le-ltb, eqb-true}
use Rattle.words.specs.Words.{is_empty}
use Rattle.ft12.specs.declared.record.Link.{Link}
use Rattle.ft12.specs.declared.rules.Heard.{Heard}
use Rattle.ft12.specs.declared.rules.Heard.TheVariants.{Gathered, Dropped, Ignored, Acknowledged, Reset, Repeat, Request}
use Rattle.ft12.specs.Frame.{acknowledgement, data_frame, message_of}
use Rattle.ft12.specs.Record.{Line, line_of, server_control, memory_ok, line_ok, in_range, holds_nothing, frame_held, OutstandingInRange}
use Rattle.ft12.specs.Rules.{at_start, expecting, heard_at, on_heard, on_host_byte, on_idle_mark, on_ack_wait_over, on_message}
use Rattle.words.proofs.WordLaws.{left, right, T_true}
use Rattle.ft12.proofs.FrameLaws.{frame_message}
use Rattle.ft12.proofs.RecordLaws.{outstanding_decided}
use Rattle.ft12.proofs.RulesLaws.{outstanding_of, message_free}
use Rattle.baos.specs.Table.{Tables}
use Rattle.baos.specs.Service.{carried_out}
use Rattle.baos.specs.Indication.{indication}
use Rattle.baos.proofs.AnswerLaws.{Sized, none, some, answer_sized, indication_sized}
use Rattle.calls.specs.declared.event.Event.{Event}
use Rattle.calls.specs.declared.event.Event.TheVariants.{HostByte, IdleMark, AckWaitOver, Poll, BusValue, TransmissionOutcome}
use Rattle.calls.specs.Call.{saying, handed_up, on_moved, on_poll, happens, refusal, accepted, call}
use Rattle.calls.proofs.CallLaws.{not_refused}
use Rattle.demands.specs.Run.{sent_of}
use Rattle.demands.specs.Host.{HostHeard, heard_acknowledgement, heard_message, hears_up_to, host_reads}
use Rattle.demands.specs.HostHears.{said, to_hear_of, to_hear, HostHears, SentAgain, all_accepted, all_sent, all_to_hear, HostHearsAll}
use Rattle.demands.proofs.HostLaws.{HeardAs, heard_alone, heard_none, heard-both, heard-E5, heard_fixed_frame, heard_frame}

-- ---- a message taken back, with nothing outstanding
said-heard : (s : List ℕ) (l : Line) → Sized s → is_empty l.outstanding ≡ true → HeardAs (on_message s l).sent (said l.send s)
unfolding on_message said
said-heard s l (none e) o = rw e heard_none
said-heard [] l (some a b) o = heard_none
said-heard (x ∷ s) l (some a b) o = simp (le-ltb 254 (length (x ∷ s)) b, o) (heard_frame l.send (x ∷ s) b)

-- ---- each event
heard_byte : (h : Heard) (b : ℕ) (t : Tables) (l : Line) → h ≡ heard_at b l → HeardAs (on_moved (on_heard h b l) t).sent (to_hear_of h b t l)
unfolding on_moved on_heard handed_up saying to_hear_of expecting at_start
heard_byte Gathered b t l e = heard_none
heard_byte Dropped b t l e = heard_none
heard_byte Ignored b t l e = heard_none
heard_byte Acknowledged b t l e = heard_none
heard_byte Reset b t l e = heard-E5
heard_byte Repeat b t l e = heard-E5
heard_byte (Request n) b t l e =
    let m : List ℕ = message_of (l.gathered ++ b ∷ []) in
    let free : is_empty l.outstanding ≡ true = message_free b l m (unfold on_host_byte in rw (← e) refl) in
    heard-both acknowledgement (on_message (carried_out t m).says (expecting (not l.expected) (at_start l))).sent (heard_acknowledgement ∷ []) (said l.send (carried_out t m).says) heard-E5
    (said-heard (carried_out t m).says (expecting (not l.expected) (at_start l)) (answer_sized t m) free)

-- "outstanding frame sent again unaltered"
heard_again : (l : Line) → T (line_ok l) → is_empty l.outstanding ≡ false → HeardAs l.outstanding (heard_message l.send (message_of l.outstanding) ∷ [])
heard_again l o e = go ((outstanding_decided l).0 (outstanding_of l o))
  where
    go : OutstandingInRange l → HeardAs l.outstanding (heard_message l.send (message_of l.outstanding) ∷ [])
    go (holds_nothing n z) = absurd (subst (λ (b : Bool). T (not b)) (sym e ∙ ap is_empty n) tt)
    go (frame_held w h) =
        subst (λ (f : List ℕ). HeardAs f (heard_message l.send (message_of f) ∷ [])) (sym w.frame)
        (subst (λ (m : List ℕ). HeardAs (data_frame (server_control l.send) w.carried) (heard_message l.send m ∷ [])) (sym (frame_message (server_control l.send) w.carried))
        (heard_frame l.send w.carried w.short))

heard_wait : (t : Tables) (l : Line) → T (line_ok l) → HeardAs (on_moved (on_ack_wait_over l) t).sent (to_hear AckWaitOver t l)
unfolding on_moved handed_up on_ack_wait_over to_hear
heard_wait t l o = go (is_empty l.outstanding) (ltb l.resends 3) refl refl
  where
    go : (u v : Bool) → is_empty l.outstanding ≡ u → ltb l.resends 3 ≡ v → HeardAs (on_moved (on_ack_wait_over l) t).sent (to_hear AckWaitOver t l)
    go true v e d = simp (e, on_ack_wait_over, to_hear) heard_none
    go false true e d = simp (e, d, on_ack_wait_over, to_hear) (heard_again l o e)
    go false false e d = simp (e, d, on_ack_wait_over, to_hear) (heard_fixed_frame 0xC0)

heard_poll : (t : Tables) (l : Line) → HeardAs (on_poll t l).sent (to_hear Poll t l)
unfolding on_poll saying to_hear
heard_poll t l = go (is_empty l.outstanding) refl
  where
    go : (u : Bool) → is_empty l.outstanding ≡ u → HeardAs (on_poll t l).sent (to_hear Poll t l)
    go true e = simp (e, on_poll, to_hear) (said-heard (indication t).says l (indication_sized t) e)
    go false e = simp (e, on_poll, to_hear) heard_none

happens-heard : (e : Event) (v : List ℕ) (t : Tables) (l : Line) → T (line_ok l) → HeardAs (happens e v t l).sent (to_hear e t l)
unfolding happens to_hear
happens-heard (HostByte b) v t l o = unfold on_host_byte in heard_byte (heard_at b l) b t l refl
happens-heard IdleMark v t l o = unfold on_moved handed_up on_idle_mark in heard_none
happens-heard AckWaitOver v t l o = heard_wait t l o
happens-heard Poll v t l o = heard_poll t l
happens-heard (BusValue id) v t l o = heard_none
happens-heard (TransmissionOutcome id x) v t l o = heard_none

-- ---- the call
module _ (e : Event) (v : List ℕ) (t : Tables) (k : Link) (out : List ℕ) (h : refusal e v t k (length out) ≡ 0) where
  abbrev sent : List ℕ
  sent = sent_of (call e v t k out).reply (call e v t k out).output

  in_order : T (line_ok (line_of k))
  in_order = right (memory_ok k) (line_ok (line_of k)) (unfold in_range in (not_refused e v t k (length out) h).link)

  sent_is : sent ≡ (happens e v t (line_of k)).sent
  unfolding call accepted sent_of
  sent_is = simp h (take-append_seam (happens e v t (line_of k)).sent (drop (length (happens e v t (line_of k)).sent) out))

  call_heard : HeardAs sent (to_hear e t (line_of k))
  call_heard = subst (λ (s : List ℕ). HeardAs s (to_hear e t (line_of k))) (sym sent_is) (happens-heard e v t (line_of k) in_order)

pub host_hears : HostHears
host_hears e v t k out h = heard_alone _ _ (call_heard e v t k out h)

pub sent_again : SentAgain
unfolding happens on_moved handed_up on_ack_wait_over
sent_again v t k out h o r =
    let few : ltb (line_of k).resends 3 ≡ true = unfold line_of in r in
    sent_is AckWaitOver v t k out h ∙ simp (o, few)

pub host_hears_all : HostHearsAll
unfolding all_accepted all_sent all_to_hear
host_hears_all [] t k a = unfold host_reads hears_up_to in refl
host_hears_all (x ∷ xs) t k a =
    let c = call x.event x.value t k x.output in
    let n : ℕ = refusal x.event x.value t k (length x.output) in
    let first : n ≡ 0 = eqb-true n 0 (T_true (eqb n 0) (left (eqb n 0) (all_accepted xs c.tables c.link) a)) in
    call_heard x.event x.value t k x.output first (all_sent xs c.tables c.link)
    ∙ ap (λ (hs : List HostHeard). to_hear x.event t (line_of k) ++ hs) (host_hears_all xs c.tables c.link (right (eqb n 0) (all_accepted xs c.tables c.link) a))
