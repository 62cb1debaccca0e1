-- Idle mark, ack wait and a message taken back: what the code leaves in the record and in the buffer is what the rules say.
use Rattle.std.proofs.Common.{ℕ, zero, suc, ◌+◌, ◌-◌, ◌≤◌, ◌<◌, ◌≡◌, refl, sym, ◌∙◌, ap, Bool, true, List, [], ◌++◌, append-nil, arith, length, take, drop, replicate, length-take, length-drop, take-append-drop, length-take-le, T, eqb, lt-ltb, le-ltb, ne_eqb}
use mathlib.Core.Bool.{or-true}
use Rattle.ft12.specs.declared.record.Link.{Link}
use Rattle.words.specs.Words.{is_yes, yes_or_no, is_empty, pad, put}
use Rattle.ft12.specs.Frame.{fixed_frame, data_frame}
use Rattle.ft12.specs.Record.{Line, link_with, line_of, link_of, server_control, memory_ok, in_range}
use Rattle.ft12.specs.Rules.{Moved, nothing, dropped, still, at_start, cleared, holding, on_idle_mark, on_ack_wait_over, on_message}
use Rattle.ft12.specs.Promise.{AckWaited, MessageTaken}
use Rattle.words.proofs.WordLaws.{left, some_filled}
use Rattle.words.proofs.ByteLaws.{put_read}
use Rattle.ft12.proofs.FrameLaws.{frame_length}
use Rattle.ft12.proofs.RecordLaws.{link_of-line_of}
use Rattle.ft12.proofs.RulesLaws.{message_waits}
use Rattle.ft12.proofs.RangeLaws.{empty_take}
use Rattle.ft12.proofs.PlaceLaws.{emptied, receiver_padded_lem, outstanding_padded_lem, held_fits, outstanding_places, gathered_stays, received_stays, dropping_stays, expected_stays, send_stays, held_stays, count_stays}

-- a record whose parts are those of a line is that line's
parts_are : (l : Line) (receiver : List ℕ) (received dropping expected send : ℕ) (outstanding : List ℕ) (held resends : ℕ)
    → receiver ≡ pad 260 l.gathered → received ≡ length l.gathered → dropping ≡ yes_or_no l.dropping → expected ≡ yes_or_no l.expected → send ≡ yes_or_no l.send
    → outstanding ≡ pad 261 l.outstanding → held ≡ length l.outstanding → resends ≡ l.resends
    → link_with receiver received dropping expected send outstanding held resends ≡ link_of l
unfolding link_of
parts_are l receiver received dropping expected send outstanding held resends a b c d e f g h =
    λ i. record { receiver = a i; received = b i; dropping = c i; expected = d i; send = e i; outstanding = f i; held = g i; resends = h i }

-- a record in range is its line's
pub range_stays : (k : Link) → T (in_range k) → k ≡ link_of (line_of k)
unfolding in_range
range_stays k t = sym (link_of-line_of k (left (memory_ok k) _ t))

-- nothing written
pub put_none : (l : List ℕ) (at : ℕ) → l ≡ put l at []
unfolding put
put_none l at =
    let e : at + 0 ≡ at = omega arith in
    sym (ap {B = List ℕ} (λ (n : ℕ). (take at l ++ []) ++ drop n l) e ∙ ap {B = List ℕ} (λ (s : List ℕ). s ++ drop at l) (append-nil (take at l)) ∙ take-append-drop at l)

-- ---- an idle mark
pub place_idle : (k : Link) (receiver : List ℕ) (received : ℕ) → T (in_range k) → receiver ≡ replicate k.received 0 ++ drop k.received k.receiver → received ≡ 0
    → link_with receiver received 0 k.expected k.send k.outstanding k.held k.resends ≡ link_of (on_idle_mark (line_of k)).line
place_idle k receiver received t r n =
    parts_are (on_idle_mark (line_of k)).line _ _ _ _ _ _ _ _
    (unfold on_idle_mark at_start in (r ∙ emptied 260 k.received k.receiver (receiver_padded_lem k t))) (unfold on_idle_mark at_start in n) (unfold on_idle_mark at_start in refl)
    (unfold on_idle_mark at_start line_of in expected_stays k t) (unfold on_idle_mark at_start line_of in send_stays k t) (unfold on_idle_mark at_start in held_stays k t) (unfold on_idle_mark at_start in count_stays k t) (unfold on_idle_mark at_start line_of in refl)

-- ---- ack wait over
held_empty : (k : Link) → T (in_range k) → is_empty (line_of k).outstanding ≡ eqb k.held 0
unfolding line_of
held_empty k t = sym (empty_take k.held k.outstanding (omega (arith, held_fits k t, outstanding_places k t)))

pub wait_none : (k : Link) → T (in_range k) → k.held ≡ 0 → on_ack_wait_over (line_of k) ≡ still (line_of k)
unfolding on_ack_wait_over
wait_none k t e = simp (held_empty k t, e)

resends_are : (k : Link) → (line_of k).resends ≡ k.resends
unfolding line_of
resends_are k = refl

wait_again : (k : Link) → T (in_range k) → (k.held ≡ 0 → ⊥) → k.resends < 3
    → on_ack_wait_over (line_of k) ≡ record { sent = (line_of k).outstanding; up = nothing; line = holding (line_of k).outstanding ((line_of k).resends + 1) (line_of k) }
unfolding on_ack_wait_over
wait_again k t e h = simp (held_empty k t, ne_eqb k.held 0 e, lt-ltb (line_of k).resends 3 (omega (arith, resends_are k)))

wait_over : (k : Link) → T (in_range k) → (k.held ≡ 0 → ⊥) → 3 ≤ k.resends
    → on_ack_wait_over (line_of k) ≡ record { sent = fixed_frame 0xC0; up = dropped; line = cleared true (line_of k) }
unfolding on_ack_wait_over
wait_over k t e h = simp (held_empty k t, ne_eqb k.held 0 e, le-ltb (line_of k).resends 3 (omega (arith, resends_are k)))

held_is : (k : Link) → (line_of k).outstanding ≡ take k.held k.outstanding
unfolding line_of
held_is k = refl

-- a record with this frame outstanding under its send bit, sent again so often
placed_frame : (k : Link) (f outstanding : List ℕ) (held n : ℕ) → T (in_range k) → outstanding ≡ pad 261 f → held ≡ length f
    → link_with k.receiver k.received k.dropping k.expected k.send outstanding held n ≡ link_of (holding f n (line_of k))
unfolding holding link_of line_of
placed_frame k f outstanding held n t o h =
    let r = gathered_stays k t in
    let m = received_stays k t in
    let d = dropping_stays k t in
    let x = expected_stays k t in
    let s = send_stays k t in
    λ i. record { receiver = r i; received = m i; dropping = d i; expected = x i; send = s i; outstanding = o i; held = h i; resends = n }

placed_cleared : (k : Link) (send : Bool) (outstanding : List ℕ) (held : ℕ) → T (in_range k) → outstanding ≡ pad 261 [] → held ≡ 0
    → link_with k.receiver k.received k.dropping k.expected (yes_or_no send) outstanding held 0 ≡ link_of (cleared send (line_of k))
unfolding cleared link_of line_of
placed_cleared k send outstanding held t o h =
    let r = gathered_stays k t in
    let m = received_stays k t in
    let d = dropping_stays k t in
    let x = expected_stays k t in
    λ i. record { receiver = r i; received = m i; dropping = d i; expected = x i; send = yes_or_no send; outstanding = o i; held = h i; resends = 0 }

fixed_length : (c : ℕ) → 4 ≡ length (fixed_frame c)
unfolding fixed_frame
fixed_length c = refl

module _ (k : Link) (out : List ℕ) (t : T (in_range k)) where
  pub waited_none : k.held ≡ 0 → AckWaited k out 0 out k
  waited_none e =
      record {
        link = range_stays k t ∙ ap (λ (m : Moved). link_of m.line) (sym (wait_none k t e));
        buffer = put_none out 0 ∙ ap (λ (m : Moved). put out 0 m.sent) (sym (wait_none k t e));
        answer = ap (λ (m : Moved). length m.sent) (sym (wait_none k t e));
      }

  pub waited_again : (out' : List ℕ) → (k.held ≡ 0 → ⊥) → k.resends < 3 → out' ≡ put out 0 (take k.held k.outstanding)
      → AckWaited k out k.held out' (link_with k.receiver k.received k.dropping k.expected k.send k.outstanding k.held (k.resends + 1))
  waited_again out' e h o =
      let w = sym (wait_again k t e h) in
      record {
        link =
            placed_frame k (line_of k).outstanding k.outstanding k.held (k.resends + 1) t (held_stays k t) (count_stays k t)
            ∙ ap (λ (n : ℕ). link_of (holding (line_of k).outstanding (n + 1) (line_of k))) (sym (resends_are k)) ∙ ap (λ (m : Moved). link_of m.line) w;
        buffer = o ∙ ap (put out 0) (sym (held_is k)) ∙ ap (λ (m : Moved). put out 0 m.sent) w;
        answer = count_stays k t ∙ ap (λ (m : Moved). length m.sent) w;
      }

  pub waited_over : (out' outstanding : List ℕ) (held : ℕ) → (k.held ≡ 0 → ⊥) → 3 ≤ k.resends → out' ≡ put out 0 (fixed_frame 0xC0)
      → outstanding ≡ replicate k.held 0 ++ drop k.held k.outstanding → held ≡ 0
      → AckWaited k out 4 out' (link_with k.receiver k.received k.dropping k.expected 1 outstanding held 0)
  waited_over out' outstanding held e h o f n =
      let w = sym (wait_over k t e h) in
      record {
        link = placed_cleared k true outstanding held t (f ∙ emptied 261 k.held k.outstanding (outstanding_padded_lem k t)) n ∙ ap (λ (m : Moved). link_of m.line) w;
        buffer = o ∙ ap (λ (m : Moved). put out 0 m.sent) w;
        answer = fixed_length 0xC0 ∙ ap (λ (m : Moved). length m.sent) w;
      }

-- ---- a message taken back
taken_still : (m : List ℕ) (k : Link) (out : List ℕ) (at : ℕ) → T (in_range k) → on_message m (line_of k) ≡ still (line_of k) → MessageTaken m k out at 0 out k
taken_still m k out at t e =
    record {
      link = range_stays k t ∙ ap (λ (x : Moved). link_of x.line) (sym e);
      buffer = put_none out at ∙ ap (λ (x : Moved). put out at x.sent) (sym e);
      answer = ap (λ (x : Moved). length x.sent) (sym e);
    }

-- a frame written over zeros
drop_zeros : (n k : ℕ) → drop k (replicate {A = ℕ} n 0) ≡ replicate (n - k) 0
drop_zeros n zero = let e : n ≡ n - 0 = omega arith in ap {B = List ℕ} (λ (i : ℕ). replicate i 0) e
drop_zeros zero (suc k) = let e : 0 ≡ 0 - suc k = omega arith in ap {B = List ℕ} (λ (i : ℕ). replicate i 0) e
drop_zeros (suc n) (suc k) = let e : n - k ≡ suc n - suc k = omega arith in drop_zeros n k ∙ ap {B = List ℕ} (λ (i : ℕ). replicate i 0) e

put_zeros : (places : ℕ) (a f : List ℕ) → a ≡ pad places [] → put a 0 f ≡ pad places f
unfolding put
put_zeros places a f e =
    let n : places - 0 - (0 + length f) ≡ places - length f = omega arith in
    ap {B = List ℕ} (λ (s : List ℕ). f ++ drop (0 + length f) s) e ∙ ap {B = List ℕ} (λ (s : List ℕ). f ++ s) (drop_zeros (places - 0) (0 + length f) ∙ ap {B = List ℕ} (λ (i : ℕ). replicate i 0) n)

-- how many bytes the message has that stands in a buffer with room
message_length : (out : List ℕ) (at n : ℕ) → at ≤ 1 → 262 ≤ length out → n ≤ 254 → length (take n (drop (at + 5) out)) ≡ n
message_length out at n h r s = length-take-le n (drop (at + 5) out) (omega (arith, length-drop (at + 5) out))

message_long : (out : List ℕ) (at n : ℕ) → at ≤ 1 → 262 ≤ length out → 254 < n → 254 < length (take n (drop (at + 5) out))
message_long out at n h r s = omega (arith, length-take n (drop (at + 5) out), length-drop (at + 5) out)

module _ (k : Link) (out : List ℕ) (at n : ℕ) (t : T (in_range k)) (h : at ≤ 1) (r : 262 ≤ length out) where
  abbrev m : List ℕ
  m = take n (drop (at + 5) out)

  abbrev c : ℕ
  c = server_control (is_yes k.send)

  pub taken_none : n ≡ 0 → MessageTaken m k out at 0 out k
  taken_none e = taken_still m k out at t (unfold on_message in rw e)

  pub taken_long : 254 < n → MessageTaken m k out at 0 out k
  taken_long e = taken_still m k out at t (unfold on_message in simp (lt-ltb 254 (length m) (message_long out at n h r e), or-true))

  pub taken_waits : (k.held ≡ 0 → ⊥) → MessageTaken m k out at 0 out k
  taken_waits e = taken_still m k out at t (message_waits m (line_of k) (held_empty k t ∙ ne_eqb k.held 0 e))

  framed : (n ≡ 0 → ⊥) → n ≤ 254 → k.held ≡ 0 → on_message m (line_of k) ≡ record { sent = data_frame c m; up = nothing; line = holding (data_frame c m) 0 (line_of k) }
  unfolding on_message
  framed e s z =
      let l : length m ≡ n = message_length out at n h r s in
      simp (held_empty k t, z, some_filled m (omega arith), le-ltb 254 (length m) (omega arith)) (unfold line_of in refl)

  pub taken_framed : (control : ℕ) (out' outstanding : List ℕ) → (n ≡ 0 → ⊥) → n ≤ 254 → k.held ≡ 0 → control ≡ c → out' ≡ put out at (data_frame control m)
      → outstanding ≡ put k.outstanding 0 (take (n + 7) (drop at out'))
      → MessageTaken m k out at (n + 7) out' (link_with k.receiver k.received k.dropping k.expected k.send outstanding (n + 7) 0)
  taken_framed control out' outstanding e s z x o f =
      let l : length (data_frame c m) ≡ n + 7 = frame_length c m ∙ ap (λ (i : ℕ). i + 7) (message_length out at n h r s) in
      let w = sym (framed e s z) in
      let b : out' ≡ put out at (data_frame c m) = o ∙ ap (λ (i : ℕ). put out at (data_frame i m)) x in
      let q : take (n + 7) (drop at out') ≡ data_frame c m = ap {B = List ℕ} (λ (u : List ℕ). take (n + 7) (drop at u)) b ∙ put_read out at at (n + 7) [] (data_frame c m) (omega arith) (omega arith) (sym l) in
      let p : k.outstanding ≡ pad 261 [] = held_stays k t ∙ ap (pad 261) (held_is k ∙ ap {B = List ℕ} (λ (i : ℕ). take i k.outstanding) z) in
      record {
        link =
            placed_frame k (data_frame c m) outstanding (n + 7) 0 t (f ∙ ap (put k.outstanding 0) q ∙ put_zeros 261 k.outstanding (data_frame c m) p) (sym l)
            ∙ ap (λ (y : Moved). link_of y.line) w;
        buffer = b ∙ ap (λ (y : Moved). put out at y.sent) w;
        answer = sym l ∙ ap (λ (y : Moved). length y.sent) w;
      }
