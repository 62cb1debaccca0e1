-- The link record: what it holds, and its range test decides the paper's words.
use Prim.Native.Nat.{ℕ, ◌≤◌}
use mathlib.Core.Path.{◌≡◌, refl}
use mathlib.Core.Logic.{◌↔◌}
use mathlib.Core.Bool.{Bool, true, false, ◌&&◌}
use mathlib.Core.List.{List, [], ◌∷◌}
use native.Mathlib.Omega.{arith}
use lib.ListN.{length}
use lib.Dec.{T, leb, leb→le, le→leb, ltb→lt, lt→ltb, eqb→eq}
use Rattle.ft12.specs.declared.record.Link.{Link}
use Rattle.words.specs.Words.{is_yes_or_no, yes_or_no, is_empty, pad, is_padded, are_bytes}
use Rattle.ft12.specs.Frame.{Whole, is_whole, data_frame}
use Rattle.ft12.specs.Record.{Line, line_of, link_of, server_control, receiver_ok, outstanding_ok, line_ok, two_valued, memory_ok, in_range, ReceiverInRange, beginning, drops, OutstandingInRange, holds_nothing, frame_held, InRange}
use Rattle.words.proofs.WordLaws.{left, right, both, parts3, join3, T_true, read_written, written_is, written_read, take-pad, pad-take, pad_padded, padded_length, padded_decided, bytes_take, empty_eq}
use Rattle.ft12.proofs.ReceiverLaws.{beginning_short}
use Rattle.ft12.proofs.FrameLaws.{tested_begins, begins_tested, tested_whole, whole_tested}

-- ---- the record and what it holds
pub line_of-link_of : (l : Line) → line_of (link_of l) ≡ l
unfolding line_of link_of
line_of-link_of l =
    λ i. record {
      gathered = take-pad 260 l.gathered i;
      dropping = read_written l.dropping i;
      expected = read_written l.expected i;
      send = read_written l.send i;
      outstanding = take-pad 261 l.outstanding i;
      resends = l.resends;
    }

-- the three parts of the memory's test, and those of its last
pub memory_parts : (k : Link) → T (memory_ok k) → T (is_padded 260 k.received k.receiver) × T (is_padded 261 k.held k.outstanding) × T (two_valued k.dropping k.expected k.send)
unfolding memory_ok
memory_parts k t = parts3 (is_padded 260 k.received k.receiver) (is_padded 261 k.held k.outstanding) (two_valued k.dropping k.expected k.send) t

pub two_valued_parts : (k : Link) → T (two_valued k.dropping k.expected k.send) → T (is_yes_or_no k.dropping) × T (is_yes_or_no k.expected) × T (is_yes_or_no k.send)
unfolding two_valued
two_valued_parts k t = parts3 (is_yes_or_no k.dropping) (is_yes_or_no k.expected) (is_yes_or_no k.send) t

-- a record whose unused bytes are 0 holds nothing beside what it holds
pub link_of-line_of : (k : Link) → T (memory_ok k) → link_of (line_of k) ≡ k
unfolding line_of link_of
link_of-line_of k t =
    let r = (memory_parts k t).0 in
    let o = (memory_parts k t).1 in
    let b = two_valued_parts k (memory_parts k t).2 in
    let d = written_read k.dropping b.0 in
    let x = written_read k.expected b.1 in
    let s = written_read k.send b.2 in
    let p = pad-take 260 k.received k.receiver r in
    let q = pad-take 261 k.held k.outstanding o in
    let u = padded_length 260 k.received k.receiver r in
    let v = padded_length 261 k.held k.outstanding o in
    λ i. record { receiver = p i; received = u i; dropping = d i; expected = x i; send = s i; outstanding = q i; held = v i; resends = k.resends }

-- ---- a line that is in order fits its record
gathered_short : (dropping : Bool) (g : List ℕ) → T (receiver_ok dropping g) → length g ≤ 260
unfolding receiver_ok
gathered_short true [] t = omega arith
gathered_short true (x ∷ g) t = absurd t
gathered_short false g t = beginning_short g t

outstanding_short : (send : Bool) (resends : ℕ) (f : List ℕ) → T (outstanding_ok send resends f) → length f ≤ 261
unfolding outstanding_ok is_whole
outstanding_short send resends [] t = omega arith
outstanding_short send resends (x ∷ f) t =
    leb→le (length (x ∷ f)) 261 (left (leb (length (x ∷ f)) 261) _ (left (is_whole (server_control send) (x ∷ f)) (leb resends 3) t))

pub line_in_range : (l : Line) → T (line_ok l) → T (in_range (link_of l))
unfolding in_range
line_in_range l t =
    both (memory_ok (link_of l)) (line_ok (line_of (link_of l))) memory (rw line_of-link_of t)
  where
    r : Bool
    r = receiver_ok l.dropping l.gathered

    o : Bool
    o = outstanding_ok l.send l.resends l.outstanding

    memory : T (memory_ok (link_of l))
    memory =
        unfold memory_ok two_valued link_of in
        join3 (is_padded 260 (length l.gathered) (pad 260 l.gathered)) (is_padded 261 (length l.outstanding) (pad 261 l.outstanding))
        (is_yes_or_no (yes_or_no l.dropping) && is_yes_or_no (yes_or_no l.expected) && is_yes_or_no (yes_or_no l.send))
        (pad_padded 260 (length l.gathered) l.gathered refl (gathered_short l.dropping l.gathered (unfold line_ok in left r o t)))
        (pad_padded 261 (length l.outstanding) l.outstanding refl (outstanding_short l.send l.resends l.outstanding (unfold line_ok in right r o t)))
        (join3 (is_yes_or_no (yes_or_no l.dropping)) (is_yes_or_no (yes_or_no l.expected)) (is_yes_or_no (yes_or_no l.send)) (written_is l.dropping) (written_is l.expected) (written_is l.send))

-- ---- the range test decides the paper's words
pub receiver_decided : (l : Line) → T (are_bytes l.gathered) → T (receiver_ok l.dropping l.gathered) ↔ ReceiverInRange l
unfolding receiver_ok
receiver_decided l bytes = (to l.dropping refl, from)
  where
    to : (b : Bool) → l.dropping ≡ b → T (receiver_ok l.dropping l.gathered) → ReceiverInRange l
    to true e t = drops e (empty_eq l.gathered (T_true (is_empty l.gathered) (simp e at t)))
    to false e t = beginning e (tested_begins l.gathered bytes (simp e at t))

    from : ReceiverInRange l → T (receiver_ok l.dropping l.gathered)
    from (beginning e b) = simp e (begins_tested l.gathered b)
    from (drops e d) = simp (e, d) tt

whole_some : (c : ℕ) (f : List ℕ) → Whole c f → is_empty f ≡ false
unfolding data_frame
whole_some c f w = rw w.frame

pub outstanding_decided : (l : Line) → T (outstanding_ok l.send l.resends l.outstanding) ↔ OutstandingInRange l
unfolding outstanding_ok
outstanding_decided l = (to (is_empty l.outstanding) refl, from)
  where
    c : ℕ
    c = server_control l.send

    to : (b : Bool) → is_empty l.outstanding ≡ b → T (outstanding_ok l.send l.resends l.outstanding) → OutstandingInRange l
    to true e t = holds_nothing (empty_eq l.outstanding e) (eqb→eq l.resends 0 (simp e at t))
    to false e t =
        frame_held (tested_whole c l.outstanding (left (is_whole c l.outstanding) (leb l.resends 3) (simp e at t)))
        (leb→le l.resends 3 (right (is_whole c l.outstanding) (leb l.resends 3) (simp e at t)))

    from : OutstandingInRange l → T (outstanding_ok l.send l.resends l.outstanding)
    from (holds_nothing e d) = simp (e, d) tt
    from (frame_held w h) =
        simp (whole_some c l.outstanding w)
        (both (is_whole c l.outstanding) (leb l.resends 3) (whole_tested c l.outstanding w) (le→leb l.resends 3 h))

-- "It is in range when ..": the test decides it, for a record whose receiver holds bytes
pub in_range_decided : (k : Link) → T (are_bytes k.receiver) → T (in_range k) ↔ InRange k
unfolding in_range line_ok memory_ok
in_range_decided k bytes = (to, from)
  where
    l : Line
    l = line_of k

    a : Bool
    a = is_padded 260 k.received k.receiver

    b : Bool
    b = is_padded 261 k.held k.outstanding

    v : Bool
    v = two_valued k.dropping k.expected k.send

    r : Bool
    r = receiver_ok l.dropping l.gathered

    o : Bool
    o = outstanding_ok l.send l.resends l.outstanding

    gathered_bytes : T (are_bytes l.gathered)
    gathered_bytes = unfold line_of in bytes_take k.received k.receiver bytes

    to : T (in_range k) → InRange k
    to t =
        let m = memory_parts k (left (a && b && v) (r && o) t) in
        let w = two_valued_parts k m.2 in
        let n = right (a && b && v) (r && o) t in
        record {
          receiver_padded = (padded_decided 260 k.received k.receiver).0 m.0;
          outstanding_padded = (padded_decided 261 k.held k.outstanding).0 m.1;
          dropping_two_valued = omega (arith, ltb→lt k.dropping 2 w.0);
          expected_two_valued = omega (arith, ltb→lt k.expected 2 w.1);
          send_two_valued = omega (arith, ltb→lt k.send 2 w.2);
          receiver_in_range = (receiver_decided l gathered_bytes).0 (left r o n);
          outstanding_in_range = (outstanding_decided l).0 (right r o n);
        }

    from : InRange k → T (in_range k)
    from i =
        let bits : T (two_valued k.dropping k.expected k.send) =
        unfold two_valued in
        join3 (is_yes_or_no k.dropping) (is_yes_or_no k.expected) (is_yes_or_no k.send) (lt→ltb k.dropping 2 (omega (arith, i.dropping_two_valued)))
        (lt→ltb k.expected 2 (omega (arith, i.expected_two_valued))) (lt→ltb k.send 2 (omega (arith, i.send_two_valued))) in
        both (a && b && v) (r && o)
        (join3 a b v ((padded_decided 260 k.received k.receiver).1 i.receiver_padded) ((padded_decided 261 k.held k.outstanding).1 i.outstanding_padded) bits)
        (both r o ((receiver_decided l gathered_bytes).1 i.receiver_in_range) ((outstanding_decided l).1 i.outstanding_in_range))
