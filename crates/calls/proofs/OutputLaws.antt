-- The output, written more than once: an answer is built behind the room for its frame's head, and the frame goes over it.
use Prim.Native.Nat.{ℕ, ◌+◌, ◌-◌, ◌≤◌}
use mathlib.Core.Path.{◌≡◌, sym, ◌∙◌, ap}
use mathlib.Core.Bool.{true}
use mathlib.Core.List.{List, [], ◌∷◌, ◌++◌, append_assoc}
use native.Mathlib.Omega.{arith}
use lib.ListN.{length, take, drop, length-append}
use lib.Seq.{take-append-le, take-take, drop-append-add, drop-drop, length-take-le}
use borrow.Author.Tests.{le-ltb}
use Rattle.words.specs.Words.{is_empty, put}
use Rattle.ft12.specs.Frame.{data_frame}
use Rattle.ft12.specs.Record.{Line, server_control}
use Rattle.ft12.specs.Rules.{on_message}
use Rattle.words.proofs.ByteLaws.{put_read}
use Rattle.ft12.proofs.FrameLaws.{frame_length}
use Rattle.ft12.proofs.EventLaws.{put_none}

-- what is written at the front stands there, and the buffer is as it was behind it
pub put_front : (out s : List ℕ) → put out 0 s ≡ s ++ drop (length s) out
unfolding put
put_front out s =
    let e : 0 + length s ≡ length s = omega arith in
    ap {B = List ℕ} (λ (n : ℕ). s ++ drop n out) e

-- bytes that cover others leave nothing of them
pub put_over : (l : List ℕ) (at k : ℕ) (vs ws : List ℕ) → k ≤ at → at ≤ length l → at + length vs ≤ k + length ws → put (put l at vs) k ws ≡ put l k ws
unfolding put
put_over l at k vs ws h r e =
    let p : List ℕ = take at l ++ vs in
    let d : List ℕ = drop (at + length vs) l in
    let n : length (take at l) ≡ at = length-take-le at l r in
    let f : take k (p ++ d) ≡ take k l =
    ap {B = List ℕ} (take k) (append_assoc (take at l) vs d) ∙ take-append-le k (take at l) (vs ++ d) (omega arith) ∙ take-take k at l h in
    let j : ℕ = k + length ws - (at + length vs) in
    let g : drop (k + length ws) (p ++ d) ≡ drop (k + length ws) l =
    ap {B = List ℕ} (λ (i : ℕ). drop i (p ++ d)) {x = k + length ws} {y = length p + j} (omega (arith, length-append (take at l) vs)) ∙ drop-append-add p d j ∙ drop-drop j (at + length vs) l
    ∙ ap {B = List ℕ} (λ (i : ℕ). drop i l) {x = at + length vs + j} {y = k + length ws} (omega arith) in
    λ i. f i ++ ws ++ g i

-- a frame goes over its message, which stands behind the room for its head; where nothing is said nothing is written
pub framed_over : (o : List ℕ) (at i : ℕ) (m : List ℕ) (l : Line) → i ≡ at + 5 → is_empty l.outstanding ≡ true → length m ≤ 254 → at + 261 ≤ length o
    → put (put o i m) at (on_message m l).sent ≡ put o at (on_message m l).sent
unfolding on_message
framed_over o at i [] l w e h r = ap (λ (x : List ℕ). put x at []) (sym (put_none o i))
framed_over o at i (x ∷ m) l w e h r =
    let f : List ℕ = data_frame (server_control l.send) (x ∷ m) in
    let n : length f ≡ length (x ∷ m) + 7 = frame_length (server_control l.send) (x ∷ m) in
    simp (e, le-ltb 254 (length (x ∷ m)) h) (put_over o i at (x ∷ m) f (omega arith) (omega arith) (omega arith))

-- the message stands where it was written
pub message_stands : (o : List ℕ) (i n : ℕ) (m : List ℕ) → n ≡ length m → i + length m ≤ length o → take n (drop i (put o i m)) ≡ m
message_stands o i n m e h = put_read o i i n [] m (omega arith) (omega arith) e
