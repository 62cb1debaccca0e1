-- What the code leaves in the record is what the rules say: the parts that stay, and those that a host byte leaves.
use Prim.Native.Nat.{ℕ, zero, suc, ◌+◌, ◌-◌, ◌≤◌, ◌<◌}
use mathlib.Core.Path.{◌≡◌, refl, sym, ◌∙◌, ap}
use mathlib.Core.List.{List, [], ◌∷◌, ◌++◌}
use native.Mathlib.Omega.{arith}
use lib.ListN.{length, take, drop, set, replicate, length-append, length-drop, replicate-append-replicate}
use lib.Seq.{set_at, append_snoc}
use lib.Dec.{T, eqb, leb, eqb→eq, leb→le, ltb→lt}
use Rattle.ft12.specs.declared.record.Link.{Link}
use Rattle.ft12.specs.declared.receiver.Judgement.{Judgement}
use Rattle.ft12.specs.declared.rules.Heard.{Heard}
use Rattle.ft12.specs.declared.rules.Heard.TheVariants.{Gathered, Dropped, Ignored, Acknowledged, Reset, Repeat, Request}
use Rattle.ft12.specs.declared.rules.Bits.{Bits}
use Rattle.words.specs.Words.{is_yes, yes_or_no, is_empty, pad, are_zero, is_padded}
use Rattle.ft12.specs.Receiver.{judged, is_beginning}
use Rattle.ft12.specs.Record.{Line, link_with, line_of, link_of, receiver_ok, outstanding_ok, line_ok, memory_ok, in_range}
use Rattle.ft12.specs.Rules.{start_dropping, gathering, case_of, heard_at, on_heard, on_host_byte, bits_of, BitsAfter, unread, after_host_byte}
use Rattle.words.proofs.WordLaws.{left, right, parts3, T_true, written_read, pad-take, padded_length, zeros_are, empty_eq}
use Rattle.ft12.proofs.RecordLaws.{memory_parts, two_valued_parts}
use Rattle.ft12.proofs.RangeLaws.{empty_take}

-- ---- padded arrays in place
-- the used bytes made 0
pub emptied : (places n : ℕ) (a : List ℕ) → T (is_padded places n a) → replicate n 0 ++ drop n a ≡ pad places []
unfolding is_padded
emptied places n a t =
    let p = parts3 (eqb (length a) places) (leb n places) (are_zero (drop n a)) t in
    let e : length a ≡ places = eqb→eq (length a) places p.0 in
    let h : n ≤ places = leb→le n places p.1 in
    let k : length (drop n a) ≡ places - n = omega (arith, length-drop n a) in
    let j : n + length (drop n a) ≡ places - 0 = omega arith in
    ap {B = List ℕ} (λ (r : List ℕ). replicate n 0 ++ r) (zeros_are (drop n a) p.2) ∙ replicate-append-replicate n (length (drop n a)) 0 ∙ ap {B = List ℕ} (λ (i : ℕ). replicate i 0) j

replicate_cons : (n : ℕ) → 0 < n → replicate {A = ℕ} n 0 ≡ 0 ∷ replicate (n - 1) 0
replicate_cons zero h = absurd (omega arith)
replicate_cons (suc n) h =
    let e : n ≡ suc n - 1 = omega arith in
    ap {B = List ℕ} (λ (i : ℕ). 0 ∷ replicate i 0) e

-- one byte stored behind the used ones
pub stored : (places n b : ℕ) (a : List ℕ) → T (is_padded places n a) → n < places → set a n b ≡ pad places (take n a ++ b ∷ [])
stored places n b a t h =
    let p = pad-take places n a t in
    let k = padded_length places n a t in
    let m : length (take n a ++ b ∷ []) ≡ n + 1 = omega (arith, length-append (take n a) (b ∷ [])) in
    let i : places - length (take n a ++ b ∷ []) ≡ places - length (take n a) - 1 = omega arith in
    ap {B = List ℕ} (λ (s : List ℕ). set s n b) (sym p ∙ ap {B = List ℕ} (λ (r : List ℕ). take n a ++ r) (replicate_cons (places - length (take n a)) (omega arith)))
    ∙ set_at (take n a) 0 (replicate (places - length (take n a) - 1) 0) b n k
    ∙ sym (ap {B = List ℕ} (λ (x : ℕ). (take n a ++ b ∷ []) ++ replicate x 0) i ∙ append_snoc (take n a) b (replicate (places - length (take n a) - 1) 0))

-- ---- the parts of a record that is in range
memory_of : (k : Link) → T (in_range k) → T (memory_ok k)
unfolding in_range
memory_of k t = left (memory_ok k) (line_ok (line_of k)) t

pub receiver_padded_lem : (k : Link) → T (in_range k) → T (is_padded 260 k.received k.receiver)
receiver_padded_lem k t = (memory_parts k (memory_of k t)).0

pub outstanding_padded_lem : (k : Link) → T (in_range k) → T (is_padded 261 k.held k.outstanding)
outstanding_padded_lem k t = (memory_parts k (memory_of k t)).1

-- what is two-valued, read and written, is what it was
pub dropping_stays : (k : Link) → T (in_range k) → k.dropping ≡ yes_or_no (is_yes k.dropping)
dropping_stays k t = sym (written_read k.dropping (two_valued_parts k (memory_parts k (memory_of k t)).2).0)

pub expected_stays : (k : Link) → T (in_range k) → k.expected ≡ yes_or_no (is_yes k.expected)
expected_stays k t = sym (written_read k.expected (two_valued_parts k (memory_parts k (memory_of k t)).2).1)

pub send_stays : (k : Link) → T (in_range k) → k.send ≡ yes_or_no (is_yes k.send)
send_stays k t = sym (written_read k.send (two_valued_parts k (memory_parts k (memory_of k t)).2).2)

pub not_dropping : (k : Link) → T (in_range k) → (k.dropping ≡ 1 → ⊥) → k.dropping ≡ 0
not_dropping k t n = omega (arith, n, ltb→lt k.dropping 2 (two_valued_parts k (memory_parts k (memory_of k t)).2).0)

padded_within : (places n : ℕ) (a : List ℕ) → T (is_padded places n a) → (n ≤ places) × (length a ≡ places)
unfolding is_padded
padded_within places n a t =
    let p = parts3 (eqb (length a) places) (leb n places) (are_zero (drop n a)) t in (leb→le n places p.1, eqb→eq (length a) places p.0)

pub received_fits : (k : Link) → T (in_range k) → k.received ≤ 260
received_fits k t = (padded_within 260 k.received k.receiver (receiver_padded_lem k t)).0

pub held_fits : (k : Link) → T (in_range k) → k.held ≤ 261
held_fits k t = (padded_within 261 k.held k.outstanding (outstanding_padded_lem k t)).0

pub receiver_places : (k : Link) → T (in_range k) → length k.receiver ≡ 260
receiver_places k t = (padded_within 260 k.received k.receiver (receiver_padded_lem k t)).1

pub outstanding_places : (k : Link) → T (in_range k) → length k.outstanding ≡ 261
outstanding_places k t = (padded_within 261 k.held k.outstanding (outstanding_padded_lem k t)).1

line_parts : (l : Line) → T (line_ok l) → T (receiver_ok l.dropping l.gathered)
unfolding line_ok
line_parts l t = left (receiver_ok l.dropping l.gathered) (outstanding_ok l.send l.resends l.outstanding) t

pub gathered_begins : (k : Link) → T (in_range k) → k.dropping ≡ 0 → T (is_beginning (take k.received k.receiver))
unfolding in_range line_of receiver_ok
gathered_begins k t e = simp e at (line_parts (line_of k) (right (memory_ok k) (line_ok (line_of k)) t))

-- ---- a host byte
-- what the code finds is what the byte is to the link
pub heard-found : (k : Link) (b : ℕ) (j : Judgement) → T (in_range k) → k.dropping ≡ 0 → j ≡ judged (take k.received k.receiver) b
    → case_of j (is_yes k.expected) (eqb k.held 0) ≡ heard_at b (line_of k)
unfolding heard_at line_of
heard-found k b j t e d = simp (e, d, empty_take k.held k.outstanding (omega (arith, held_fits k t, outstanding_places k t)))

pub heard_dropping : (k : Link) (b : ℕ) → k.dropping ≡ 1 → Dropped ≡ heard_at b (line_of k)
unfolding heard_at line_of
heard_dropping k b e = simp e

-- the bits stay where the bytes do
unread_bits : (h : Heard) (g : List ℕ) (l : Line) → bits_of (unread h g l) ≡ bits_of l
unfolding unread bits_of gathering
unread_bits Gathered g l = refl
unread_bits Dropped g l = refl
unread_bits Ignored g l = refl
unread_bits Acknowledged g l = refl
unread_bits Reset g l = refl
unread_bits Repeat g l = refl
unread_bits (Request n) g l = refl

-- the line that stands in the record after a host byte that was heard so
unfoldable pub left_by : Heard → ℕ → Link → Line
left_by h b k = unread h (line_of k).gathered (on_heard h b (line_of k)).line

-- a record whose parts are those of that line is what the rules leave
pub in_place : (h : Heard) (b : ℕ) (k : Link) (bits : Bits) (receiver : List ℕ) (received dropping : ℕ) (outstanding : List ℕ) (held : ℕ)
    → h ≡ heard_at b (line_of k) → bits_of (on_heard h b (line_of k)).line ≡ bits
    → receiver ≡ pad 260 (left_by h b k).gathered → received ≡ length (left_by h b k).gathered → dropping ≡ yes_or_no (left_by h b k).dropping
    → outstanding ≡ pad 261 (left_by h b k).outstanding → held ≡ length (left_by h b k).outstanding
    → link_with receiver received dropping bits.expected bits.send outstanding held bits.resends ≡ after_host_byte b k
unfolding after_host_byte on_host_byte left_by bits_of link_of
in_place h b k bits receiver received dropping outstanding held e d r n x o m =
    let u : bits ≡ bits_of (left_by h b k) = sym (unread_bits h (line_of k).gathered (on_heard h b (line_of k)).line ∙ d) in
    rw (← e)
    (λ i. record {
      receiver = r i;
      received = n i;
      dropping = x i;
      expected = (u i).expected;
      send = (u i).send;
      outstanding = o i;
      held = m i;
      resends = (u i).resends;
    })

-- ---- the parts that stay
module _ (k : Link) (range : T (in_range k)) where
  pub held_stays : k.outstanding ≡ pad 261 (line_of k).outstanding
  unfolding line_of
  held_stays = sym (pad-take 261 k.held k.outstanding (outstanding_padded_lem k range))

  pub count_stays : k.held ≡ length (line_of k).outstanding
  unfolding line_of
  count_stays = sym (padded_length 261 k.held k.outstanding (outstanding_padded_lem k range))

  pub gathered_stays : k.receiver ≡ pad 260 (line_of k).gathered
  unfolding line_of
  gathered_stays = sym (pad-take 260 k.received k.receiver (receiver_padded_lem k range))

  pub received_stays : k.received ≡ length (line_of k).gathered
  unfolding line_of
  received_stays = sym (padded_length 260 k.received k.receiver (receiver_padded_lem k range))

-- while it drops, nothing moves
dropping_empty : (k : Link) → T (in_range k) → k.dropping ≡ 1 → (line_of k).gathered ≡ []
unfolding in_range line_of receiver_ok
dropping_empty k t e =
    empty_eq (take k.received k.receiver) (T_true (is_empty (take k.received k.receiver)) (simp e at (line_parts (line_of k) (right (memory_ok k) (line_ok (line_of k)) t))))

pub bits_stay : (k : Link) → T (in_range k) → bits_of (line_of k) ≡ record { expected = k.expected; send = k.send; resends = k.resends }
unfolding bits_of line_of
bits_stay k t =
    let x = expected_stays k t in
    let s = send_stays k t in
    λ i. record { expected = sym x i; send = sym s i; resends = k.resends }

pub place_drops : (b : ℕ) (k : Link) → T (in_range k) → k.dropping ≡ 1 → k ≡ after_host_byte b k
place_drops b k t e =
    in_place Dropped b k (record { expected = k.expected; send = k.send; resends = k.resends }) k.receiver k.received k.dropping k.outstanding k.held (heard_dropping k b e)
    (unfold on_heard start_dropping bits_of in (unfold bits_of in bits_stay k t))
    (unfold left_by unread on_heard start_dropping in (gathered_stays k t ∙ ap (pad 260) (dropping_empty k t e)))
    (unfold left_by unread on_heard start_dropping in (received_stays k t ∙ ap length (dropping_empty k t e)))
    (unfold left_by unread on_heard start_dropping in e)
    (unfold left_by unread on_heard start_dropping in held_stays k t)
    (unfold left_by unread on_heard start_dropping in count_stays k t)

-- the bits after a case, on the record's own line
pub bits_found : (k : Link) (b : ℕ) (x h : Heard) (bits : Bits) → T (in_range k) → BitsAfter x (record { expected = k.expected; send = k.send; resends = k.resends }) bits → x ≡ h
    → bits_of (on_heard h b (line_of k)).line ≡ bits
bits_found k b x h bits t f g = rw g at (f (line_of k) b (bits_stay k t))
