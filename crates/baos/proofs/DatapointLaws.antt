-- One record: the state byte's arithmetic means the paper's bits, and each change of a well-formed record leaves it well formed.
use Prim.Native.Nat.{ℕ, ◌+◌, ◌-◌, ◌*◌, ◌/◌, ◌%◌, ◌≤◌, ◌<◌}
use mathlib.Core.Path.{◌≡◌, refl, ap}
use mathlib.Core.Bool.{Bool, true, false, ◌&&◌, ◌||◌}
use mathlib.Core.List.{List}
use native.Mathlib.Omega.{arith}
use lib.ListN.{length, replicate}
use lib.Seq.{take_at}
use lib.Dec.{T, leb, ltb, eqb, leb→le, ltb→lt, lt→ltb, eqb→eq}
use borrow.Author.Tests.{eqb-true}
use Rattle.std.specs.Prelude.{if◌then◌else◌}
use Rattle.words.specs.Words.{is_yes_or_no, pad, is_padded}
use Rattle.words.proofs.WordLaws.{left, right, both, parts3, parts4, join3, join4, pad_padded, padded_decided}
use Rattle.baos.specs.declared.datapoint.Datapoint.{Datapoint}
use Rattle.baos.specs.declared.item.Item.{Item}
use Rattle.baos.specs.Datapoint.{size_of, unused_bits_ok, is_value, value_of, datapoint_ok, with_valid, without_updated, with_request, with_status, from_bus, with_state, with_value, with_mark, handed_out, bus_value, outcome, is_send, commanded}
use Rattle.baos.specs.Item.{item_ok, with_bytes}
use Rattle.baos.proofs.ValueLaws.{each_size}

-- ---- the state byte
-- bit b of the state byte s, by its weight
abbrev pub bit : ℕ → ℕ → ℕ
bit weight s = s / weight % 2

-- the bits of a state: 4, 3, 2, and the status
pub record Bits (s valid updated request status : ℕ) : Type 0 where
  pub valid_bit : bit 16 s ≡ valid
  pub updated_bit : bit 8 s ≡ updated
  pub request_bit : bit 4 s ≡ request
  pub status_bits : s % 4 ≡ status

pub bits_of_valid : (s : ℕ) → Bits (with_valid s) 1 (bit 8 s) (bit 4 s) (s % 4)
bits_of_valid s = record { valid_bit = omega arith; updated_bit = omega arith; request_bit = omega arith; status_bits = omega arith }

pub bits_without_updated : (s : ℕ) → Bits (without_updated s) (bit 16 s) 0 (bit 4 s) (s % 4)
bits_without_updated s = record { valid_bit = omega arith; updated_bit = omega arith; request_bit = omega arith; status_bits = omega arith }

pub bits_with_request : (s : ℕ) → Bits (with_request s) (bit 16 s) (bit 8 s) 1 (s % 4)
bits_with_request s =
    let h : s / 8 ≡ 2 * (s / 16) + bit 8 s = omega arith in
    let q : with_request s / 16 ≡ s / 16 = omega arith in
    let r : with_request s / 8 ≡ s / 8 = omega arith in
    let u : with_request s / 4 ≡ 2 * (s / 8) + 1 = omega arith in
    record { valid_bit = ap (λ (n : ℕ). n % 2) q; updated_bit = ap (λ (n : ℕ). n % 2) r; request_bit = omega (arith, u); status_bits = omega arith }

pub bits_with_status : (n s : ℕ) → n < 4 → Bits (with_status n s) (bit 16 s) (bit 8 s) (bit 4 s) n
bits_with_status n s h = record { valid_bit = omega arith; updated_bit = omega arith; request_bit = omega arith; status_bits = omega arith }

pub bits_from_bus : (s : ℕ) → Bits (from_bus s) 1 1 0 (s % 4)
bits_from_bus s = record { valid_bit = omega arith; updated_bit = omega arith; request_bit = omega arith; status_bits = omega arith }

-- ---- what a well-formed record is
pub record Parts (d : Datapoint) : Type 0 where
  pub typecode : T (leb d.typecode 14)
  pub state : d.state < 32
  pub bits : T (unused_bits_ok d.typecode (value_of d))
  pub unused : T (is_padded 14 (size_of d.typecode) d.value)
  pub mark : T (is_yes_or_no d.mark)

-- all of it but the mark
abbrev but_mark : Datapoint → Bool
but_mark d = leb d.typecode 14 && ltb d.state 32 && unused_bits_ok d.typecode (value_of d) && is_padded 14 (size_of d.typecode) d.value

pub parts : (d : Datapoint) → T (datapoint_ok d) → Parts d
unfolding datapoint_ok
parts d t =
    let p = parts4 (leb d.typecode 14) (ltb d.state 32) (unused_bits_ok d.typecode (value_of d)) (is_padded 14 (size_of d.typecode) d.value) (left (but_mark d) (is_yes_or_no d.mark) t) in
    record { typecode = p.0; state = ltb→lt d.state 32 p.1; bits = p.2; unused = p.3; mark = right (but_mark d) (is_yes_or_no d.mark) t }

pub whole : (d : Datapoint) → Parts d → T (datapoint_ok d)
unfolding datapoint_ok
whole d p =
    both (but_mark d) (is_yes_or_no d.mark)
    (join4 (leb d.typecode 14) (ltb d.state 32) (unused_bits_ok d.typecode (value_of d)) (is_padded 14 (size_of d.typecode) d.value)
    p.typecode (lt→ltb d.state 32 p.state) p.bits p.unused) p.mark

-- ---- changes
pub state_ok : (s : ℕ) (d : Datapoint) → s < 32 → T (datapoint_ok d) → T (datapoint_ok (with_state s d))
state_ok s d h t = let p = parts d t in go p (whole (with_state s d))
  where
    go : Parts d → (Parts (with_state s d) → T (datapoint_ok (with_state s d))) → T (datapoint_ok (with_state s d))
    go p w = w (unfold with_state value_of in record { typecode = p.typecode; state = h; bits = unfold value_of in p.bits; unused = p.unused; mark = p.mark })

pub mark_ok : (m : ℕ) (d : Datapoint) → T (is_yes_or_no m) → T (datapoint_ok d) → T (datapoint_ok (with_mark m d))
unfolding with_mark datapoint_ok value_of
mark_ok m d h t = both (but_mark d) (is_yes_or_no m) (left (but_mark d) (is_yes_or_no d.mark) t) h

value_length : (k : ℕ) (v : List ℕ) → T (is_value k v) → length v ≡ size_of k
unfolding is_value
value_length k v t = eqb→eq (length v) (size_of k) (left (eqb (length v) (size_of k)) (unused_bits_ok k v) t)

value_bits : (k : ℕ) (v : List ℕ) → T (is_value k v) → T (unused_bits_ok k v)
unfolding is_value
value_bits k v t = right (eqb (length v) (size_of k)) (unused_bits_ok k v) t

-- no value is longer than its memory
pub size_fits : (typecode : ℕ) → size_of typecode ≤ 14
unfolding size_of
size_fits typecode = leb→le (size_of typecode) 14 (each_size (λ k n. leb n 14) tt (λ k h. tt) typecode)

-- the bytes that a value takes of the record that holds it
value_held : (v : List ℕ) (s : ℕ) (d : Datapoint) → T (is_value d.typecode v) → value_of (with_value v s d) ≡ v
unfolding value_of with_value
value_held v s d i = take_at v (replicate (14 - length v) 0) (size_of d.typecode) (value_length d.typecode v i)

pub value_ok : (v : List ℕ) (s : ℕ) (d : Datapoint) → s < 32 → T (is_value d.typecode v) → T (datapoint_ok d) → T (datapoint_ok (with_value v s d))
value_ok v s d h i t = go (parts d t) (value_held v s d i) (whole (with_value v s d))
  where
    go : Parts d → value_of (with_value v s d) ≡ v → (Parts (with_value v s d) → T (datapoint_ok (with_value v s d))) → T (datapoint_ok (with_value v s d))
    go p e w =
        w
        (record {
          typecode = unfold with_value in p.typecode;
          state = unfold with_value in h;
          bits = rw e (unfold with_value in value_bits d.typecode v i);
          unused = unfold with_value in pad_padded 14 (size_of d.typecode) v (value_length d.typecode v i) (size_fits d.typecode);
          mark = unfold with_value in p.mark;
        })

pub handed_out_ok : (d : Datapoint) → T (datapoint_ok d) → T (datapoint_ok (handed_out d))
unfolding handed_out
handed_out_ok d t = state_ok (without_updated d.state) d (omega (arith, (parts d t).state)) t

pub bus_value_ok : (v : List ℕ) (d : Datapoint) → T (is_value d.typecode v) → T (datapoint_ok d) → T (datapoint_ok (bus_value v d))
unfolding bus_value
bus_value_ok v d i t = mark_ok 1 (with_value v (from_bus d.state) d) tt (value_ok v (from_bus d.state) d (omega (arith, (parts d t).state)) i t)

pub outcome_ok : (status : ℕ) (d : Datapoint) → status ≤ 3 → T (datapoint_ok d) → T (datapoint_ok (outcome status d))
unfolding outcome
outcome_ok n d h t = state_ok (with_status n d.state) d (omega (arith, (parts d t).state)) t

-- commands 1 and 3 take the value
unfoldable pub takes_value : ℕ → Bool
takes_value c = eqb c 1 || eqb c 3

pub command_ok : (c : ℕ) (v : List ℕ) (d : Datapoint) → (T (takes_value c) → T (is_value d.typecode v)) → T (datapoint_ok d) → T (datapoint_ok (commanded c v d))
unfolding commanded takes_value
command_ok c v d i t = go (eqb c 1) (eqb c 2) (eqb c 3) (eqb c 4) refl refl refl refl
  where
    small : d.state < 32
    small = (parts d t).state

    go : (p q r s : Bool) → eqb c 1 ≡ p → eqb c 2 ≡ q → eqb c 3 ≡ r → eqb c 4 ≡ s → T (datapoint_ok (commanded c v d))
    go true q r s e1 e2 e3 e4 = simp (e1, commanded) (value_ok v (with_valid d.state) d (omega (arith, small)) (simp e1 at i tt) t)
    go false true r s e1 e2 e3 e4 = simp (e1, e2, commanded) (state_ok (with_status 3 d.state) d (omega (arith, small)) t)
    go false false true s e1 e2 e3 e4 =
        simp (e1, e2, e3, commanded) (value_ok v (with_status 3 (with_valid d.state)) d (omega (arith, small)) (simp (e1, e3) at i tt) t)
    go false false false true e1 e2 e3 e4 = simp (e1, e2, e3, e4, commanded) (state_ok (with_request d.state) d (omega (arith, small)) t)
    go false false false false e1 e2 e3 e4 = simp (e1, e2, e3, e4, commanded) t

-- no change touches the ID, the type code or the config flags
pub record Same (d d' : Datapoint) : Type 0 where
  pub id : d'.id ≡ d.id
  pub typecode : d'.typecode ≡ d.typecode
  pub flags : d'.flags ≡ d.flags

pub command_same : (c : ℕ) (v : List ℕ) (d : Datapoint) → Same d (commanded c v d)
unfolding commanded with_value with_state
command_same c v d = go (eqb c 1) (eqb c 2) (eqb c 3) (eqb c 4) refl refl refl refl
  where
    go : (p q r s : Bool) → eqb c 1 ≡ p → eqb c 2 ≡ q → eqb c 3 ≡ r → eqb c 4 ≡ s → Same d (commanded c v d)
    go true q r s e1 e2 e3 e4 = simp (e1, commanded) (record { id = refl; typecode = refl; flags = refl })
    go false true r s e1 e2 e3 e4 = simp (e1, e2, commanded) (record { id = refl; typecode = refl; flags = refl })
    go false false true s e1 e2 e3 e4 = simp (e1, e2, e3, commanded) (record { id = refl; typecode = refl; flags = refl })
    go false false false true e1 e2 e3 e4 = simp (e1, e2, e3, e4, commanded) (record { id = refl; typecode = refl; flags = refl })
    go false false false false e1 e2 e3 e4 = simp (e1, e2, e3, e4, commanded) (record { id = refl; typecode = refl; flags = refl })

-- commands 2 and 3 send: the status is 11 then; no other command touches it
pub command_status : (c : ℕ) (v : List ℕ) (d : Datapoint) → (commanded c v d).state % 4 ≡ (if is_send c then 3 else d.state % 4)
unfolding commanded with_value with_state
command_status c v d = go (eqb c 1) (eqb c 2) (eqb c 3) (eqb c 4) refl refl refl refl
  where
    go : (p q r s : Bool) → eqb c 1 ≡ p → eqb c 2 ≡ q → eqb c 3 ≡ r → eqb c 4 ≡ s → (commanded c v d).state % 4 ≡ (if is_send c then 3 else d.state % 4)
    go true true r s e1 e2 e3 e4 = absurd (omega (arith, eqb-true c 1 e1, eqb-true c 2 e2))
    go true false true s e1 e2 e3 e4 = absurd (omega (arith, eqb-true c 1 e1, eqb-true c 3 e3))
    go true false false s e1 e2 e3 e4 = simp (e1, e2, e3, commanded) (bits_of_valid d.state).status_bits
    go false true r s e1 e2 e3 e4 = simp (e1, e2, commanded) (bits_with_status 3 d.state (omega arith)).status_bits
    go false false true s e1 e2 e3 e4 = simp (e1, e2, e3, commanded) (bits_with_status 3 (with_valid d.state) (omega arith)).status_bits
    go false false false true e1 e2 e3 e4 = simp (e1, e2, e3, e4, commanded) (bits_with_request d.state).status_bits
    go false false false false e1 e2 e3 e4 = simp (e1, e2, e3, e4, commanded)

-- ---- an item
pub bytes_ok : (s : List ℕ) (i : Item) → length s ≡ i.size → T (item_ok i) → T (item_ok (with_bytes s i))
unfolding item_ok with_bytes
bytes_ok s i e t =
    let p = parts3 (leb 1 i.size) (is_padded 16 i.size i.bytes) (is_yes_or_no i.writable) t in
    let q = (padded_decided 16 i.size i.bytes).0 p.1 in
    join3 (leb 1 i.size) (is_padded 16 i.size (pad 16 s)) (is_yes_or_no i.writable) p.0 (pad_padded 16 i.size s e q.within) p.2
