-- A law for each answer of the code of a set entry; values kept in a record's memory.
use Prim.Native.Nat.{ℕ, zero, suc, ◌+◌, ◌-◌, ◌/◌, ◌%◌, ◌≤◌, ◌<◌}
use mathlib.Core.Path.{◌≡◌, refl, sym, ◌∙◌, ap}
use mathlib.Core.Bool.{Bool, true, false, not, ◌||◌}
use mathlib.Core.List.{List, [], ◌∷◌, ◌++◌}
use native.Mathlib.Omega.{arith}
use lib.ListN.{length, get_or, take, drop, replicate}
use lib.Seq.{sets, take-suc}
use lib.Dec.{leb, eqb}
use borrow.Author.Tests.{eqb-true, eq-eqb, ne_eqb, le-leb, lt-leb}
use Rattle.std.specs.Prelude.{if◌then◌else◌}
use Rattle.words.specs.Words.{pad, put, is_empty}
use Rattle.words.proofs.WordLaws.{true_T}
use Rattle.baos.specs.declared.datapoint.Datapoint.{Datapoint}
use Rattle.baos.specs.declared.item.Item.{Item}
use Rattle.baos.specs.declared.lookup.Lookup.{Lookup}
use Rattle.baos.specs.declared.lookup.Lookup.TheVariants.{Absent, Closed, Open}
use Rattle.baos.specs.Datapoint.{datapoint_id, size_of, value_of, unused_bits_ok, is_send}
use Rattle.baos.specs.Lookup.{lookup_of, lookup_number, is_present}
use Rattle.baos.specs.Table.{found}
use Rattle.baos.specs.Get.{value_entry}
use Rattle.baos.specs.Set.{item_code, takes_command, datapoint_code}
use Rattle.baos.proofs.LookupLaws.{same_lookup, present_one, present_at}
use Rattle.baos.proofs.RisenLaws.{turned}
use Rattle.baos.proofs.ValueLaws.{size_of_bits}
use Rattle.words.proofs.ByteLaws.{length-put, put_sets, put_in_front}

-- ---- a value in memory that was 0
drop_zeros : (k n : ℕ) → drop {A = ℕ} k (replicate n 0) ≡ replicate (n - k) 0
drop_zeros zero n = ap {B = List ℕ} (λ (i : ℕ). replicate i 0) {x = n} {y = n - 0} (omega arith)
drop_zeros (suc k) zero = ap {B = List ℕ} (λ (i : ℕ). replicate i 0) {x = 0} {y = 0 - suc k} (omega arith)
drop_zeros (suc k) (suc n) = drop_zeros k n ∙ ap {B = List ℕ} (λ (i : ℕ). replicate i 0) {x = n - k} {y = suc n - suc k} (omega arith)

pub put_zeros : (n : ℕ) (v : List ℕ) → put (replicate n 0) 0 v ≡ pad n v
unfolding put
put_zeros n v = ap (λ (k : ℕ). v ++ drop k (replicate n 0)) {x = 0 + length v} {y = length v} (omega arith) ∙ ap (λ (r : List ℕ). v ++ r) (drop_zeros (length v) n)

-- ---- codes
is_empty_lem : (v : List ℕ) → length v ≡ 0 → is_empty v ≡ true
is_empty_lem [] e = refl
is_empty_lem (x ∷ v) e = absurd (omega arith)

not_empty : (v : List ℕ) → (length v ≡ 0 → ⊥) → is_empty v ≡ false
not_empty [] n = absurd (n refl)
not_empty (x ∷ v) n = refl

or_last : (a : Bool) → (a || true) ≡ true
or_last true = refl
or_last false = refl

send_small : (c : ℕ) → is_send c ≡ true → leb c 4 ≡ true
send_small c q = go (eqb c 2) (eqb c 3) refl refl q
  where
    go : (u w : Bool) → eqb c 2 ≡ u → eqb c 3 ≡ w → (u || w) ≡ true → leb c 4 ≡ true
    go true w e f q = le-leb c 4 (omega (arith, eqb-true c 2 e))
    go false true e f q = le-leb c 4 (omega (arith, eqb-true c 3 f))
    go false false e f q = absurd (true_T {b = false} q)

module _ (l : Lookup) (d : Datapoint) (c : ℕ) (v : List ℕ) where
  abbrev pub is_taken : Bool
  is_taken = takes_command l d.flags c

  pub code_of_absent : is_present l ≡ false → datapoint_code l d c v ≡ 7
  unfolding datapoint_code
  code_of_absent p = simp p

  module _ (p : is_present l ≡ true) where
    pub code_of_command : is_taken ≡ false → datapoint_code l d c v ≡ 8
    unfolding datapoint_code
    code_of_command h = simp (p, h)

    pub retired : c ≡ 5 → datapoint_code l d c v ≡ 8
    unfolding takes_command
    retired e = code_of_command (go l)
      where
        go : (k : Lookup) → takes_command k d.flags c ≡ false
        go Absent = refl
        go Closed = rw e
        go Open = rw e

    pub code_of_none_1 : is_taken ≡ true → c ≡ 1 → length v ≡ 0 → datapoint_code l d c v ≡ 9
    unfolding datapoint_code
    code_of_none_1 h e n = simp (p, h, is_empty_lem v n, eq-eqb c 1 e)

    pub code_of_none_3 : is_taken ≡ true → c ≡ 3 → length v ≡ 0 → datapoint_code l d c v ≡ 9
    unfolding datapoint_code
    code_of_none_3 h e n = simp (p, h, is_empty_lem v n, eq-eqb c 3 e, or_last (eqb c 1))

    pub code_of_none : is_taken ≡ true → (c ≡ 1 → ⊥) → (c ≡ 3 → ⊥) → length v ≡ 0 → datapoint_code l d c v ≡ 0
    unfolding datapoint_code
    code_of_none h n1 n3 n = simp (p, h, is_empty_lem v n, ne_eqb c 1 n1, ne_eqb c 3 n3)

    pub code_of_size : is_taken ≡ true → (length v ≡ 0 → ⊥) → (length v ≡ size_of d.typecode → ⊥) → datapoint_code l d c v ≡ 9
    unfolding datapoint_code
    code_of_size h n k = simp (p, h, not_empty v n, ne_eqb (length v) (size_of d.typecode) k)

    pub code_of_bits : is_taken ≡ true → (length v ≡ 0 → ⊥) → length v ≡ size_of d.typecode → unused_bits_ok d.typecode v ≡ false → datapoint_code l d c v ≡ 8
    unfolding datapoint_code
    code_of_bits h n k u = simp (p, h, not_empty v n, eq-eqb (length v) (size_of d.typecode) k, u)

    pub code_of_value : is_taken ≡ true → (length v ≡ 0 → ⊥) → length v ≡ size_of d.typecode → unused_bits_ok d.typecode v ≡ true → datapoint_code l d c v ≡ 0
    unfolding datapoint_code
    code_of_value h n k u = simp (p, h, not_empty v n, eq-eqb (length v) (size_of d.typecode) k, u)

-- ---- at the record of the entry's ID: what looking it up found, and whether the command is taken, by the answer y, which
-- a test then turns round
module _ (id : ℕ) (d : Datapoint) (e : d.id ≡ id) where
  pub here : is_present (lookup_of (found datapoint_id id (d ∷ []))) ≡ true
  here = ap is_present (present_at id d e) ∙ present_one d []

  pub taken_by : (r : Lookup) (c : ℕ) {y b : Bool} → lookup_number r ≡ lookup_number (lookup_of (d ∷ [])) → y ≡ takes_command r d.flags c → not y ≡ b
      → takes_command (lookup_of (found datapoint_id id (d ∷ []))) d.flags c ≡ not b
  taken_by r c q p n = ap (λ (l : Lookup). takes_command l d.flags c) (present_at id d e ∙ sym (same_lookup r (lookup_of (d ∷ [])) q)) ∙ turned p n

-- ---- an open datapoint's commands, where it transmits and where it does not
module _ (flags c : ℕ) where
  pub open_transmits : flags / 64 % 2 ≡ 1 → takes_command Open flags c ≡ leb c 4
  unfolding takes_command
  open_transmits b = simp (eq-eqb (flags / 64 % 2) 1 b) (go (is_send c) refl)
    where
      go : (u : Bool) → is_send c ≡ u → (if u then true else leb c 4) ≡ leb c 4
      go true q = sym (send_small c q)
      go false q = refl

  pub open_reads : (flags / 64 % 2 ≡ 1 → ⊥) → c ≡ 4 → takes_command Open flags c ≡ true
  unfolding takes_command
  open_reads n e = rw e refl

  pub open_else : (flags / 64 % 2 ≡ 1 → ⊥) → (c ≡ 4 → ⊥) → takes_command Open flags c ≡ leb c 1
  unfolding takes_command
  open_else n k = go c k
    where
      off : eqb (flags / 64 % 2) 1 ≡ false
      off = ne_eqb (flags / 64 % 2) 1 n

      go : (m : ℕ) → (m ≡ 4 → ⊥) → takes_command Open flags m ≡ leb m 1
      go zero h = refl
      go (suc zero) h = refl
      go (suc (suc zero)) h = off
      go (suc (suc (suc zero))) h = off
      go (suc (suc (suc (suc zero)))) h = absurd (h refl)
      go (suc (suc (suc (suc (suc m))))) h = above (suc (suc (suc (suc (suc m))))) (omega arith)
        where
          above : (m : ℕ) → 4 < m → takes_command Open flags m ≡ leb m 1
          above m q = simp (ne_eqb m 2 (λ e. omega (arith, e, q)), ne_eqb m 3 (λ e. omega (arith, e, q)), lt-leb m 4 q, lt-leb m 1 (omega (arith, q)))

module _ (i : Item) (v : List ℕ) where
  pub code_of_fixed : (i.writable ≡ 1 → ⊥) → item_code i v ≡ 4
  unfolding item_code
  code_of_fixed n = simp (ne_eqb i.writable 1 n)

  pub code_of_data : i.writable ≡ 1 → length v ≡ i.size → item_code i v ≡ 0
  unfolding item_code
  code_of_data e k = simp (eq-eqb i.writable 1 e, eq-eqb (length v) i.size k)

  pub code_of_length : i.writable ≡ 1 → (length v ≡ i.size → ⊥) → item_code i v ≡ 9
  unfolding item_code
  code_of_length e k = simp (eq-eqb i.writable 1 e, ne_eqb (length v) i.size k)

-- ---- entries
-- an array, and then bytes stored one by one in front of it, are one write
pub put_before : (l : List ℕ) (at k : ℕ) (vs a : List ℕ) → k ≡ at + length vs → at + length vs + length a ≤ length l → sets (put l k a) at vs ≡ put l at (vs ++ a)
put_before l at k vs a e m =
    put_sets vs (put l k a) at (omega (arith, m, e, length-put l k a (omega (arith, m, e)))) ∙ put_in_front l at k vs a e (omega (arith, m, e))

-- a value of one byte, as codes 0 to 7 have: its entry has five bytes
pub one_byte_entry : (d : Datapoint) → d.typecode < 8 → length d.value ≡ 14 → (value_entry d).bytes ≡ d.id / 256 ∷ d.id % 256 ∷ d.state ∷ 1 ∷ get_or d.value 0 0 ∷ []
unfolding value_entry value_of
one_byte_entry d h l =
    ap (λ (n : ℕ). d.id / 256 ∷ d.id % 256 ∷ d.state ∷ n ∷ take n d.value) (size_of_bits d.typecode h)
    ∙ ap (λ (r : List ℕ). d.id / 256 ∷ d.id % 256 ∷ d.state ∷ 1 ∷ r) (take-suc d.value 0 0 (omega arith))
