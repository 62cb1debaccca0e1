-- Entries of a set that are applied: the state that a command leaves, a value of one byte, and the record at a place that was searched before.
use Prim.Native.Nat.{ℕ, ◌+◌, ◌≤◌, ◌<◌}
use mathlib.Core.Path.{◌≡◌, refl, sym, ◌∙◌, ap}
use mathlib.Core.Bool.{Bool, true, false}
use mathlib.Core.List.{List, [], ◌∷◌, map}
use native.Mathlib.Omega.{arith}
use lib.ListN.{length, get_or, take, drop, set, length-drop}
use lib.Seq.{get_or-drop, take-suc}
use borrow.Author.Tests.{eq-eqb, ne_eqb}
use lib.Dec.{eqb}
use Rattle.std.specs.Prelude.{if◌then◌else◌}
use Rattle.baos.specs.declared.datapoint.Datapoint.{Datapoint}
use Rattle.baos.specs.Datapoint.{with_valid, with_request, with_status, with_state, with_value, commanded, zero_datapoint}
use Rattle.baos.specs.Set.{span, first_datapoint_entry, set_datapoint}
use Rattle.baos.specs.Table.{changed_at, place, rising}
use Rattle.baos.proofs.EntriesLaws.{id_bytes, changed_here, changed_nowhere}

-- ---- a command that replaces no value
module _ (c : ℕ) (v : List ℕ) (d : Datapoint) (e1 : eqb c 1 ≡ false) (e3 : eqb c 3 ≡ false) where
  command_2 : eqb c 2 ≡ true → commanded c v d ≡ with_state (with_status 3 d.state) d
  unfolding commanded
  command_2 e2 = simp (e1, e2)

  command_4 : eqb c 2 ≡ false → eqb c 4 ≡ true → commanded c v d ≡ with_state (with_request d.state) d
  unfolding commanded
  command_4 e2 e4 = simp (e1, e2, e3, e4)

  no_command : eqb c 2 ≡ false → eqb c 4 ≡ false → commanded c v d ≡ d
  unfolding commanded
  no_command e2 e4 = simp (e1, e2, e3, e4)

-- ---- the state that a command leaves of a record that had the state s
abbrev pub state_after : ℕ → ℕ → ℕ
state_after c s = (commanded c [] (with_state s zero_datapoint)).state

module _ (c s : ℕ) where
  pub state_1 : c ≡ 1 → state_after c s ≡ with_valid s
  unfolding commanded with_state with_value
  state_1 e = rw e

  pub state_2 : c ≡ 2 → state_after c s ≡ with_status 3 s
  unfolding commanded with_state
  state_2 e = rw e

  pub state_3 : c ≡ 3 → state_after c s ≡ with_status 3 (with_valid s)
  unfolding commanded with_state with_value
  state_3 e = rw e

  pub state_4 : c ≡ 4 → state_after c s ≡ with_request s
  unfolding commanded with_state
  state_4 e = rw e

  pub state_stays : (c ≡ 1 → ⊥) → (c ≡ 2 → ⊥) → (c ≡ 3 → ⊥) → (c ≡ 4 → ⊥) → state_after c s ≡ s
  unfolding with_state
  state_stays n1 n2 n3 n4 = ap (λ (x : Datapoint). x.state) (no_command c [] (with_state s zero_datapoint) (ne_eqb c 1 n1) (ne_eqb c 3 n3) (ne_eqb c 2 n2) (ne_eqb c 4 n4))

-- ---- a command that replaces the value, and one that leaves it as it is
module _ (c : ℕ) (v : List ℕ) (d : Datapoint) where
  pub value_1 : c ≡ 1 → commanded c v d ≡ with_value v (state_after c d.state) d
  unfolding commanded with_state with_value
  value_1 e = rw e

  pub value_3 : c ≡ 3 → commanded c v d ≡ with_value v (state_after c d.state) d
  unfolding commanded with_state with_value
  value_3 e = rw e

  pub value_stays : (c ≡ 1 → ⊥) → (c ≡ 3 → ⊥) → commanded c v d ≡ with_state (state_after c d.state) d
  unfolding with_state
  value_stays n1 n3 = go (eqb c 2) (eqb c 4) refl refl
    where
      e1 : eqb c 1 ≡ false
      e1 = ne_eqb c 1 n1

      e3 : eqb c 3 ≡ false
      e3 = ne_eqb c 3 n3

      blank : Datapoint
      blank = with_state d.state zero_datapoint

      -- what holds of the one holds of the other's state
      alike : (y : ℕ) → commanded c v d ≡ with_state y d → (commanded c [] blank).state ≡ y → commanded c v d ≡ with_state (state_after c d.state) d
      alike y p q = p ∙ ap (λ (t : ℕ). with_state t d) (sym q)

      go : (x y : Bool) → eqb c 2 ≡ x → eqb c 4 ≡ y → commanded c v d ≡ with_state (state_after c d.state) d
      go true y e f = alike (with_status 3 d.state) (command_2 c v d e1 e3 e) (ap (λ (t : Datapoint). t.state) (command_2 c [] blank e1 e3 e))
      go false true e f = alike (with_request d.state) (command_4 c v d e1 e3 e f) (ap (λ (t : Datapoint). t.state) (command_4 c [] blank e1 e3 e f))
      go false false e f = alike d.state (no_command c v d e1 e3 e f) (ap (λ (t : Datapoint). t.state) (no_command c [] blank e1 e3 e f))

-- ---- an entry with one byte of value, read from byte `at` on
module _ (at : ℕ) (s : List ℕ) (one : get_or (drop at s) 3 0 ≡ 1) where
  pub byte_span : span 4 (drop at s) ≡ 5
  unfolding span
  byte_span = ap (λ (n : ℕ). 4 + n) one

  byte_value : at + span 4 (drop at s) ≤ length s → (first_datapoint_entry (drop at s)).value ≡ get_or s (at + 4) 0 ∷ []
  unfolding first_datapoint_entry
  byte_value l =
      ap (λ (n : ℕ). take n (drop 4 (drop at s))) one
      ∙ take-suc (drop 4 (drop at s)) 0 0 (omega (arith, l, byte_span, length-drop 4 (drop at s), length-drop at s))
      ∙ ap (λ (b : ℕ). b ∷ []) (get_or-drop 4 (drop at s) 0 0 ∙ get_or-drop at s 4 0)

  pub byte_set_here : (d : Datapoint) → at + span 4 (drop at s) ≤ length s → d.id ≡ id_bytes at s
      → commanded (get_or s (at + 2) 0) (get_or s (at + 4) 0 ∷ []) d ≡ (if eqb d.id (first_datapoint_entry (drop at s)).id then set_datapoint (first_datapoint_entry (drop at s)) d else d)
  unfolding set_datapoint first_datapoint_entry
  byte_set_here d l q =
      ap (λ (c : ℕ). commanded c (get_or s (at + 4) 0 ∷ []) d) (sym (get_or-drop at s 2 0))
      ∙ ap (λ (v : List ℕ). commanded (get_or (drop at s) 2 0) v d) (sym (byte_value l))
      ∙ ap (λ (y : Bool). if y then set_datapoint (first_datapoint_entry (drop at s)) d else d) (sym (eq-eqb d.id (id_bytes at s) q))

-- ---- what is changed goes by the record at the place, which was searched before
module _ {A : Type 0} (id_of : A → ℕ) (blank : A) (n : ℕ) (xs : List A) (t : rising 0 (map id_of xs) ≡ true) (f : A → A) (p : ℕ) (e : p ≡ place id_of n xs) where
  pub changed_there : p < length xs → set xs p (if eqb (id_of (get_or xs p blank)) n then f (get_or xs p blank) else get_or xs p blank) ≡ changed_at id_of n f xs
  changed_there l =
      ap (λ (i : ℕ). set xs i (if eqb (id_of (get_or xs i blank)) n then f (get_or xs i blank) else get_or xs i blank)) e
      ∙ sym (changed_here id_of blank n xs t f (omega (arith, e, l)))

  pub unchanged_there : length xs ≤ p → xs ≡ changed_at id_of n f xs
  unchanged_there l = sym (changed_nowhere id_of blank n xs t f (omega (arith, e, l)))
