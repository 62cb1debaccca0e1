-- The refusals that do not look at the event: one law for each answer of the code, what an answer of 0 says, and how they join the refusal of a call.
use Prim.Native.Nat.{ℕ, ◌≤◌, ◌<◌}
use mathlib.Core.Path.{◌≡◌, sym}
use mathlib.Core.Bool.{Bool, true, false, not}
use lib.Dec.{T, ltb}
use borrow.Author.Tests.{ltb-true, ltb-false, lt-ltb, le-ltb}
use Rattle.ft12.specs.declared.record.Link.{Link}
use Rattle.ft12.specs.Record.{in_range}
use Rattle.walks.proofs.Branches.{no_T, yes_T, is_T}
use Rattle.baos.specs.Table.{Tables, well_formed, tables_ok}
use Rattle.calls.specs.Promise.{lent_refusal}

-- ---- by the tests
module _ (o : Bool) (t : Tables) (k : Link) (room : ℕ) where
  pub lent_1 : well_formed t ≡ false → lent_refusal o t k room ≡ 1
  unfolding lent_refusal
  lent_1 w = simp w

  pub lent_2 : well_formed t ≡ true → in_range k ≡ false → lent_refusal o t k room ≡ 2
  unfolding lent_refusal
  lent_2 w r = simp (w, r)

  pub lent_3 : well_formed t ≡ true → in_range k ≡ true → room < 262 → lent_refusal o t k room ≡ 3
  unfolding lent_refusal
  lent_3 w r h = simp (w, r, lt-ltb room 262 h)

  pub lent_0 : well_formed t ≡ true → in_range k ≡ true → 262 ≤ room → lent_refusal o t k room ≡ 0
  unfolding lent_refusal
  lent_0 w r h = simp (w, r, le-ltb room 262 h)

-- ---- each answer of the code, by what its tests showed
module _ (o : Bool) (t : Tables) (k : Link) (room : ℕ) where
  pub lent_tables : T (not (tables_ok o t)) → 1 ≡ lent_refusal o t k room
  lent_tables p = sym (lent_1 o t k room (no_T (tables_ok o t) p))

  module _ (p : T (not (not (tables_ok o t)))) where
    pub lent_link : T (not (in_range k)) → 2 ≡ lent_refusal o t k room
    lent_link r = sym (lent_2 o t k room (yes_T (tables_ok o t) p) (no_T (in_range k) r))

    pub lent_room : T (not (not (in_range k))) → T (ltb room 262) → 3 ≡ lent_refusal o t k room
    lent_room r h = sym (lent_3 o t k room (yes_T (tables_ok o t) p) (yes_T (in_range k) r) (ltb-true room 262 (is_T (ltb room 262) h)))

    pub lent_none : T (not (not (in_range k))) → T (not (ltb room 262)) → 0 ≡ lent_refusal o t k room
    lent_none r h = sym (lent_0 o t k room (yes_T (tables_ok o t) p) (yes_T (in_range k) r) (ltb-false room 262 (no_T (ltb room 262) h)))
