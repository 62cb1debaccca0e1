-- A law for each answer of the functions that gather: what is wanted, how long an entry is, what is left of a record.
use Prim.Native.Nat.{ℕ, ◌+◌, ◌≤◌, ◌<◌}
use mathlib.Core.Bool.{Bool, true, false, not}
use mathlib.Core.List.{List}
use mathlib.Core.Path.{◌≡◌, refl}
use native.Mathlib.Omega.{arith}
use lib.ListN.{length}
use lib.Seq.{length-take-le}
use lib.Dec.{T, nleb→lt}
use borrow.Author.Tests.{lt-ltb, le-ltb, le-leb, leb-false, eq-eqb, ne_eqb}
use Rattle.baos.specs.Datapoint.{size_of, handed_out}
use Rattle.baos.specs.Inner.Gather.{filter_asked, size_asked, request_finding, is_behind, is_within, is_wanted, entry_of, left_of, ended, with_entry, measured}
use Rattle.baos.specs.Get.{AnswerEntry, item_entry, description_entry, value_entry, passes}
use Rattle.baos.specs.Item.{bytes_of}
use Rattle.baos.specs.Message.{start_of, number_of, bad, fine}
use Rattle.baos.specs.declared.datapoint.Datapoint.{Datapoint}
use Rattle.baos.specs.Inner.Gather.{Gathered}
use Rattle.baos.specs.declared.inner.Wanted.{Wanted}
use Rattle.baos.specs.declared.item.Item.{Item}
use Rattle.baos.proofs.DatapointLaws.{size_fits}
use Rattle.baos.proofs.WideLaws.{value_size}

-- ---- which records
module _ (w : Wanted) (id : ℕ) where
  pub not_behind : is_behind w id ≡ false → id < w.end
  unfolding is_behind
  not_behind e = leb-false w.end id e

  pub ahead_below : T (not (is_behind w id)) → id < w.end
  unfolding is_behind
  ahead_below t = nleb→lt w.end id t

  pub in_range_lem : w.start ≤ id → id < w.end → is_within w id ≡ true
  unfolding is_within
  in_range_lem l u = simp (le-leb w.start id l, lt-ltb id w.end u)

module _ (w : Wanted) (d : Datapoint) where
  pub wanted_in_range : w.start ≤ d.id → d.id < w.end → is_wanted w d ≡ passes w.filter d
  unfolding is_wanted
  wanted_in_range l u = simp (in_range_lem w d.id l u)

  -- ---- an entry
  pub value_length : w.values ≡ true → length d.value ≡ 14 → d.typecode ≤ 14 → length (entry_of w d).bytes ≡ 4 + size_of d.typecode
  unfolding entry_of
  value_length v l t = simp v (value_size d l)

  pub description_length : w.values ≡ false → length (entry_of w d).bytes ≡ 5
  unfolding entry_of description_entry
  description_length v = simp v

  pub entry_id : (entry_of w d).id ≡ d.id
  unfolding entry_of description_entry value_entry
  entry_id = go w.values refl
    where
      go : (b : Bool) → w.values ≡ b → (entry_of w d).id ≡ d.id
      go true e = simp e
      go false e = simp e

  pub entry_value : w.values ≡ true → entry_of w d ≡ value_entry d
  unfolding entry_of
  entry_value v = simp v

  pub entry_description : w.values ≡ false → entry_of w d ≡ description_entry d
  unfolding entry_of
  entry_description v = simp v

  pub entry_short : length d.value ≡ 14 → d.typecode ≤ 14 → length (entry_of w d).bytes ≤ 19
  entry_short l t = go w.values refl
    where
      go : (b : Bool) → w.values ≡ b → length (entry_of w d).bytes ≤ 19
      go true e = omega (arith, value_length e l t, size_fits d.typecode)
      go false e = omega (arith, description_length e)

  -- ---- what is left
  pub left_handed_out : w.values ≡ true → left_of w d ≡ handed_out d
  unfolding left_of
  left_handed_out v = simp v

  pub left_alone : w.values ≡ false → left_of w d ≡ d
  unfolding left_of
  left_alone v = simp v

pub item_length : (i : Item) → length i.bytes ≡ 16 → i.size ≤ 16 → length (item_entry i).bytes ≡ 3 + i.size
unfolding item_entry bytes_of
item_length i l t = omega (arith, length-take-le i.size i.bytes (omega arith))

-- ---- measuring
module _ (b t : Bool) (e : AnswerEntry) (g : Gathered) where
  pub measured_behind : b ≡ true → measured b t e g ≡ ended g
  unfolding measured
  measured_behind p = simp p

  pub measured_wanted : b ≡ false → t ≡ true → measured b t e g ≡ with_entry e.id (length e.bytes) g
  unfolding measured
  measured_wanted p q = simp (p, q)

  pub measured_other : b ≡ false → t ≡ false → measured b t e g ≡ g
  unfolding measured
  measured_other p q = simp (p, q)

-- ---- what a request's checks find before anything is measured
module _ (values : Bool) (m : List ℕ) where
  pub finding_length : (length m ≡ size_asked values → ⊥) → request_finding values m ≡ bad (start_of m) 10
  unfolding request_finding
  finding_length n = simp (ne_eqb (length m) (size_asked values) n)

  pub finding_number : length m ≡ size_asked values → number_of m ≡ 0 → request_finding values m ≡ bad (start_of m) 6
  unfolding request_finding
  finding_number e z = simp (eq-eqb (length m) (size_asked values) e, eq-eqb (number_of m) 0 z)

  pub finding_filter : length m ≡ size_asked values → (number_of m ≡ 0 → ⊥) → 2 < filter_asked values m → request_finding values m ≡ bad (start_of m) 6
  unfolding request_finding
  finding_filter e z f = simp (eq-eqb (length m) (size_asked values) e, ne_eqb (number_of m) 0 z, lt-ltb 2 (filter_asked values m) f)

  pub finding_none : length m ≡ size_asked values → (number_of m ≡ 0 → ⊥) → filter_asked values m ≤ 2 → request_finding values m ≡ fine
  unfolding request_finding
  finding_none e z f = simp (eq-eqb (length m) (size_asked values) e, ne_eqb (number_of m) 0 z, le-ltb 2 (filter_asked values m) f)
