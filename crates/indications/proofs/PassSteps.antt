-- The laws of the pass over the table, of a record as the code reads it: z is what it reads where no record stands.
use Rattle.std.proofs.Common.{ℕ, ◌+◌, ◌-◌, ◌<◌, ◌≤◌, ◌≡◌, sym, ◌∙◌, ap, subst, Bool, true, false, not, List, length, get_or, set, T, leb}
use Rattle.std.proofs.lemmas.List.{get_or_default}
use Rattle.words.specs.Words.{put}
use Rattle.words.proofs.WordLaws.{true_T}
use Rattle.baos.specs.declared.datapoint.Datapoint.{Datapoint}
use Rattle.baos.specs.Datapoint.{zero_datapoint, size_of, with_mark, handed_out}
use Rattle.baos.specs.Get.{value_entry}
use Rattle.baos.specs.Indication.{needs}
use Rattle.baos.specs.Inner.Promise.{Written, MarkedTold}
use Rattle.baos.proofs.IndicationLaws.{Telling, telling_code, telling_waits, telling_room, telling_other, telling_next}
use Rattle.indications.proofs.SearchLaws.{marked, unmarked}

module _ {ys : List Datapoint} {out : List ℕ} {at i end count : ℕ} {zs : List Datapoint} {bs : List ℕ} (h : Telling ys out at i end count zs bs) (l : i < length zs) (z : Datapoint) where
  abbrev d : Datapoint
  d = get_or zs i z

  abbrev room : ℕ
  room = at + 248 - end

  same : get_or zs i zero_datapoint ≡ d
  same = get_or_default zs i zero_datapoint z l

  pub code_ok : d.typecode ≤ 14
  code_ok = subst (λ (x : Datapoint). x.typecode ≤ 14) same (telling_code ys out at i end count zs bs h l)

  waits_same : (b : Bool) → not (leb (needs d) room) ≡ b → not (leb (needs (get_or zs i zero_datapoint)) room) ≡ b
  waits_same b e = ap (λ (x : Datapoint). not (leb (needs x) room)) same ∙ e

  -- it is not marked
  pub goes_over : (d.mark ≡ 1 → ⊥) → (j : ℕ) → j ≡ i + 1 → Telling ys out at j end count zs bs
  goes_over n j e = subst (λ (k : ℕ). Telling ys out at k end count zs bs) (sym e) (telling_other ys out at i end count zs bs h l (unmarked zs z i l n))

  module _ (m : d.mark ≡ 1) where
    -- it does not fit: the pass ends
    pub stops : not (leb (needs d) room) ≡ true → MarkedTold ys out at (record { count = count; end = end }) bs zs
    stops e = telling_waits ys out at i end count zs bs h l (marked zs z i l m) (true_T (waits_same true e))

    -- it is carried
    module _ (fits : not (leb (needs d) room) ≡ false) where
      fit : T (not (not (leb (needs (get_or zs i zero_datapoint)) room)))
      fit = true_T (ap not (waits_same false fits))

      pub room_left : end + 4 + size_of d.typecode ≤ length bs
      room_left = subst (λ (x : Datapoint). end + 4 + size_of x.typecode ≤ length bs) same (telling_room ys out at i end count zs bs h l (marked zs z i l m) fit)

      carried_there : Telling ys out at (i + 1) (end + length (value_entry d).bytes) (count + 1) (set zs i (with_mark 0 (handed_out d))) (put bs end (value_entry d).bytes)
      carried_there =
          subst (λ (x : Datapoint). Telling ys out at (i + 1) (end + length (value_entry x).bytes) (count + 1) (set zs i (with_mark 0 (handed_out x))) (put bs end (value_entry x).bytes)) same
          (telling_next ys out at i end count zs bs h l (marked zs z i l m) fit)

      pub carries : (j e c : ℕ) (us : List Datapoint) (os : List ℕ) → j ≡ i + 1 → c ≡ count + 1 → us ≡ set zs i (with_mark 0 (handed_out d)) → Written bs end (value_entry d).bytes e os → Telling ys out at j e c us os
      carries j e c us os p q r w = rw (p, q, r, w.ends, w.buffer) carried_there
