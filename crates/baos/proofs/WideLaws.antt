-- An entry written with all of its value's memory: it is the entry and some bytes behind it, and those are gone when what follows is written.
use Prim.Native.Nat.{ℕ, ◌+◌, ◌-◌, ◌/◌, ◌%◌, ◌≤◌}
use mathlib.Core.Path.{◌≡◌, refl, sym, ◌∙◌, ap}
use mathlib.Core.Bool.{Bool, true, false}
use mathlib.Core.List.{List, [], ◌∷◌, ◌++◌, append_assoc, append-nil}
use native.Mathlib.Omega.{arith}
use lib.ListN.{length, take, drop, take-append-drop}
use lib.Seq.{drop-drop, drop-append-add, length-take-le, take-append_seam}
use Rattle.std.specs.Prelude.{if◌then◌else◌}
use Rattle.words.specs.Words.{put}
use Rattle.words.proofs.ByteLaws.{length-put, put-put}
use Rattle.baos.specs.declared.datapoint.Datapoint.{Datapoint}
use Rattle.baos.specs.declared.inner.Wanted.{Wanted}
use Rattle.baos.specs.Datapoint.{size_of, value_of}
use Rattle.baos.specs.Get.{description_entry, value_entry}
use Rattle.baos.specs.Inner.Gather.{entry_of, wide_value, wide_of}
use Rattle.baos.proofs.DatapointLaws.{size_fits}

pub value_size : (d : Datapoint) → length d.value ≡ 14 → length (value_entry d).bytes ≡ 4 + size_of d.typecode
unfolding value_entry value_of
value_size d l = omega (arith, length-take-le (size_of d.typecode) d.value (omega (arith, l, size_fits d.typecode)))

-- ---- the two kinds
pub wide_value_lem : (w : Wanted) (d : Datapoint) → w.values ≡ true → wide_of w d ≡ wide_value d
unfolding wide_of
wide_value_lem w d v = simp v

pub wide_description : (w : Wanted) (d : Datapoint) → w.values ≡ false → wide_of w d ≡ (description_entry d).bytes
unfolding wide_of
wide_description w d v = simp v

-- it has at most 18 bytes
pub wide_size : (w : Wanted) (d : Datapoint) → length d.value ≡ 14 → length (wide_of w d) ≤ 18
unfolding wide_value description_entry
wide_size w d l = go w.values refl
  where
    go : (b : Bool) → w.values ≡ b → length (wide_of w d) ≤ 18
    go true e = omega (arith, ap length (wide_value_lem w d e), l)
    go false e = omega (arith, ap length (wide_description w d e))

-- ---- the bytes behind the entry
abbrev pub behind_of : Wanted → Datapoint → List ℕ
behind_of w d = if w.values then drop (size_of d.typecode) d.value else []

pub wide_is : (w : Wanted) (d : Datapoint) → wide_of w d ≡ (entry_of w d).bytes ++ behind_of w d
unfolding wide_of entry_of wide_value value_entry value_of
wide_is w d = go w.values refl
  where
    value : wide_value d ≡ (value_entry d).bytes ++ drop (size_of d.typecode) d.value
    value = ap (λ (r : List ℕ). d.id / 256 ∷ d.id % 256 ∷ d.state ∷ size_of d.typecode ∷ r) (sym (take-append-drop (size_of d.typecode) d.value))

    go : (b : Bool) → w.values ≡ b → wide_of w d ≡ (entry_of w d).bytes ++ behind_of w d
    go true e = simp e value
    go false e = simp e (sym (append-nil (description_entry d).bytes))

-- ---- what is written over
put_same : (l : List ℕ) (p : ℕ) (g r : List ℕ) → length g ≤ length r → p + length r ≤ length l → put (put l p g) p r ≡ put l p r
unfolding put
put_same l p g r h k =
    let a : List ℕ = take p l in
    let n : length a ≡ p = length-take-le p l (omega (arith, k)) in
    let b : List ℕ = drop (p + length g) l in
    let whole : put l p g ≡ a ++ (g ++ b) = append_assoc a g b in
    let t : take p (put l p g) ≡ a = ap (take p) whole ∙ ap (λ (j : ℕ). take j (a ++ (g ++ b))) (sym n) ∙ take-append_seam a (g ++ b) in
    let q : drop (p + length r) (put l p g) ≡ drop (p + length r) l =
    ap (drop (p + length r)) whole ∙ ap (λ (j : ℕ). drop (j + length r) (a ++ (g ++ b))) (sym n) ∙ drop-append-add a (g ++ b) (length r)
    ∙ ap (λ (j : ℕ). drop j (g ++ b)) {x = length r} {y = length g + (length r - length g)} (omega (arith, h)) ∙ drop-append-add g b (length r - length g)
    ∙ drop-drop (length r - length g) (p + length g) l ∙ ap (λ (j : ℕ). drop j l) {x = p + length g + (length r - length g)} {y = p + length r} (omega (arith, h)) in
    rw (t, q) refl

-- an entry, some bytes behind it, and then what follows, which is no shorter than those
pub put_over : (l : List ℕ) (at : ℕ) (e g r : List ℕ) → length g ≤ length r → at + length e + length r ≤ length l → put (put l at (e ++ g)) (at + length e) r ≡ put l at (e ++ r)
put_over l at e g r h k =
    ap (λ (x : List ℕ). put x (at + length e) r) (sym (put-put l at (at + length e) e g refl (omega (arith, h, k))))
    ∙ put_same (put l at e) (at + length e) g r h (omega (arith, k, length-put l at e (omega (arith, k))))
    ∙ put-put l at (at + length e) e r refl k
