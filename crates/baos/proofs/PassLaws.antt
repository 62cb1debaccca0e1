-- The two passes, record by record, as the loops go. One set of laws for items and datapoints.
use mathlib.Core.Path.{◌≡◌, refl, sym, ◌∙◌, ap, subst}
use Prim.Native.Nat.{ℕ, zero, suc, ◌+◌, ◌<◌, ◌≤◌}
use native.Mathlib.Omega.{arith}
use native.Mathlib.Numerals.{add-one}
use native.Mathlib.Nat.{not-suc-le-zero, le_of_suc-le-suc}
use mathlib.Core.Bool.{Bool, true, false, not}
use mathlib.Core.List.{List, [], ◌∷◌, ◌++◌}
use lib.ListN.{length, get_or, set, take, drop, drop_of_length-le, length-append, take-append-drop}
use lib.Dec.{T, leb, ltb, leb→le}
use borrow.Author.Tests.{ltb-false}
use Rattle.std.specs.Prelude.{if◌then◌else◌}
use Rattle.words.specs.Words.{is_yes_or_no, is_padded, every, put}
use Rattle.words.proofs.WordLaws.{left as left-part, right as right-part, parts3, padded_decided, every_suffix}
use Rattle.words.proofs.ByteLaws.{length-put, put-put}
use Rattle.ft12.proofs.EventLaws.{put_none}
use Rattle.baos.specs.Datapoint.{size_of, datapoint_ok}
use Rattle.baos.specs.Inner.Gather.{entry_of, wide_of, with_entry, ended, measured, walked, built, left}
use Rattle.baos.specs.Inner.Promise.{Written}
use Rattle.baos.specs.Get.{AnswerEntry, room_for_entries, item_entry, description_entry, value_entry}
use Rattle.baos.specs.Item.{item_ok}
use Rattle.baos.specs.Table.{rising, table_ok}
use Rattle.baos.specs.declared.datapoint.Datapoint.{Datapoint}
use Rattle.baos.specs.Inner.Gather.{Gathered}
use Rattle.baos.specs.declared.inner.Wanted.{Wanted}
use Rattle.baos.specs.declared.item.Item.{Item}
use Rattle.baos.proofs.WideLaws.{put_over, wide_size}
use Rattle.baos.proofs.DatapointLaws.{parts}
use Rattle.walks.proofs.Loops.{drop_step}

is_taken_lem : {X : Type 0} (y : Bool) (a b : X) → T y → (if y then a else b) ≡ a
is_taken_lem true a b t = refl
is_taken_lem false a b t = absurd t

is_passed : {X : Type 0} (y : Bool) (a b : X) → T (not y) → (if y then a else b) ≡ b
is_passed true a b t = absurd t
is_passed false a b t = refl

pub drop-next : {A : Type 0} (xs : List A) (i : ℕ) (blank : A) → i < length xs → drop i xs ≡ get_or xs i blank ∷ drop (i + 1) xs
drop-next xs i blank l = drop_step xs i blank l ∙ ap (λ (k : ℕ). get_or xs i blank ∷ drop k xs) (sym (add-one i))

-- a record put in place i: it is the last of the first i + 1, and those behind it stay
take_suc : {A : Type 0} (xs : List A) (i : ℕ) (blank : A) (r : List A) → i < length xs → take (suc i) xs ++ r ≡ take i xs ++ (get_or xs i blank ∷ r)
take_suc [] i blank r l = absurd (not-suc-le-zero l)
take_suc (x ∷ xs) zero blank r l = refl
take_suc (x ∷ xs) (suc i) blank r l = ap (λ (s : List _). x ∷ s) (take_suc xs i blank r (le_of_suc-le-suc l))

set_suc : {A : Type 0} (xs : List A) (i : ℕ) (y : A) (r : List A) → i < length xs → take (suc i) (set xs i y) ++ r ≡ take i xs ++ (y ∷ r)
set_suc [] i y r l = absurd (not-suc-le-zero l)
set_suc (x ∷ xs) zero y r l = refl
set_suc (x ∷ xs) (suc i) y r l = ap (λ (s : List _). x ∷ s) (set_suc xs i y r (le_of_suc-le-suc l))

drop_suc : {A : Type 0} (xs : List A) (i : ℕ) (y : A) → drop (suc i) (set xs i y) ≡ drop (suc i) xs
drop_suc [] i y = refl
drop_suc (x ∷ xs) zero y = refl
drop_suc (x ∷ xs) (suc i) y = drop_suc xs i y

pub take_next : {A : Type 0} (xs : List A) (i : ℕ) (blank : A) (r : List A) → i < length xs → take (i + 1) xs ++ r ≡ take i xs ++ (get_or xs i blank ∷ r)
take_next xs i blank r l = ap (λ (k : ℕ). take k xs ++ r) (add-one i) ∙ take_suc xs i blank r l

pub take-set : {A : Type 0} (xs : List A) (i : ℕ) (y : A) (r : List A) → i < length xs → take (i + 1) (set xs i y) ++ r ≡ take i xs ++ (y ∷ r)
take-set xs i y r l = ap (λ (k : ℕ). take k (set xs i y) ++ r) (add-one i) ∙ set_suc xs i y r l

pub drop-set : {A : Type 0} (xs : List A) (i : ℕ) (y : A) → drop (i + 1) (set xs i y) ≡ drop (i + 1) xs
drop-set xs i y = ap (λ (k : ℕ). drop k (set xs i y)) (add-one i) ∙ drop_suc xs i y ∙ ap (λ (k : ℕ). drop k xs) (sym (add-one i))

-- ---- each record of a table, and of what is left of it, passes its test
module _ {A : Type 0} (ok : A → Bool) where
  pub rest_ok : (most : ℕ) (id_of : A → ℕ) (xs : List A) (i : ℕ) → table_ok most id_of ok xs ≡ true → T (every ok (drop i xs))
  unfolding table_ok
  rest_ok most id_of xs i e =
      every_suffix ok (take i xs) (drop i xs) (subst (λ (ys : List A). T (every ok ys)) (sym (take-append-drop i xs)) (parts3 (leb (length xs) most) (rising 0 _) (every ok xs) (subst T (sym e) tt)).2)

  pub here_ok : (xs : List A) (i : ℕ) (blank : A) → i < length xs → T (every ok (drop i xs)) → T (ok (get_or xs i blank)) × T (every ok (drop (i + 1) xs))
  here_ok xs i blank l t =
      let t' : T (every ok (get_or xs i blank ∷ drop (i + 1) xs)) = subst (λ (ys : List A). T (every ok ys)) (drop-next xs i blank l) t in
      (left-part (ok (get_or xs i blank)) (every ok (drop (i + 1) xs)) t', right-part (ok (get_or xs i blank)) (every ok (drop (i + 1) xs)) t')

pub code_fits : (d : Datapoint) → T (datapoint_ok d) → d.typecode ≤ 14
code_fits d t = leb→le d.typecode 14 (parts d t).typecode

pub wide_short : (w : Wanted) (d : Datapoint) → T (datapoint_ok d) → length (wide_of w d) ≤ 18
wide_short w d t = wide_size w d ((padded_decided 14 (size_of d.typecode) d.value).0 (parts d t).unused).memory

pub bytes_fit : (i : Item) → T (item_ok i) → (i.size ≤ 16) × (length i.bytes ≡ 16)
unfolding item_ok
bytes_fit i t =
    let p = (padded_decided 16 i.size i.bytes).0 (parts3 (leb 1 i.size) (is_padded 16 i.size i.bytes) (is_yes_or_no i.writable) t).1 in
    (p.within, p.memory)

-- ---- an entry is not empty, so no more entries are counted than bytes
pub entry_some : (w : Wanted) (d : Datapoint) → 1 ≤ length (entry_of w d).bytes
unfolding entry_of description_entry value_entry
entry_some w d = go w.values refl
  where
    go : (b : Bool) → w.values ≡ b → 1 ≤ length (entry_of w d).bytes
    go true e = simp e (omega arith)
    go false e = simp e (omega arith)

pub item_some : (i : Item) → 1 ≤ length (item_entry i).bytes
unfolding item_entry
item_some i = omega arith

abbrev pub Fits : Gathered → Type 0
Fits g = (g.count ≤ g.size) × (g.size ≤ 248)

counted_fits : (id n : ℕ) (g : Gathered) → 1 ≤ n → Fits g → Fits (with_entry id n g)
unfolding with_entry
counted_fits id n g s f = go (ltb room_for_entries (g.size + n)) refl
  where
    go : (b : Bool) → ltb room_for_entries (g.size + n) ≡ b → Fits (with_entry id n g)
    go true e = simp e f
    go false e = simp e (omega (arith, s, f.0), omega (arith, ltb-false room_for_entries (g.size + n) e))

pub step_fits : (b t : Bool) (e : AnswerEntry) (g : Gathered) → 1 ≤ length e.bytes → Fits g → Fits (measured b t e g)
unfolding measured ended
step_fits true t e g s f = f
step_fits false true e g s f = counted_fits e.id (length e.bytes) g s f
step_fits false false e g s f = f

-- ---- the first pass: from record i on it comes to r
module _ {A : Type 0} (step : A → Gathered → Gathered) (blank : A) (xs : List A) (g r : Gathered) (i : ℕ) where
  next : i < length xs → walked step g (drop i xs) ≡ r → (if (step (get_or xs i blank) g).ended then step (get_or xs i blank) g else walked step (step (get_or xs i blank) g) (drop (i + 1) xs)) ≡ r
  unfolding walked
  next l e = sym (ap (walked step g) (drop-next xs i blank l)) ∙ e

  pub pass_ends : i < length xs → walked step g (drop i xs) ≡ r → T (step (get_or xs i blank) g).ended → step (get_or xs i blank) g ≡ r
  pass_ends l e t = sym (is_taken_lem (step (get_or xs i blank) g).ended _ _ t) ∙ next l e

  pub pass_on : i < length xs → walked step g (drop i xs) ≡ r → T (not (step (get_or xs i blank) g).ended) → walked step (step (get_or xs i blank) g) (drop (i + 1) xs) ≡ r
  pass_on l e t = sym (is_passed (step (get_or xs i blank) g).ended _ _ t) ∙ next l e

  pub pass_done : length xs ≤ i → walked step g (drop i xs) ≡ r → g ≡ r
  unfolding walked
  pass_done l e = sym (ap (walked step g) (drop_of_length-le xs l)) ∙ e

-- ---- the second pass: what record i adds to the bytes, and what is left of the table
module _ {A : Type 0} (behind wanted : A → Bool) (blank : A) (xs : List A) (i : ℕ) where
  abbrev x : A
  x = get_or xs i blank

  module _ (entry : A → AnswerEntry) where
    pub built_end : length xs ≤ i → built behind wanted entry (drop i xs) ≡ []
    unfolding built
    built_end l = ap (built behind wanted entry) (drop_of_length-le xs l)

    pub built_behind : i < length xs → T (behind x) → built behind wanted entry (drop i xs) ≡ []
    unfolding built
    built_behind l b = ap (built behind wanted entry) (drop-next xs i blank l) ∙ is_taken_lem (behind x) _ _ b

    pub built_wanted : i < length xs → T (not (behind x)) → T (wanted x) → built behind wanted entry (drop i xs) ≡ (entry x).bytes ++ built behind wanted entry (drop (i + 1) xs)
    unfolding built
    built_wanted l b t = ap (built behind wanted entry) (drop-next xs i blank l) ∙ is_passed (behind x) _ _ b ∙ is_taken_lem (wanted x) _ _ t

    pub built_other : i < length xs → T (not (behind x)) → T (not (wanted x)) → built behind wanted entry (drop i xs) ≡ built behind wanted entry (drop (i + 1) xs)
    unfolding built
    built_other l b t = ap (built behind wanted entry) (drop-next xs i blank l) ∙ is_passed (behind x) _ _ b ∙ is_passed (wanted x) _ _ t

  module _ (change : A → A) where
    -- the records before i as they are now, and behind them what is left of the others
    abbrev pub all_left : List A
    all_left = take i xs ++ left behind wanted change (drop i xs)

    pub left_end : length xs ≤ i → xs ≡ all_left
    unfolding left
    left_end l = sym (ap (λ (r : List A). take i xs ++ left behind wanted change r) (drop_of_length-le xs l) ∙ ap (λ (r : List A). take i xs ++ r) (sym (drop_of_length-le xs l)) ∙ take-append-drop i xs)

    pub left_behind : i < length xs → T (behind x) → xs ≡ all_left
    unfolding left
    left_behind l b =
        sym (ap (λ (r : List A). take i xs ++ r) (ap (left behind wanted change) (drop-next xs i blank l) ∙ is_taken_lem (behind x) _ _ b ∙ sym (drop-next xs i blank l)) ∙ take-append-drop i xs)

    pub left_wanted : i < length xs → T (not (behind x)) → T (wanted x) → take (i + 1) (set xs i (change x)) ++ left behind wanted change (drop (i + 1) (set xs i (change x))) ≡ all_left
    unfolding left
    left_wanted l b t =
        ap (λ (r : List A). take (i + 1) (set xs i (change x)) ++ left behind wanted change r) (drop-set xs i (change x)) ∙ take-set xs i (change x) _ l
        ∙ sym (ap (λ (r : List A). take i xs ++ r) (ap (left behind wanted change) (drop-next xs i blank l) ∙ is_passed (behind x) _ _ b ∙ is_taken_lem (wanted x) _ _ t))

    pub left_other : i < length xs → T (not (behind x)) → T (not (wanted x)) → take (i + 1) xs ++ left behind wanted change (drop (i + 1) xs) ≡ all_left
    unfolding left
    left_other l b t =
        take_next xs i blank _ l
        ∙ sym (ap (λ (r : List A). take i xs ++ r) (ap (left behind wanted change) (drop-next xs i blank l) ∙ is_passed (behind x) _ _ b ∙ is_passed (wanted x) _ _ t))

-- ---- entries put one behind the other: what is still to be put, the bytes `rest` at `end`, comes to what is to be put in all
pub record Putting (out : List ℕ) (at : ℕ) (all bs : List ℕ) (end : ℕ) (rest : List ℕ) : Type 0 where
  pub long : length bs ≡ length out
  pub fits : end + length rest ≤ length bs
  pub ends : end + length rest ≡ at + length all
  pub same : put bs end rest ≡ put out at all

module _ (out : List ℕ) (at : ℕ) (all : List ℕ) where
  pub putting_all : at + length all ≤ length out → Putting out at all out at all
  putting_all l = record { long = refl; fits = l; ends = refl; same = refl }

  module _ (bs : List ℕ) (end : ℕ) where
    pub putting_none : Putting out at all bs end [] → Written out at all end bs
    putting_none p = record { buffer = put_none bs end ∙ p.same; ends = omega (arith, p.ends) }

    module _ (vs rest : List ℕ) where
      pub entry_fits : Putting out at all bs end (vs ++ rest) → end + length vs ≤ length bs
      entry_fits p = omega (arith, p.fits, length-append vs rest)

      pub putting_next : Putting out at all bs end (vs ++ rest) → Putting out at all (put bs end vs) (end + length vs) rest
      putting_next p =
          record {
            long = length-put bs end vs (entry_fits p) ∙ p.long;
            fits = omega (arith, p.fits, length-append vs rest, length-put bs end vs (entry_fits p));
            ends = omega (arith, p.ends, length-append vs rest);
            same = put-put bs end (end + length vs) vs rest refl (omega (arith, p.fits, length-append vs rest)) ∙ p.same;
          }

      -- the same with some bytes behind the entry, no more than are still to come
      pub putting_over : (over : List ℕ) → length over ≤ length rest → Putting out at all bs end (vs ++ rest) → Putting out at all (put bs end (vs ++ over)) (end + length vs) rest
      putting_over over h p =
          let room : end + length (vs ++ over) ≤ length bs = omega (arith, p.fits, length-append vs rest, length-append vs over, h) in
          record {
            long = length-put bs end (vs ++ over) room ∙ p.long;
            fits = omega (arith, p.fits, length-append vs rest, length-put bs end (vs ++ over) room);
            ends = omega (arith, p.ends, length-append vs rest);
            same = put_over bs end vs over rest h (omega (arith, p.fits, length-append vs rest)) ∙ p.same;
          }
