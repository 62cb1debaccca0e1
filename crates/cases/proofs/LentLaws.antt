-- The lines that tell the tables: a law for each answer of a definition.
use Rattle.std.proofs.Common.{◌≡◌, ℕ, ◌+◌, ◌<◌, Bool, true, false, ltb, List, [], ◌∷◌, ◌++◌, length, get_or, set, refl, ap, ◌∙◌, add-one, length-append, lt-ltb, ltb-true, ne_eqb}
use Rattle.std.specs.Prelude.{if◌then◌else◌, Result, Ok, Err, IsOk, OnOk, OnErr, ◌↔◌}
use Rattle.arrayvec.specs.ArrayVec.{ArrayVec}
use Rattle.script.specs.View.{in_places}
use Rattle.script.proofs.PlaceLaws.{place_next}
use Rattle.cases.specs.declared.bench.Bench.{Bench as HeldBench}
use Rattle.cases.specs.View.{bench_of}
use Rattle.baos.specs.declared.datapoint.Datapoint.{Datapoint}
use Rattle.baos.specs.declared.item.Item.{Item}
use Rattle.cases.specs.Bench.{Bench, no_datapoint, no_item, empty_bench, with_datapoints, with_items, with_parameters, with_site, with_defaults}
use Rattle.script.specs.Line.{Line}
use Rattle.script.specs.Record.{item_of, datapoint_of}
use Rattle.cases.specs.Lent.{with_item, with_datapoint, filled, built}

-- ---- a list that stays where it is full
abbrev pub added : {A : Type 0} → ℕ → A → List A → List A
added n x xs = if ltb (length xs) n then xs ++ x ∷ [] else xs

pub try_added : {A U E : Type 0} (r : Result U E) (n : ℕ) (x : A) (v v' : ArrayVec A) → (IsOk r ↔ (length v.items < n)) → OnOk r (v'.items ≡ v.items ++ x ∷ []) → OnErr r (v' ≡ v) → v'.items ≡ added n x v.items
try_added {A = A} (Ok u) n x v v' f g h = let l : length v.items < n = f.0 refl in rw (lt-ltb (length v.items) n l) g
try_added {A = A} (Err e) n x v v' f g h = go (ltb (length v.items) n) refl
  where
    go : (t : Bool) → ltb (length v.items) n ≡ t → v'.items ≡ added n x v.items
    go true q = let z = f.1 (ltb-true (length v.items) n q) in cc
    go false q = rw q (ap (λ (w : ArrayVec A). w.items) h)

pub item_placed : (i : Item) (b : HeldBench) (v : ArrayVec Item) → v.items ≡ added 4 i b.items.items → bench_of (record b { items = v }) ≡ with_item i (bench_of b)
unfolding with_item with_items
item_placed i b v e = go (ltb (length b.items.items) 4) refl
  where
    go : (t : Bool) → ltb (length b.items.items) 4 ≡ t → bench_of (record b { items = v }) ≡ with_item i (bench_of b)
    go true q =
        let k : v.items ≡ b.items.items ++ i ∷ [] = rw q at e in
        let p : in_places 4 no_item v.items ≡ set (in_places 4 no_item b.items.items) (length b.items.items) i = ap (in_places 4 no_item) k ∙ place_next 4 no_item b.items.items i (ltb-true (length b.items.items) 4 q) in
        let c : length v.items ≡ length b.items.items + 1 = ap length k ∙ length-append b.items.items (i ∷ []) in
        rw q (λ j. with_items (p j) (c j) (bench_of b))
    go false q = let k : v.items ≡ b.items.items = rw q at e in rw q (λ j. with_items (in_places 4 no_item (k j)) (length (k j)) (bench_of b))

pub datapoint_placed : (d : Datapoint) (b : HeldBench) (v : ArrayVec Datapoint) → v.items ≡ added 50 d b.datapoints.items → bench_of (record b { datapoints = v }) ≡ with_datapoint d (bench_of b)
unfolding with_datapoint with_datapoints
datapoint_placed d b v e = go (ltb (length b.datapoints.items) 50) refl
  where
    go : (t : Bool) → ltb (length b.datapoints.items) 50 ≡ t → bench_of (record b { datapoints = v }) ≡ with_datapoint d (bench_of b)
    go true q =
        let k : v.items ≡ b.datapoints.items ++ d ∷ [] = rw q at e in
        let p : in_places 50 no_datapoint v.items ≡ set (in_places 50 no_datapoint b.datapoints.items) (length b.datapoints.items) d = ap (in_places 50 no_datapoint) k ∙ place_next 50 no_datapoint b.datapoints.items d (ltb-true (length b.datapoints.items) 50 q) in
        let c : length v.items ≡ length b.datapoints.items + 1 = ap length k ∙ length-append b.datapoints.items (d ∷ []) in
        rw q (λ j. with_datapoints (p j) (c j) (bench_of b))
    go false q = let k : v.items ≡ b.datapoints.items = rw q at e in rw q (λ j. with_datapoints (in_places 50 no_datapoint (k j)) (length (k j)) (bench_of b))

module _ (a : List ℕ) (b : Bench) where
  pub filled_none : filled a 0 b ≡ b
  unfolding filled
  filled_none = refl

  pub filled_next : (k : ℕ) → filled a (k + 1) b ≡ with_datapoint (datapoint_of a k) (filled a k b)
  unfolding filled
  filled_next k = ap (λ (m : ℕ). filled a m b) (add-one k)

module _ (l : Line) (b : Bench) where
  pub told_empty : l.letter ≡ 0x65 → built l b ≡ empty_bench
  unfolding built
  told_empty e = rw e refl

  pub told_item : l.letter ≡ 0x69 → built l b ≡ with_item (item_of l.bytes) b
  unfolding built
  told_item e = rw e refl

  pub told_datapoints : l.letter ≡ 0x64 → built l b ≡ filled l.bytes (get_or l.bytes 0 0) b
  unfolding built
  told_datapoints e = rw e refl

  pub told_parameters : l.letter ≡ 0x70 → built l b ≡ with_parameters l.bytes l.size b
  unfolding built
  told_parameters e = rw e refl

  pub told_site : l.letter ≡ 0x76 → built l b ≡ with_site l b
  unfolding built
  told_site e = rw e refl

  pub told_defaults : l.letter ≡ 0x77 → built l b ≡ with_defaults l b
  unfolding built
  told_defaults e = rw e refl

  pub told_nothing : (l.letter ≡ 0x65 → ⊥) → (l.letter ≡ 0x69 → ⊥) → (l.letter ≡ 0x64 → ⊥) → (l.letter ≡ 0x70 → ⊥) → (l.letter ≡ 0x76 → ⊥) → (l.letter ≡ 0x77 → ⊥) → built l b ≡ b
  unfolding built
  told_nothing e i d p v w = rw (ne_eqb _ _ e, ne_eqb _ _ i, ne_eqb _ _ d, ne_eqb _ _ p, ne_eqb _ _ v, ne_eqb _ _ w) refl
