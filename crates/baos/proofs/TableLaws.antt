-- Tables of records with rising IDs: one set of laws for items and datapoints.
use Prim.Native.Nat.{ℕ, zero, suc, ◌≤◌, ◌<◌}
use mathlib.Core.Path.{◌≡◌, refl}
use mathlib.Core.Logic.{◌↔◌}
use mathlib.Core.Bool.{Bool, true, false}
use mathlib.Core.List.{List, [], ◌∷◌, map}
use native.Mathlib.Omega.{arith}
use native.Mathlib.Nat.{not-suc-le-zero, le_of_suc-le-suc}
use lib.ListN.{length, get_or, length-map}
use lib.Dec.{T, leb, ltb, eqb, ltb→lt, lt→ltb}
use borrow.Author.Tests.{ne_eqb, eqb-true}
use Rattle.std.specs.Prelude.{if◌then◌else◌}
use Rattle.words.specs.Words.{every}
use Rattle.words.proofs.WordLaws.{left, right, both, parts3, join3}
use Rattle.baos.specs.Table.{Tables, rising, Rises, table_ok, found, changed_at}
use Rattle.baos.specs.Set.{SetEntry, applied}

-- ---- "IDs are 1 or more and strictly rise": the test decides it
above_last : (last : ℕ) (xs : List ℕ) → T (rising last xs) → (j : ℕ) → j < length xs → last < get_or xs j 0
unfolding rising
above_last last [] t j h = absurd (not-suc-le-zero h)
above_last last (x ∷ xs) t zero h = ltb→lt last x (left (ltb last x) (rising x xs) t)
above_last last (x ∷ xs) t (suc j) h =
    let p : last < x = ltb→lt last x (left (ltb last x) (rising x xs) t) in
    let q : x < get_or xs j 0 = above_last x xs (right (ltb last x) (rising x xs) t) j (le_of_suc-le-suc h) in
    omega arith

rises_strictly : (last : ℕ) (xs : List ℕ) → T (rising last xs) → (i j : ℕ) → i < j → j < length xs → get_or xs i 0 < get_or xs j 0
unfolding rising
rises_strictly last [] t i j p h = absurd (not-suc-le-zero h)
rises_strictly last (x ∷ xs) t i zero p h = absurd (not-suc-le-zero p)
rises_strictly last (x ∷ xs) t zero (suc j) p h = above_last x xs (right (ltb last x) (rising x xs) t) j (le_of_suc-le-suc h)
rises_strictly last (x ∷ xs) t (suc i) (suc j) p h = rises_strictly x xs (right (ltb last x) (rising x xs) t) i j (le_of_suc-le-suc p) (le_of_suc-le-suc h)

-- what rises from above a number rises from above a lower one
pub rising_lower : (low last : ℕ) (xs : List ℕ) → low ≤ last → T (rising last xs) → T (rising low xs)
unfolding rising
rising_lower low last [] l t = tt
rising_lower low last (x ∷ xs) l t =
    both (ltb low x) (rising x xs) (lt→ltb low x (omega (arith, l, ltb→lt last x (left (ltb last x) (rising x xs) t)))) (right (ltb last x) (rising x xs) t)

rising_from : (last : ℕ) (xs : List ℕ) → ((j : ℕ) → j < length xs → last < get_or xs j 0) → ((i j : ℕ) → i < j → j < length xs → get_or xs i 0 < get_or xs j 0) → T (rising last xs)
unfolding rising
rising_from last [] p q = tt
rising_from last (x ∷ xs) p q =
    both (ltb last x) (rising x xs) (lt→ltb last x (p 0 (omega arith)))
    (rising_from x xs (λ j h. q 0 (suc j) (omega arith) (omega arith)) (λ i j h k. q (suc i) (suc j) (omega arith) (omega arith)))

pub rises_decided : (ids : List ℕ) → T (rising 0 ids) ↔ Rises ids
rises_decided ids = (
  λ t. record { positive = above_last 0 ids t; strictly = rises_strictly 0 ids t },
  λ r. rising_from 0 ids r.positive r.strictly,
)

-- ---- changes that leave the IDs
module _ {A : Type 0} (id_of : A → ℕ) where
  -- a record that has the ID n meets the test
  unfoldable pub at : ℕ → (A → Bool) → A → Bool
  at n fit x = if eqb (id_of x) n then fit x else true

  map_ids : (f : A → A) → ((x : A) → id_of (f x) ≡ id_of x) → (xs : List A) → map id_of (map f xs) ≡ map id_of xs
  map_ids f h [] = refl
  map_ids f h (x ∷ xs) = let e = h x in let d = map_ids f h xs in λ i. e i ∷ d i

  every_mapped : (ok q : A → Bool) (f : A → A) → ((x : A) → T (q x) → T (ok x) → T (ok (f x))) → (xs : List A) → T (every q xs) → T (every ok xs) → T (every ok (map f xs))
  every_mapped ok q f h [] s t = tt
  every_mapped ok q f h (x ∷ xs) s t =
      both (ok (f x)) (every ok (map f xs)) (h x (left (q x) (every q xs) s) (left (ok x) (every ok xs) t))
      (every_mapped ok q f h xs (right (q x) (every q xs) s) (right (ok x) (every ok xs) t))

  -- each record changed by f
  pub table_map : (most : ℕ) (ok q : A → Bool) (f : A → A) → ((x : A) → id_of (f x) ≡ id_of x) → ((x : A) → T (q x) → T (ok x) → T (ok (f x)))
      → (xs : List A) → T (every q xs) → T (table_ok most id_of ok xs) → T (table_ok most id_of ok (map f xs))
  unfolding table_ok
  table_map most ok q f h g xs s t =
      let p = parts3 (leb (length xs) most) (rising 0 (map id_of xs)) (every ok xs) t in
      rw (map_ids f h xs, length-map xs f)
      (join3 (leb (length xs) most) (rising 0 (map id_of xs)) (every ok (map f xs)) p.0 p.1 (every_mapped ok q f g xs s p.2))

  pub ids_rise : (most : ℕ) (ok : A → Bool) (xs : List A) → T (table_ok most id_of ok xs) → T (rising 0 (map id_of xs))
  unfolding table_ok
  ids_rise most ok xs t = (parts3 (leb (length xs) most) (rising 0 (map id_of xs)) (every ok xs) t).1

  pub entries_ok : (most : ℕ) (ok : A → Bool) (xs : List A) → T (table_ok most id_of ok xs) → T (every ok xs)
  unfolding table_ok
  entries_ok most ok xs t = (parts3 (leb (length xs) most) (rising 0 (map id_of xs)) (every ok xs) t).2

  -- the record of one ID changed by f, which leaves the ID: each record has the ID that it had
  pub id_stays : (n : ℕ) (f : A → A) → ((x : A) → id_of (f x) ≡ id_of x) → (x : A) → id_of (if eqb (id_of x) n then f x else x) ≡ id_of x
  id_stays n f keeps x = go (eqb (id_of x) n)
    where
      go : (u : Bool) → id_of (if u then f x else x) ≡ id_of x
      go true = keeps x
      go false = refl

  pub table_changed : (most : ℕ) (ok fit : A → Bool) (n : ℕ) (f : A → A) → ((x : A) → id_of (f x) ≡ id_of x) → ((x : A) → T (fit x) → T (ok x) → T (ok (f x)))
      → (xs : List A) → T (every (at n fit) xs) → T (table_ok most id_of ok xs) → T (table_ok most id_of ok (changed_at id_of n f xs))
  unfolding changed_at
  table_changed most ok fit n f h g xs s t = table_map most ok (at n fit) (λ x. if eqb (id_of x) n then f x else x) (id_stays n f h) oks xs s t
    where
      oks : (x : A) → T (at n fit x) → T (ok x) → T (ok (if eqb (id_of x) n then f x else x))
      oks x a o = go (eqb (id_of x) n) refl
        where
          go : (u : Bool) → eqb (id_of x) n ≡ u → T (ok (if eqb (id_of x) n then f x else x))
          go true e = simp e (g x (unfold at in simp e at a) o)
          go false e = simp e o

  -- records with higher IDs are not concerned
  higher : (n : ℕ) (fit : A → Bool) (last : ℕ) (xs : List A) → T (rising last (map id_of xs)) → n ≤ last → T (every (at n fit) xs)
  unfolding at rising
  higher n fit last [] t h = tt
  higher n fit last (x ∷ xs) t h =
      let k : last < id_of x = ltb→lt last (id_of x) (left (ltb last (id_of x)) (rising (id_of x) (map id_of xs)) t) in
      both (at n fit x) (every (at n fit) xs) (simp (ne_eqb (id_of x) n (λ e. omega (arith, e))) tt)
      (higher n fit (id_of x) xs (right (ltb last (id_of x)) (rising (id_of x) (map id_of xs)) t) (omega arith))

  -- what a judge says of the record found, the record of that ID meets
  pub found_fits : (n : ℕ) (fit : A → Bool) (good : List A → Bool) → ((x : A) → T (good (x ∷ [])) → T (fit x))
      → (last : ℕ) (xs : List A) → T (rising last (map id_of xs)) → T (good (found id_of n xs)) → T (every (at n fit) xs)
  unfolding at rising found
  found_fits n fit good h last [] t j = tt
  found_fits n fit good h last (x ∷ xs) t j =
      go (eqb (id_of x) n) refl (found_fits n fit good h (id_of x) xs (right (ltb last (id_of x)) (rising (id_of x) (map id_of xs)) t))
    where
      go : (u : Bool) → eqb (id_of x) n ≡ u → (T (good (found id_of n xs)) → T (every (at n fit) xs)) → T (every (at n fit) (x ∷ xs))
      go true e r =
          both (at n fit x) (every (at n fit) xs) (simp e (h x (simp e at j)))
          (higher n fit (id_of x) xs (right (ltb last (id_of x)) (rising (id_of x) (map id_of xs)) t) (omega (arith, eqb-true (id_of x) n e)))
      go false e r = both (at n fit x) (every (at n fit) xs) (simp e tt) (r (simp e at j))

  -- ---- entries of a set applied in turn
  -- "entries apply in order": the first one first
  pub applied_first : (f : SetEntry → A → A) (o : SetEntry) (os : List SetEntry) (xs : List A) → applied id_of f (o ∷ os) xs ≡ applied id_of f os (changed_at id_of o.id (f o) xs)
  unfolding applied
  applied_first f o os xs = refl

  fit_kept : (fit : SetEntry → A → Bool) (f : SetEntry → A → A) → ((o : SetEntry) (x : A) → id_of (f o x) ≡ id_of x) → ((o p : SetEntry) (x : A) → fit p (f o x) ≡ fit p x)
      → (o p : SetEntry) (xs : List A) → every (at p.id (fit p)) (changed_at id_of o.id (f o) xs) ≡ every (at p.id (fit p)) xs
  unfolding at changed_at
  fit_kept fit f h k o p [] = refl
  fit_kept fit f h k o p (x ∷ xs) = go (eqb (id_of x) o.id) refl (fit_kept fit f h k o p xs)
    where
      go : (u : Bool) → eqb (id_of x) o.id ≡ u → every (at p.id (fit p)) (changed_at id_of o.id (f o) xs) ≡ every (at p.id (fit p)) xs
          → every (at p.id (fit p)) (changed_at id_of o.id (f o) (x ∷ xs)) ≡ every (at p.id (fit p)) (x ∷ xs)
      go true e r = simp (e, h o x, k o p x, r)
      go false e r = simp (e, r)

  -- entries that each fit the table keep it well formed
  pub applied_ok : (most : ℕ) (ok : A → Bool) (fit : SetEntry → A → Bool) (f : SetEntry → A → A) → ((o : SetEntry) (x : A) → id_of (f o x) ≡ id_of x) → ((o p : SetEntry) (x : A) → fit p (f o x) ≡ fit p x)
      → ((o : SetEntry) (x : A) → T (fit o x) → T (ok x) → T (ok (f o x)))
      → (os : List SetEntry) (xs : List A) → T (every (λ o. every (at o.id (fit o)) xs) os) → T (table_ok most id_of ok xs) → T (table_ok most id_of ok (applied id_of f os xs))
  unfolding applied
  applied_ok most ok fit f h k g [] xs s t = t
  applied_ok most ok fit f h k g (o ∷ os) xs s t =
      applied_ok most ok fit f h k g os (changed_at id_of o.id (f o) xs) (kept os (right (every (at o.id (fit o)) xs) (every (λ p. every (at p.id (fit p)) xs) os) s))
      (table_changed most ok (fit o) o.id (f o) (h o) (g o) xs (left (every (at o.id (fit o)) xs) (every (λ p. every (at p.id (fit p)) xs) os) s) t)
    where
      kept : (ps : List SetEntry) → T (every (λ p. every (at p.id (fit p)) xs) ps) → T (every (λ p. every (at p.id (fit p)) (changed_at id_of o.id (f o) xs)) ps)
      kept [] q = tt
      kept (p ∷ ps) q =
          both (every (at p.id (fit p)) (changed_at id_of o.id (f o) xs)) (every (λ r. every (at r.id (fit r)) (changed_at id_of o.id (f o) xs)) ps)
          (rw (fit_kept fit f h k o p xs) (left (every (at p.id (fit p)) xs) (every (λ r. every (at r.id (fit r)) xs) ps) q))
          (kept ps (right (every (at p.id (fit p)) xs) (every (λ r. every (at r.id (fit r)) xs) ps) q))

-- ---- tables that have the same records are the same
pub same_tables : {s t : Tables} → s.datapoints ≡ t.datapoints → s.items ≡ t.items → s.parameters ≡ t.parameters → s.texts ≡ t.texts → s ≡ t
same_tables d i p x = λ k. record { datapoints = d k; items = i k; parameters = p k; texts = x k }
