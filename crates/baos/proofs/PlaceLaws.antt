-- The place of an ID in a table whose IDs rise, and how `found` and `changed_at` are had from it. One set of laws for items and datapoints.
use mathlib.Core.Path.{◌≡◌, refl, sym, ◌∙◌, ap, subst}
use Prim.Native.Nat.{ℕ, zero, suc, ◌+◌, ◌<◌, ◌≤◌}
use native.Mathlib.Omega.{arith}
use native.Mathlib.Nat.{not-suc-le-zero, le_of_suc-le-suc}
use mathlib.Core.Bool.{Bool, true, false, ◌&&◌}
use mathlib.Core.List.{List, [], ◌∷◌, map}
use lib.ListN.{length, get_or, set, drop}
use lib.Dec.{T, leb, ltb, eqb, ltb→lt, lt→ltb, leb→le, le→leb}
use borrow.Author.Tests.{lt-ltb, le-ltb, ltb-true, ltb-false, ne_eqb}
use Rattle.std.specs.Prelude.{if◌then◌else◌}
use Rattle.words.specs.Words.{every}
use Rattle.words.proofs.WordLaws.{left, right, both, parts3, true_T, same_test}
use Rattle.baos.specs.Table.{rising, table_ok, found, changed_at, place}

ltb_suc : (a b : ℕ) → ltb (suc a) (suc b) ≡ ltb a b
ltb_suc a b = same_test (ltb (suc a) (suc b)) (ltb a b) (λ t. lt→ltb a b (omega (arith, ltb→lt (suc a) (suc b) t))) (λ t. lt→ltb (suc a) (suc b) (omega (arith, ltb→lt a b t)))

neither : {A : Type 0} (b : Bool) (u v : A) → (if b && false then u else v) ≡ v
neither true u v = refl
neither false u v = refl

first_one : {A B : Type 0} (x : A) (xs : List A) (u v : B) → (if ltb 0 (length (x ∷ xs)) && true then u else v) ≡ u
first_one x xs u v = ap (λ (b : Bool). if b && true then u else v) (lt-ltb 0 (length (x ∷ xs)) (omega arith))

module _ {A : Type 0} (id_of : A → ℕ) (blank : A) where
  abbrev pub id_at : List A → ℕ → ℕ
  id_at xs i = id_of (get_or xs i blank)

  -- ---- IDs that rise, place by place
  abbrev pub Rising : List A → Type 0
  Rising xs = (i j : ℕ) → i < j → j < length xs → id_at xs i < id_at xs j

  first_above : (last : ℕ) (x : A) (xs : List A) → T (rising last (map id_of (x ∷ xs))) → last < id_of x
  unfolding rising
  first_above last x xs t = ltb→lt last (id_of x) (left (ltb last (id_of x)) (rising (id_of x) (map id_of xs)) t)

  rest_rises : (last : ℕ) (x : A) (xs : List A) → T (rising last (map id_of (x ∷ xs))) → T (rising (id_of x) (map id_of xs))
  unfolding rising
  rest_rises last x xs t = right (ltb last (id_of x)) (rising (id_of x) (map id_of xs)) t

  pub above : (last : ℕ) (xs : List A) → T (rising last (map id_of xs)) → (j : ℕ) → j < length xs → last < id_at xs j
  above last [] t j l = absurd (not-suc-le-zero l)
  above last (x ∷ xs) t zero l = first_above last x xs t
  above last (x ∷ xs) t (suc j) l = omega (arith, first_above last x xs t, above (id_of x) xs (rest_rises last x xs t) j (le_of_suc-le-suc l))

  pub rises : (last : ℕ) (xs : List A) → T (rising last (map id_of xs)) → Rising xs
  rises last [] t i j u l = absurd (not-suc-le-zero l)
  rises last (x ∷ xs) t i zero u l = absurd (not-suc-le-zero u)
  rises last (x ∷ xs) t zero (suc j) u l = above (id_of x) xs (rest_rises last x xs t) j (le_of_suc-le-suc l)
  rises last (x ∷ xs) t (suc i) (suc j) u l = rises (id_of x) xs (rest_rises last x xs t) i j (le_of_suc-le-suc u) (le_of_suc-le-suc l)

  pub ok_few : (most : ℕ) (ok : A → Bool) (xs : List A) → T (table_ok most id_of ok xs) → length xs ≤ most
  unfolding table_ok
  ok_few most ok xs t = leb→le (length xs) most (parts3 (leb (length xs) most) (rising 0 (map id_of xs)) (every ok xs) t).0

  -- the IDs do not fall
  pub no_less : (xs : List A) → Rising xs → (i j : ℕ) → i ≤ j → j < length xs → id_at xs i ≤ id_at xs j
  no_less xs r i j l u = go (ltb i j) refl
    where
      go : (y : Bool) → ltb i j ≡ y → id_at xs i ≤ id_at xs j
      go true e = omega (arith, r i j (ltb-true i j e) u)
      go false e = subst (λ (m : ℕ). id_at xs i ≤ id_at xs m) (same (ltb-false i j e)) (omega arith)
        where
          same : j ≤ i → i ≡ j
          same m = omega (arith, l, m)

  -- a record whose ID is lower: so are those in front of it
  pub lower : (xs : List A) → Rising xs → (n j : ℕ) → j < length xs → id_at xs j < n → (i : ℕ) → i < j + 1 → id_at xs i < n
  lower xs r n j l u i v = omega (arith, no_less xs r i j (omega (arith, v)) l, u)

  -- one whose ID is not: nor are those behind it
  pub higher : (xs : List A) → Rising xs → (n j : ℕ) → n ≤ id_at xs j → (i : ℕ) → j ≤ i → i < length xs → n ≤ id_at xs i
  higher xs r n j e i l u = omega (arith, e, no_less xs r j i l u)

  -- ---- the place, by what is below it and what is not
  pub place_is : (n : ℕ) (xs : List A) (at : ℕ) → at ≤ length xs → ((i : ℕ) → i < at → id_at xs i < n) → ((i : ℕ) → at ≤ i → i < length xs → n ≤ id_at xs i) → at ≡ place id_of n xs
  unfolding place
  place_is n [] zero l f g = refl
  place_is n [] (suc at) l f g = absurd (not-suc-le-zero l)
  place_is n (x ∷ xs) zero l f g =
      place_is n xs zero (omega arith) (λ i u. absurd (not-suc-le-zero u)) (λ i u v. g (suc i) (omega arith) (omega (arith, v)))
      ∙ ap (λ (t : Bool). if t then suc (place id_of n xs) else place id_of n xs) (sym (le-ltb (id_of x) n (g 0 (omega arith) (omega arith))))
  place_is n (x ∷ xs) (suc at) l f g =
      ap suc (place_is n xs at (le_of_suc-le-suc l) (λ i u. f (suc i) (omega (arith, u))) (λ i u v. g (suc i) (omega (arith, u)) (omega (arith, v))))
      ∙ ap (λ (t : Bool). if t then suc (place id_of n xs) else place id_of n xs) (sym (lt-ltb (id_of x) n (f 0 (omega arith))))

  -- ---- the record at the place of n has the ID n
  abbrev pub stands : ℕ → List A → Bool
  stands n xs = ltb (place id_of n xs) (length xs) && eqb (id_at xs (place id_of n xs)) n

  -- behind a record whose ID is n or more, or one less, none is below n
  pub place_none : (n last : ℕ) (xs : List A) → T (rising last (map id_of xs)) → n ≤ suc last → place id_of n xs ≡ 0
  unfolding place
  place_none n last [] t l = refl
  place_none n last (x ∷ xs) t l =
      ap (λ (y : Bool). if y then suc (place id_of n xs) else place id_of n xs) (le-ltb (id_of x) n (omega (arith, first_above last x xs t, l)))
      ∙ place_none n (id_of x) xs (rest_rises last x xs t) (omega (arith, first_above last x xs t, l))

  -- no more records than there are
  pub place_inside : (n : ℕ) (xs : List A) → place id_of n xs ≤ length xs
  unfolding place
  place_inside n [] = omega arith
  place_inside n (x ∷ xs) = go (ltb (id_of x) n) (place_inside n xs)
    where
      go : (y : Bool) → place id_of n xs ≤ length xs → (if y then suc (place id_of n xs) else place id_of n xs) ≤ suc (length xs)
      go true h = omega (arith, h)
      go false h = omega (arith, h)

  -- ---- the records from the place of n on: each has an ID of n or more and passes its test
  module _ (n : ℕ) (ok : A → Bool) where
    abbrev pub ok_from : A → Bool
    ok_from x = leb n (id_of x) && ok x

    pub from_id : (x : A) → T (ok_from x) → n ≤ id_of x
    from_id x t = leb→le n (id_of x) (left (leb n (id_of x)) (ok x) t)

    pub from_ok : (x : A) → T (ok_from x) → T (ok x)
    from_ok x t = right (leb n (id_of x)) (ok x) t

    all_from : (last : ℕ) (xs : List A) → T (rising last (map id_of xs)) → n ≤ last → T (every ok xs) → T (every ok_from xs)
    all_from last [] t l u = tt
    all_from last (x ∷ xs) t l u =
        let m : n ≤ id_of x = omega (arith, first_above last x xs t, l) in
        both (ok_from x) (every ok_from xs) (both (leb n (id_of x)) (ok x) (le→leb n (id_of x) m) (left (ok x) (every ok xs) u))
        (all_from (id_of x) xs (rest_rises last x xs t) m (right (ok x) (every ok xs) u))

    from_place : (last : ℕ) (xs : List A) → T (rising last (map id_of xs)) → T (every ok xs) → T (every ok_from (drop (place id_of n xs) xs))
    unfolding place
    from_place last [] t u = tt
    from_place last (x ∷ xs) t u = go (ltb (id_of x) n) refl (from_place (id_of x) xs (rest_rises last x xs t) (right (ok x) (every ok xs) u))
      where
        go : (y : Bool) → ltb (id_of x) n ≡ y → T (every ok_from (drop (place id_of n xs) xs)) → T (every ok_from (drop (if y then suc (place id_of n xs) else place id_of n xs) (x ∷ xs)))
        go true e r = r
        go false e r =
            let l : n ≤ id_of x = ltb-false (id_of x) n e in
            subst (λ (k : ℕ). T (every ok_from (drop k (x ∷ xs)))) (sym (place_none n (id_of x) xs (rest_rises last x xs t) (omega (arith, l))))
            (both (ok_from x) (every ok_from xs) (both (leb n (id_of x)) (ok x) (le→leb n (id_of x) l) (left (ok x) (every ok xs) u)) (all_from (id_of x) xs (rest_rises last x xs t) l (right (ok x) (every ok xs) u)))

    pub at_place : (most : ℕ) (xs : List A) (at : ℕ) → table_ok most id_of ok xs ≡ true → at ≡ place id_of n xs → (at ≤ length xs) × T (every ok_from (drop at xs))
    unfolding table_ok
    at_place most xs at t e =
        let p = parts3 (leb (length xs) most) (rising 0 (map id_of xs)) (every ok xs) (true_T t) in
        (subst (λ (k : ℕ). k ≤ length xs) (sym e) (place_inside n xs), subst (λ (k : ℕ). T (every ok_from (drop k xs))) (sym e) (from_place 0 xs p.1 p.2))

  found_none : (n last : ℕ) (xs : List A) → T (rising last (map id_of xs)) → n ≤ last → found id_of n xs ≡ []
  unfolding found
  found_none n last [] t l = refl
  found_none n last (x ∷ xs) t l =
      let k : last < id_of x = first_above last x xs t in
      ap (λ (y : Bool). if y then x ∷ [] else found id_of n xs) (ne_eqb (id_of x) n (λ e. omega (arith, e)))
      ∙ found_none n (id_of x) xs (rest_rises last x xs t) (omega arith)

  changed_none : (n : ℕ) (f : A → A) (last : ℕ) (xs : List A) → T (rising last (map id_of xs)) → n ≤ last → changed_at id_of n f xs ≡ xs
  unfolding changed_at
  changed_none n f last [] t l = refl
  changed_none n f last (x ∷ xs) t l =
      let k : last < id_of x = first_above last x xs t in
      ap (λ (y : Bool). (if y then f x else x) ∷ changed_at id_of n f xs) (ne_eqb (id_of x) n (λ e. omega (arith, e)))
      ∙ ap (λ (ys : List A). x ∷ ys) (changed_none n f (id_of x) xs (rest_rises last x xs t) (omega arith))

  -- `found` is the record at the place alone, if it has the ID
  pub found_at : (n last : ℕ) (xs : List A) → T (rising last (map id_of xs)) → found id_of n xs ≡ (if stands n xs then get_or xs (place id_of n xs) blank ∷ [] else [])
  unfolding found place
  found_at n last [] t = refl
  found_at n last (x ∷ xs) t = go (ltb (id_of x) n) (eqb (id_of x) n) refl refl (found_at n (id_of x) xs (rest_rises last x xs t))
    where
      go : (u v : Bool) → ltb (id_of x) n ≡ u → eqb (id_of x) n ≡ v → found id_of n xs ≡ (if stands n xs then get_or xs (place id_of n xs) blank ∷ [] else [])
          → found id_of n (x ∷ xs) ≡ (if stands n (x ∷ xs) then get_or (x ∷ xs) (place id_of n (x ∷ xs)) blank ∷ [] else [])
      go true v e d r =
          simp (e, ne_eqb (id_of x) n (λ q. omega (arith, q, ltb-true (id_of x) n e)))
          (r ∙ ap (λ (b : Bool). if b && eqb (id_at xs (place id_of n xs)) n then get_or xs (place id_of n xs) blank ∷ [] else []) (sym (ltb_suc (place id_of n xs) (length xs))))
      go false true e d r = simp (e, d, place_none n (id_of x) xs (rest_rises last x xs t) (omega (arith, ltb-false (id_of x) n e))) (sym (first_one x xs (x ∷ []) []))
      go false false e d r =
          simp (e, d, place_none n (id_of x) xs (rest_rises last x xs t) (omega (arith, ltb-false (id_of x) n e)))
          (found_none n (id_of x) xs (rest_rises last x xs t) (ltb-false (id_of x) n e) ∙ sym (neither (ltb 0 (length (x ∷ xs))) (x ∷ []) []))

  -- `changed_at` is `set` at the place, if the record there has the ID
  pub changed_at_lem : (n : ℕ) (f : A → A) (last : ℕ) (xs : List A) → T (rising last (map id_of xs))
      → changed_at id_of n f xs ≡ (if stands n xs then set xs (place id_of n xs) (f (get_or xs (place id_of n xs) blank)) else xs)
  unfolding changed_at place
  changed_at_lem n f last [] t = refl
  changed_at_lem n f last (x ∷ xs) t = go (ltb (id_of x) n) (eqb (id_of x) n) refl refl (changed_at_lem n f (id_of x) xs (rest_rises last x xs t))
    where
      inside : (u : Bool) (p : ℕ) (y : A) → (if u then set (x ∷ xs) (suc p) y else x ∷ xs) ≡ x ∷ (if u then set xs p y else xs)
      inside true p y = refl
      inside false p y = refl

      go : (u v : Bool) → ltb (id_of x) n ≡ u → eqb (id_of x) n ≡ v → changed_at id_of n f xs ≡ (if stands n xs then set xs (place id_of n xs) (f (get_or xs (place id_of n xs) blank)) else xs)
          → changed_at id_of n f (x ∷ xs) ≡ (if stands n (x ∷ xs) then set (x ∷ xs) (place id_of n (x ∷ xs)) (f (get_or (x ∷ xs) (place id_of n (x ∷ xs)) blank)) else x ∷ xs)
      go true v e d r =
          simp (e, ne_eqb (id_of x) n (λ q. omega (arith, q, ltb-true (id_of x) n e)))
          (ap (λ (ys : List A). x ∷ ys) r ∙ sym (inside (stands n xs) (place id_of n xs) (f (get_or xs (place id_of n xs) blank)))
          ∙ ap (λ (b : Bool). if b && eqb (id_at xs (place id_of n xs)) n then set (x ∷ xs) (suc (place id_of n xs)) (f (get_or xs (place id_of n xs) blank)) else x ∷ xs) (sym (ltb_suc (place id_of n xs) (length xs))))
      go false true e d r =
          simp (e, d, place_none n (id_of x) xs (rest_rises last x xs t) (omega (arith, ltb-false (id_of x) n e)))
          (ap (λ (ys : List A). f x ∷ ys) (changed_none n f (id_of x) xs (rest_rises last x xs t) (omega (arith, ltb-false (id_of x) n e))) ∙ sym (first_one x xs (f x ∷ xs) (x ∷ xs)))
      go false false e d r =
          simp (e, d, place_none n (id_of x) xs (rest_rises last x xs t) (omega (arith, ltb-false (id_of x) n e)))
          (ap (λ (ys : List A). x ∷ ys) (changed_none n f (id_of x) xs (rest_rises last x xs t) (omega (arith, ltb-false (id_of x) n e))) ∙ sym (neither (ltb 0 (length (x ∷ xs))) (f x ∷ xs) (x ∷ xs)))
