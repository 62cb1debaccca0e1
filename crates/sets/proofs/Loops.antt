-- The loops over the entries of a set: what each keeps, turn by turn, for datapoints and items alike.
use Rattle.std.proofs.Common.{if◌then◌else◌, ℕ, suc, ◌+◌, ◌-◌, ◌≡◌, ◌≤◌, ◌<◌, Bool, true, false, List, [], ◌∷◌, length, get_or, drop, map, ltb, eqb, refl, sym, ◌∙◌, ap, subst, arith, add-one, length-set, ◌≢◌, below_more, set, get_or-set_other, get_or-set_same, eq-eqb, Result, Ok, Err}
use Rattle.std.specs.Prelude.{⊤, MatchResult}
use borrow.Author.Tests.{ne_eqb}
use Rattle.std.proofs.lemmas.List.{length-map}
use lib.Seq.{drop-drop}
use Rattle.baos.specs.declared.code.Code.{Code}
use Rattle.baos.specs.declared.code.Code.TheVariants.{NoElementFound, BufferTooSmall, ItemNotWritable}
use Rattle.baos.specs.declared.code.Code.TheVariants.{ServiceNotSupported, BadServiceParameter, BadId}
use Rattle.baos.specs.declared.code.Code.TheVariants.{BadCommandOrValue, BadLength, MessageInconsistent}
use Rattle.words.specs.Words.{put}
use Rattle.baos.specs.declared.inner.Fault.{Fault}
use Rattle.baos.specs.Inner.Promise.{Answered, Written}
use Rattle.baos.specs.Message.{Finding, fine, bad, code_number, start_of, number_of, coded, finding_of, answer_of, after_of, served}
use Rattle.baos.specs.Table.{Tables, place, rising, found, changed_at}
use Rattle.baos.specs.Set.{SetEntry, span, fills, set_entries, first_bad, set_finding, applied, all_short}
use Rattle.baos.proofs.SetLaws.{filled_end, short_head, short_value, entry_fits, span_at_lem}
use Rattle.baos.proofs.LeftLaws.{fills-next, short_next, applied-next, applied_all, ids_stay}
use Rattle.baos.proofs.EntriesLaws.{found_here, found_nowhere}
use Rattle.baos.proofs.ApplyLaws.{changed_there, unchanged_there}
use Rattle.sets.specs.Settable.{begins, Placed}

-- ---- the entries walked over: entry k begins at byte `at`, and the rest fill what is left
pub record Walking (h : ℕ) (m : List ℕ) (n k at : ℕ) : Type 0 where
  pub begun : at ≡ begins h m k
  pub filled : fills h (n - k) (drop at m) ≡ true

pub walking_begins : (h : ℕ) (m : List ℕ) (n : ℕ) → fills h n (drop 6 m) ≡ true → Walking h m n 0 6
unfolding begins
walking_begins h m n f = record { begun = refl; filled = ap (λ (j : ℕ). fills h j (drop 6 m)) {x = n - 0} {y = n} (omega arith) ∙ f }

next_begins : (h : ℕ) (m : List ℕ) (k at : ℕ) → at ≡ begins h m k → at + span h (drop at m) ≡ begins h m (k + 1)
unfolding begins
next_begins h m k at e = ap (λ (a : ℕ). a + span h (drop a m)) e ∙ ap (begins h m) (sym (add-one k))

module _ {h : ℕ} (head : 3 ≤ h) {m : List ℕ} {n k at : ℕ} (w : Walking h m n k at) (l : k < n) where
  pub walking_inside : at + span h (drop at m) ≤ length m
  walking_inside = (fills-next h at (n - k) m (omega arith) (omega arith) w.filled).0

  pub walking_next : Walking h m n (k + 1) (at + span h (drop at m))
  walking_next =
      record {
        begun = next_begins h m k at w.begun;
        filled = ap (λ (j : ℕ). fills h j (drop (at + span h (drop at m)) m)) {x = n - (k + 1)} {y = n - k - 1} (omega arith)
            ∙ (fills-next h at (n - k) m (omega arith) (omega arith) w.filled).1;
      }

-- ---- places: of fewer entries, in a table with the same IDs, and of one entry more
module _ {A : Type 0} (id_of : A → ℕ) where
  place_by_ids : (n : ℕ) (xs : List A) → place id_of n xs ≡ place (λ (i : ℕ). i) n (map id_of xs)
  unfolding place
  place_by_ids n [] = refl
  place_by_ids n (x ∷ xs) = ap (λ (p : ℕ). if ltb (id_of x) n then suc p else p) (place_by_ids n xs)

  pub place_within : (n : ℕ) (xs : List A) → place id_of n xs ≤ length xs
  unfolding place
  place_within n [] = omega arith
  place_within n (x ∷ xs) = go (ltb (id_of x) n) (place_within n xs)
    where
      go : (y : Bool) → place id_of n xs ≤ length xs → (if y then suc (place id_of n xs) else place id_of n xs) ≤ suc (length xs)
      go true l = omega arith
      go false l = omega arith

module _ {A : Type 0} {id_of : A → ℕ} {first : List ℕ → SetEntry} {h : ℕ} {m : List ℕ} where
  pub placed_upto : {xs : List A} {n j : ℕ} {places : List ℕ} → Placed id_of first h m xs n places → j ≤ n → Placed id_of first h m xs j places
  placed_upto p l = record { belongs = λ k a b. p.belongs k (omega (arith, a, l)) b }

  pub placed_same : {xs ys : List A} {n : ℕ} {places : List ℕ} → Placed id_of first h m xs n places → map id_of ys ≡ map id_of xs → Placed id_of first h m ys n places
  placed_same {xs = xs} {ys = ys} p e =
      record {
        belongs = λ k a b.
            let i : ℕ = (first (drop (begins h m k) m)).id in
            p.belongs k a b ∙ place_by_ids id_of i xs ∙ ap (place (λ (i : ℕ). i) i) (sym e) ∙ sym (place_by_ids id_of i ys);
      }

  module _ {xs : List A} {k : ℕ} {places : List ℕ} (p : Placed id_of first h m xs k places) where
    pub placed_full : length places ≤ k → Placed id_of first h m xs (k + 1) places
    placed_full l = record { belongs = λ j a b. p.belongs j (omega (arith, a, b, l)) b }

    pub placed_next : (v : ℕ) → k < length places → v ≡ place id_of (first (drop (begins h m k) m)).id xs → Placed id_of first h m xs (k + 1) (set places k v)
    placed_next v l e =
        record {
          belongs = below_more (λ (j : ℕ). j < length (set places k v) → get_or (set places k v) j 0 ≡ place id_of (first (drop (begins h m j) m)).id xs) k
              (λ j a b.
              let ne : j ≢ k = λ z. omega (arith, z, a) in
              rw get_or-set_other (p.belongs j a (omega (arith, b, length-set places k v))))
              (λ b. rw get_or-set_same e);
        }

-- ---- the entries found: k are, and what is left decides whether they fill the message
pub record Seeking {A : Type 0} (id_of : A → ℕ) (first : List ℕ → SetEntry) (h : ℕ) (m : List ℕ) (xs : List A) (n k at : ℕ) (places : List ℕ) : Type 0 where
  pub begun : at ≡ begins h m k
  pub inside : at ≤ length m
  pub filled : fills h (n - k) (drop at m) ≡ fills h n (drop 6 m)
  pub placed : Placed id_of first h m xs k places

module _ {A : Type 0} (id_of : A → ℕ) (first : List ℕ → SetEntry) (h : ℕ) (m : List ℕ) (xs : List A) (n : ℕ) where
  pub seeking_begins : 6 ≤ length m → (places : List ℕ) → Seeking id_of first h m xs n 0 6 places
  unfolding begins
  seeking_begins l places =
      record {
        begun = refl;
        inside = l;
        filled = ap (λ (j : ℕ). fills h j (drop 6 m)) {x = n - 0} {y = n} (omega arith);
        placed = record { belongs = λ k a b. absurd (omega (arith, a)) };
      }

module _ {A : Type 0} {id_of : A → ℕ} {first : List ℕ → SetEntry} {h : ℕ} {m : List ℕ} {xs : List A} {n k at : ℕ} {places : List ℕ} (s : Seeking id_of first h m xs n k at places) where
  pub seeking_ends : n ≤ k → eqb at (length m) ≡ fills h n (drop 6 m)
  seeking_ends l = sym (filled_end h 0 at m s.inside) ∙ ap (λ (j : ℕ). fills h j (drop at m)) {x = 0} {y = n - k} (omega arith) ∙ s.filled

  seeking_short_head : k < n → length m - at < h → false ≡ fills h n (drop 6 m)
  seeking_short_head l t = sym (short_head h (n - k) at m (omega arith) t) ∙ s.filled

  seeking_short_value : k < n → 1 ≤ h → h ≤ length m - at → length m - at < h + get_or m (at + h - 1) 0 → false ≡ fills h n (drop 6 m)
  seeking_short_value l p a t = sym (short_value h (n - k) at m (omega arith) p a t) ∙ s.filled

  seeking_fits : k < n → 1 ≤ h → h + get_or m (at + h - 1) 0 ≤ length m - at → (later : List ℕ) → Placed id_of first h m xs (k + 1) later
      → Seeking id_of first h m xs n (k + 1) (at + (h + get_or m (at + h - 1) 0)) later
  seeking_fits l p t later q =
      record {
        begun = ap (λ (b : ℕ). at + b) (sym (span_at_lem h (n - k) at m p)) ∙ next_begins h m k at s.begun;
        inside = omega (arith, s.inside, t);
        filled = ap (λ (j : ℕ). fills h j (drop (at + (h + get_or m (at + h - 1) 0)) m)) {x = n - (k + 1)} {y = n - k - 1} (omega arith)
            ∙ sym (entry_fits h (n - k) at m (omega arith) p t) ∙ s.filled;
        placed = q;
      }

  -- by the head as it was read
  module _ (head : 3 ≤ h) (l : k < n) {i : ℕ} (e : i ≡ h) where
    pub seeking_no_head : length m - at < i → false ≡ fills h n (drop 6 m)
    seeking_no_head t = seeking_short_head l (omega (arith, e, t))

    pub seeking_no_value : i ≤ length m - at → length m - at < i + get_or m (at + i - 1) 0 → false ≡ fills h n (drop 6 m)
    seeking_no_value a t = seeking_short_value l (omega arith) (omega (arith, e, a)) (subst (λ (j : ℕ). length m - at < j + get_or m (at + j - 1) 0) e t)

    pub seeking_next : i + get_or m (at + i - 1) 0 ≤ length m - at → (later : List ℕ) → Placed id_of first h m xs (k + 1) later
        → Seeking id_of first h m xs n (k + 1) (at + (i + get_or m (at + i - 1) 0)) later
    seeking_next t later q =
        subst (λ (j : ℕ). Seeking id_of first h m xs n (k + 1) (at + (j + get_or m (at + j - 1) 0)) later) (sym e)
        (seeking_fits l (omega arith) (subst (λ (j : ℕ). j + get_or m (at + j - 1) 0 ≤ length m - at) e t) later q)

-- ---- one entry by the record x at place p, where its ID belongs; where no record is, none has it
module _ {A : Type 0} (id_of : A → ℕ) (e : SetEntry) where
  module _ (xs : List A) (t : rising 0 (map id_of xs) ≡ true) (p : ℕ) (q : p ≡ place id_of e.id xs) (x : A) (is : x ≡ get_or xs p x) (l : p < length xs) where
    pub judged_there : (judged : List A → SetEntry → ℕ) → judged (found id_of e.id (x ∷ [])) e ≡ judged (found id_of e.id xs) e
    judged_there judged =
        ap (λ (ys : List A). judged ys e)
        (ap (λ (y : A). found id_of e.id (y ∷ [])) (is ∙ ap (λ (i : ℕ). get_or xs i x) q) ∙ sym (found_here id_of x e.id xs t (omega (arith, q, l))))

    pub applied_there : (f : SetEntry → A → A) → set xs p (if eqb (id_of x) e.id then f e x else x) ≡ changed_at id_of e.id (f e) xs
    applied_there f =
        ap (λ (y : A). set xs p (if eqb (id_of y) e.id then f e y else y)) is ∙ changed_there id_of x e.id xs t (f e) p q l

  pub judged_nowhere : (xs : List A) → rising 0 (map id_of xs) ≡ true → (p : ℕ) → p ≡ place id_of e.id xs → length xs ≤ p
      → (judged : List A → SetEntry → ℕ) → judged [] e ≡ judged (found id_of e.id xs) e
  unfolding found
  judged_nowhere [] t p q l judged = refl
  judged_nowhere (x ∷ xs) t p q l judged = ap (λ (ys : List A). judged ys e) (sym (found_nowhere id_of x e.id (x ∷ xs) t (omega (arith, q, l))))

  pub applied_nowhere : (xs : List A) → rising 0 (map id_of xs) ≡ true → (p : ℕ) → p ≡ place id_of e.id xs → length xs ≤ p
      → (f : SetEntry → A → A) → xs ≡ changed_at id_of e.id (f e) xs
  unfolding changed_at
  applied_nowhere [] t p q l f = refl
  applied_nowhere (x ∷ xs) t p q l f = unchanged_there id_of x e.id (x ∷ xs) t (f e) p q l

-- ---- one entry judged, and those behind it
module _ (judge : SetEntry → ℕ) (e : SetEntry) where
  code_some : (c : Code) → eqb (code_number c) 0 ≡ false
  unfolding code_number
  code_some c = elim c as (λ k. eqb (code_number k) 0 ≡ false) [
    | NoElementFound ↦ refl
    | BufferTooSmall ↦ refl
    | ItemNotWritable ↦ refl
    | ServiceNotSupported ↦ refl
    | BadServiceParameter ↦ refl
    | BadId ↦ refl
    | BadCommandOrValue ↦ refl
    | BadLength ↦ refl
    | MessageInconsistent ↦ refl
  ]

  first_stops : (c : Code) (es : List SetEntry) → code_number c ≡ judge e → first_bad judge (e ∷ es) ≡ bad e.id (code_number c)
  unfolding first_bad
  first_stops c es q =
      ap (λ (b : Bool). if b then first_bad judge es else bad e.id (judge e)) (ap (λ (j : ℕ). eqb j 0) (sym q) ∙ code_some c)
      ∙ ap (bad e.id) (sym q)

  first_passes : (es : List SetEntry) → judge e ≡ 0 → first_bad judge (e ∷ es) ≡ first_bad judge es
  unfolding first_bad
  first_passes es q = ap (λ (b : Bool). if b then first_bad judge es else bad e.id (judge e)) (eq-eqb (judge e) 0 q)

pub record Judging (judge : SetEntry → ℕ) (first : List ℕ → SetEntry) (h : ℕ) (m : List ℕ) (n k at : ℕ) : Type 0 where
  pub walking : Walking h m n k at
  pub left : first_bad judge (set_entries first h (n - k) (drop at m)) ≡ first_bad judge (set_entries first h n (drop 6 m))

module _ (judge : SetEntry → ℕ) (first : List ℕ → SetEntry) (h : ℕ) (m : List ℕ) (n : ℕ) where
  pub judging_begins : fills h n (drop 6 m) ≡ true → Judging judge first h m n 0 6
  judging_begins f =
      record { walking = walking_begins h m n f; left = ap (λ (j : ℕ). first_bad judge (set_entries first h j (drop 6 m))) {x = n - 0} {y = n} (omega arith) }

module _ {judge : SetEntry → ℕ} {first : List ℕ → SetEntry} {h : ℕ} {m : List ℕ} {n k at : ℕ} (j : Judging judge first h m n k at) where
  pub judging_done : n ≤ k → first_bad judge (set_entries first h n (drop 6 m)) ≡ fine
  unfolding set_entries first_bad
  judging_done l = sym j.left ∙ ap (λ (i : ℕ). first_bad judge (set_entries first h i (drop at m))) {x = n - k} {y = 0} (omega arith)

  module _ (head : 3 ≤ h) (l : k < n) where
    entries_next : set_entries first h (n - k) (drop at m) ≡ first (drop at m) ∷ set_entries first h (n - (k + 1)) (drop (at + span h (drop at m)) m)
    unfolding set_entries
    entries_next =
        ap (λ (i : ℕ). set_entries first h i (drop at m)) {x = n - k} {y = suc (n - (k + 1))} (omega arith)
        ∙ ap (λ (r : List ℕ). first (drop at m) ∷ set_entries first h (n - (k + 1)) r) (drop-drop (span h (drop at m)) at m)

    pub judging_stops : (c : Code) → code_number c ≡ judge (first (drop at m)) → bad (first (drop at m)).id (code_number c) ≡ first_bad judge (set_entries first h n (drop 6 m))
    judging_stops c q = sym (first_stops judge (first (drop at m)) c _ q) ∙ sym (ap (first_bad judge) entries_next) ∙ j.left

    pub judging_next : 0 ≡ judge (first (drop at m)) → Judging judge first h m n (k + 1) (at + span h (drop at m))
    judging_next q =
        record {
          walking = walking_next head j.walking l;
          left = sym (first_passes judge (first (drop at m)) _ (sym q)) ∙ sym (ap (first_bad judge) entries_next) ∙ j.left;
        }

-- ---- records applied: what is left, applied to the table as it is now, leaves `last`, and the IDs stay
pub record Applying {A : Type 0} (id_of : A → ℕ) (f : SetEntry → A → A) (first : List ℕ → SetEntry) (h room : ℕ) (m : List ℕ) (xs last : List A) (n k at : ℕ) (ys : List A) : Type 0 where
  pub walking : Walking h m n k at
  pub short : all_short room (set_entries first h (n - k) (drop at m)) ≡ true
  pub same : map id_of ys ≡ map id_of xs
  pub ends : applied id_of f (set_entries first h (n - k) (drop at m)) ys ≡ last

module _ {A : Type 0} (id_of : A → ℕ) (f : SetEntry → A → A) (first : List ℕ → SetEntry) (h room : ℕ) (m : List ℕ) (xs : List A) (n : ℕ) where
  pub applying_begins : fills h n (drop 6 m) ≡ true → all_short room (set_entries first h n (drop 6 m)) ≡ true
      → Applying id_of f first h room m xs (applied id_of f (set_entries first h n (drop 6 m)) xs) n 0 6 xs
  applying_begins z s =
      let e : n - 0 ≡ n = omega arith in
      record {
        walking = walking_begins h m n z;
        short = ap (λ (j : ℕ). all_short room (set_entries first h j (drop 6 m))) e ∙ s;
        same = refl;
        ends = ap (λ (j : ℕ). applied id_of f (set_entries first h j (drop 6 m)) xs) e;
      }

module _ {A : Type 0} {id_of : A → ℕ} {f : SetEntry → A → A} {first : List ℕ → SetEntry} {h room : ℕ} {m : List ℕ} {xs last : List A} {n k at : ℕ} {ys : List A} (p : Applying id_of f first h room m xs last n k at ys) where
  pub applying_done : n ≤ k → ys ≡ last
  applying_done l = sym (applied_all first h (n - k) (drop at m) (omega arith) id_of f ys) ∙ p.ends

  pub applying_few : (most : ℕ) → length xs ≤ most → length ys ≤ most
  applying_few most l = omega (arith, l, sym (length-map ys id_of) ∙ ap length p.same ∙ length-map xs id_of)

  pub applying_rises : rising 0 (map id_of xs) ≡ true → rising 0 (map id_of ys) ≡ true
  applying_rises r = ap (rising 0) p.same ∙ r

  module _ (l : k < n) where
    pub applying_short : length (first (drop at m)).value ≤ room
    applying_short = (short_next h at (n - k) m (omega arith) first room p.short).0

    pub applying_next : ((e : SetEntry) (x : A) → id_of (f e x) ≡ id_of x) → 3 ≤ h → (zs : List A) → zs ≡ changed_at id_of (first (drop at m)).id (f (first (drop at m))) ys
        → Applying id_of f first h room m xs last n (k + 1) (at + span h (drop at m)) zs
    applying_next keeps head zs e =
        let less : n - (k + 1) ≡ n - k - 1 = omega arith in
        let rest : List ℕ = drop (at + span h (drop at m)) m in
        record {
          walking = walking_next head p.walking l;
          short = ap (λ (j : ℕ). all_short room (set_entries first h j rest)) less ∙ (short_next h at (n - k) m (omega arith) first room p.short).1;
          same = ap (map id_of) e ∙ ids_stay id_of (first (drop at m)).id (f (first (drop at m))) (keeps (first (drop at m))) ys ∙ p.same;
          ends = ap (λ (j : ℕ). applied id_of f (set_entries first h j rest) zs) less ∙ ap (applied id_of f (set_entries first h (n - k - 1) rest)) e
              ∙ sym (applied-next h at (n - k) m (omega arith) first id_of f ys) ∙ p.ends;
        }

-- ---- a request judged: rows 10 and 6, then its entries
module _ (judge : SetEntry → ℕ) (first : List ℕ → SetEntry) (h : ℕ) (m : List ℕ) {n : ℕ} (e : n ≡ number_of m) where
  pub unfilled : fills h n (drop 6 m) ≡ false → bad (start_of m) 10 ≡ set_finding h first judge m
  unfolding set_finding
  unfilled f = sym (simp (ap (λ (j : ℕ). fills h j (drop 6 m)) (sym e) ∙ f))

  module _ (f : fills h n (drop 6 m) ≡ true) where
    pub no_entry : n ≡ 0 → bad (start_of m) 6 ≡ set_finding h first judge m
    unfolding set_finding
    no_entry z = sym (simp (ap (λ (j : ℕ). fills h j (drop 6 m)) (sym e) ∙ f, eq-eqb (number_of m) 0 (sym e ∙ z)))

    pub by_entries : (n ≡ 0 → ⊥) → first_bad judge (set_entries first h n (drop 6 m)) ≡ set_finding h first judge m
    unfolding set_finding
    by_entries z =
        ap (λ (j : ℕ). first_bad judge (set_entries first h j (drop 6 m))) e
        ∙ sym (simp (ap (λ (j : ℕ). fills h j (drop 6 m)) (sym e) ∙ f, ne_eqb (number_of m) 0 (λ y. z (e ∙ y))))

-- ---- what is said and left of a set, by what was found
module _ {A : Type 0} (part : Tables → List A) (m : List ℕ) (t t' : Tables) (r : Result ⊤ Fault) (f : Finding) (q : finding_of r ≡ f) where
  abbrev done : List ℕ
  done = coded m (start_of m) 0

  left : (ys : List A) → MatchResult r (λ _. ys ≡ part t') (λ _. ys ≡ part t) → ys ≡ part (after_of f t t')
  unfolding finding_of after_of
  left ys b = go r q b
    where
      go : (o : Result ⊤ Fault) → finding_of o ≡ f → MatchResult o (λ _. ys ≡ part t') (λ _. ys ≡ part t) → ys ≡ part (after_of f t t')
      go (Ok x) p b = b ∙ ap (λ (g : Finding). part (after_of g t t')) p
      go (Err x) p b = b ∙ ap (λ (g : Finding). part (after_of g t t')) p

  pub answered : (out : List ℕ) (at : ℕ) (ys : List A) (n : ℕ) (o : List ℕ) → MatchResult r (λ _. ys ≡ part t') (λ _. ys ≡ part t) → Written out at (answer_of (finding_of r) m done) n o
      → Answered (part (served f m done t t').after) out at (served f m done t t').says n o ys
  unfolding served
  answered out at ys n o b w =
      record {
        table = left ys b;
        buffer = w.buffer ∙ ap (λ (g : Finding). put out at (answer_of g m done)) q;
        ends = w.ends ∙ ap (λ (g : Finding). at + length (answer_of g m done)) q;
      }
