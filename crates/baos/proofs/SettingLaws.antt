-- What a set answers and leaves, by the verdict before its entries are judged and the verdict of the entries: one law for datapoints and items.
use Prim.Native.Nat.{ℕ, ◌≤◌}
use mathlib.Core.Path.{◌≡◌, refl, sym, ◌∙◌, ap, subst}
use mathlib.Core.Logic.{◌≢◌}
use mathlib.Core.Bool.{Bool, true, false}
use mathlib.Core.List.{List}
use native.Mathlib.Omega.{arith}
use native.Mathlib.Decide.{ℕ_discrete}
use lib.ListN.{drop}
use lib.Dec.{eqb}
use borrow.Author.Tests.{ne_eqb, eqb-false}
use Rattle.baos.specs.Table.{Tables}
use Rattle.baos.specs.Message.{start_of, number_of, coded, Finding, fine, bad, verdict_of, Served, answer_of, after_of, served}
use Rattle.baos.specs.Set.{SetEntry, fills, set_entries, first_bad, set_finding, setting, filled_finding}
use Rattle.baos.proofs.GetLaws.{verdict_bad}
use Rattle.baos.proofs.LeftLaws.{fine_code}

-- ---- rows 10 and 6
module _ (h : ℕ) (m : List ℕ) where
  pub not_filled : fills h (number_of m) (drop 6 m) ≡ false → filled_finding h m ≡ bad (start_of m) 10
  unfolding filled_finding
  not_filled f = simp f

  pub no_entry : fills h (number_of m) (drop 6 m) ≡ true → eqb (number_of m) 0 ≡ true → filled_finding h m ≡ bad (start_of m) 6
  unfolding filled_finding
  no_entry f e = simp (f, e)

  pub well_filled : fills h (number_of m) (drop 6 m) ≡ true → eqb (number_of m) 0 ≡ false → filled_finding h m ≡ fine
  unfolding filled_finding
  well_filled f e = simp (f, e)

module _ (h : ℕ) (first : List ℕ → SetEntry) (judge : SetEntry → ℕ) (done : List SetEntry → Tables) (t : Tables) (m : List ℕ) where
  abbrev earlier : Finding
  earlier = filled_finding h m

  abbrev entries : List SetEntry
  entries = set_entries first h (number_of m) (drop 6 m)

  abbrev later : Finding
  later = first_bad judge entries

  unfoldable afterwards : Finding → Finding
  afterwards (bad i c) = bad i c
  afterwards fine = later

  filled_first : set_finding h first judge m ≡ afterwards earlier
  unfolding set_finding filled_finding afterwards
  filled_first = go (fills h (number_of m) (drop 6 m)) (eqb (number_of m) 0) refl refl
    where
      go : (a b : Bool) → fills h (number_of m) (drop 6 m) ≡ a → eqb (number_of m) 0 ≡ b → set_finding h first judge m ≡ afterwards earlier
      go false b e f = simp e
      go true true e f = simp (e, f)
      go true false e f = simp (e, f)

  earlier_fine : (verdict_of earlier).code ≡ 0 → earlier ≡ fine
  unfolding filled_finding verdict_of
  earlier_fine = go (fills h (number_of m) (drop 6 m)) (eqb (number_of m) 0) refl refl
    where
      go : (a b : Bool) → fills h (number_of m) (drop 6 m) ≡ a → eqb (number_of m) 0 ≡ b → (verdict_of earlier).code ≡ 0 → earlier ≡ fine
      go false b e f z = absurd (omega (arith, simp e at z))
      go true true e f z = absurd (omega (arith, simp (e, f) at z))
      go true false e f z = simp (e, f)

  pub earlier_filled : (verdict_of earlier).code ≡ 0 → fills h (number_of m) (drop 6 m) ≡ true
  unfolding filled_finding verdict_of
  earlier_filled = go (fills h (number_of m) (drop 6 m)) refl
    where
      go : (a : Bool) → fills h (number_of m) (drop 6 m) ≡ a → (verdict_of earlier).code ≡ 0 → fills h (number_of m) (drop 6 m) ≡ true
      go false e z = absurd (omega (arith, simp e at z))
      go true e z = e

  answer : Finding → Served
  answer f = served f m (coded m (start_of m) 0) t (done entries)

  pub set-refused : ((verdict_of earlier).code ≡ 0 → ⊥) → setting h first judge done t m ≡ record { says = coded m (verdict_of earlier).id (verdict_of earlier).code; after = t }
  unfolding setting served answer_of after_of afterwards answer
  set-refused n = ap answer (filled_first ∙ ap afterwards (verdict_bad earlier n))

  -- the same, where the finding is known
  pub set-refused_by : (i c : ℕ) → earlier ≡ bad i c → setting h first judge done t m ≡ record { says = coded m i c; after = t }
  unfolding setting served answer_of after_of afterwards answer
  set-refused_by i c e = ap answer (filled_first ∙ ap afterwards e)

  pub set_bad : (verdict_of earlier).code ≡ 0 → ((verdict_of later).code ≡ 0 → ⊥)
      → setting h first judge done t m ≡ record { says = coded m (verdict_of later).id (verdict_of later).code; after = t }
  unfolding setting served answer_of after_of afterwards answer
  set_bad z n = ap answer (filled_first ∙ ap afterwards (earlier_fine z) ∙ verdict_bad later n)

  pub set_done : (verdict_of earlier).code ≡ 0 → (verdict_of later).code ≡ 0 → setting h first judge done t m ≡ record { says = coded m (start_of m) 0; after = done entries }
  unfolding setting served answer_of after_of afterwards answer
  set_done z n = ap answer (filled_first ∙ ap afterwards (earlier_fine z) ∙ fine_code judge entries n)

  -- what holds of every error answer, and of the positive one where no entry is bad, holds of the set
  pub by_setting : (P : Served → Type 0) → ((i c : ℕ) → c ≢ 0 → P (record { says = coded m i c; after = t }))
      → (first_bad judge entries ≡ fine → P (record { says = coded m (start_of m) 0; after = done entries })) → P (setting h first judge done t m)
  by_setting P error positive = go (ℕ_discrete (verdict_of earlier).code 0) (ℕ_discrete (verdict_of later).code 0)
    where
      go : Dec ((verdict_of earlier).code ≡ 0) → Dec ((verdict_of later).code ≡ 0) → P (setting h first judge done t m)
      go (no n) x = subst P (sym (set-refused n)) (error (verdict_of earlier).id (verdict_of earlier).code n)
      go (yes z) (no n) = subst P (sym (set_bad z n)) (error (verdict_of later).id (verdict_of later).code n)
      go (yes z) (yes y) = subst P (sym (set_done z y)) (positive (fine_code judge entries y))

-- ---- rows 10 and 6 passed and no entry bad: exactly then nothing is found
module _ (h : ℕ) (first : List ℕ → SetEntry) (judge : SetEntry → ℕ) (m : List ℕ) where
  pub record Passes : Type 0 where
    pub filled : fills h (number_of m) (drop 6 m) ≡ true
    pub some : 1 ≤ number_of m
    pub judged : first_bad judge (set_entries first h (number_of m) (drop 6 m)) ≡ fine

  pub passes_fine : Passes → set_finding h first judge m ≡ fine
  unfolding set_finding
  passes_fine p = simp (p.filled, ne_eqb (number_of m) 0 (λ z. omega (arith, z, p.some))) p.judged

  pub code_passes : (verdict_of (set_finding h first judge m)).code ≡ 0 → Passes
  unfolding set_finding verdict_of
  code_passes z = go (fills h (number_of m) (drop 6 m)) (eqb (number_of m) 0) refl refl
    where
      go : (a b : Bool) → fills h (number_of m) (drop 6 m) ≡ a → eqb (number_of m) 0 ≡ b → Passes
      go false b e f = absurd (omega (arith, simp e at z))
      go true true e f = absurd (omega (arith, simp (e, f) at z))
      go true false e f =
          record { filled = e; some = omega (arith, eqb-false (number_of m) 0 f); judged = fine_code judge (set_entries first h (number_of m) (drop 6 m)) (simp (e, f) at z) }
