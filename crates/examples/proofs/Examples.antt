-- The examples of document 01 that are marked P, and two for item 1 of document 02, proved together: one statement over the list.
use mathlib.Core.Path.{◌≡◌, refl, sym, subst}
use mathlib.Core.List.Memᴰ
use mathlib.Core.List.{List, [], ◌∷◌, map, Memᴰ}
use mathlib.Core.Logic.{◌⊎◌, inl, inr}
use Rattle.examples.specs.Example.{Case, Example, computed, last_id_only, empty_tables, Holds, cases, examples, run_of, stated}
use Rattle.examples.proofs.ComputedExamples.{computed_hold}
use Rattle.examples.proofs.GeneralExamples.{last_id_holds, empty_table}

of_case_lem : (x : Example) (cs : List Case) → ((c : Case) → Memᴰ c cs → run_of c ≡ stated c) → Memᴰ x (map computed cs) → Holds x
of_case_lem x [] h m = absurd (Memᴰ.not-nil m)
of_case_lem x (c ∷ cs) h m = go (Memᴰ.cases_cons m) (of_case_lem x cs (λ d n. h d (Memᴰ.tail n)))
  where
    go : (x ≡ computed c) ⊎ Memᴰ x (map computed cs) → (Memᴰ x (map computed cs) → Holds x) → Holds x
    go (inl e) r = subst Holds (sym e) (h c (Memᴰ.head refl))
    go (inr n) r = r n

pub examples_hold : (x : Example) → Memᴰ x examples → Holds x
unfolding examples
examples_hold x m = go (Memᴰ.append_cases (map computed cases) m)
  where
    go : Memᴰ x (map computed cases) ⊎ Memᴰ x (last_id_only ∷ empty_tables ∷ []) → Holds x
    go (inl c) = of_case_lem x cases computed_hold c
    go (inr c) = rest (Memᴰ.cases_cons c)
      where
        last : (x ≡ empty_tables) ⊎ Memᴰ x [] → Holds x
        last (inl e) = subst Holds (sym e) empty_table
        last (inr n) = absurd (Memᴰ.not-nil n)

        rest : (x ≡ last_id_only) ⊎ Memᴰ x (empty_tables ∷ []) → Holds x
        rest (inl e) = subst Holds (sym e) last_id_holds
        rest (inr n) = last (Memᴰ.cases_cons n)
