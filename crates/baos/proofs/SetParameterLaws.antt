-- The parameter bytes that a request sets: which indices are not in the table, what the checks let through, what is answered and left; and that no other service writes one.
use Prim.Native.Nat.{ℕ, zero, suc, ◌+◌, ◌-◌, ◌≤◌, ◌<◌}
use mathlib.Core.Bool.{Bool, true, false, ◌||◌}
use mathlib.Core.List.{List, []}
use mathlib.Core.Path.{◌≡◌, refl, sym, ◌∙◌, ap}
use native.Mathlib.Nat.{pos_of_ne-zero}
use native.Mathlib.Omega.{arith}
use native.Mathlib.Decide.{ℕ_discrete}
use lib.Dec.{ltb, eqb}
use lib.ListN.{length, drop, length-drop}
use borrow.Author.Tests.{le-ltb, eq-eqb, ne_eqb, ltb-true, ltb-false, eqb-true, eqb-false}
use Rattle.words.specs.Words.{put}
use Rattle.words.proofs.ByteLaws.{length-put}
use Rattle.baos.specs.Message.{Verdict}
use Rattle.baos.specs.Table.{Tables, parameters_only}
use Rattle.baos.specs.Message.{sub_service, start_of, number_of, coded, Finding, fine, bad, verdict_of, Served}
use Rattle.baos.specs.Set.{indices, absent_indices, absent_finding, set_parameter_finding, set_parameter_byte}
use Rattle.baos.specs.Inner.Gather.{get_datapoints}
use Rattle.baos.specs.Service.{carried_out}
use Rattle.baos.proofs.DispatchLaws.{by_service, by_message}
use Rattle.baos.proofs.GetLaws.{verdict_bad}
use Rattle.baos.proofs.ServiceLaws.{items_leave_all, strings_leave_all, set_items_keep_parameters, datapoints_keep_parameters, set_datapoints_keep_parameters, parameters_leave_all, bad_set_parameter, fine_set_parameter}

-- ---- the indices that are not in a table of so many bytes
module _ (count : ℕ) where
  abbrev is_absent : ℕ → Bool
  is_absent i = eqb i 0 || ltb count i

  present_index : (i : ℕ) → 1 ≤ i → i ≤ count → is_absent i ≡ false
  present_index i l h = simp (ne_eqb i 0 (λ e. omega (arith, e, l)), le-ltb count i h)

  -- the first of the range, where it is not in the table
  at_start_lem : (start number : ℕ) → 1 ≤ number → is_absent start ≡ true → absent_finding (absent_indices count start number) ≡ bad start 7
  unfolding absent_indices indices absent_finding
  at_start_lem start zero l e = absurd (omega (arith, l))
  at_start_lem start (suc n) l e = simp e

  pub absent_at_start : (start number : ℕ) → 1 ≤ number → (1 ≤ start → start ≤ count → ⊥) → absent_finding (absent_indices count start number) ≡ bad start 7
  absent_at_start start number l n = at_start_lem start number l (go (eqb start 0) (ltb count start) refl refl)
    where
      go : (u v : Bool) → eqb start 0 ≡ u → ltb count start ≡ v → is_absent start ≡ true
      go true v a b = simp a
      go false true a b = simp (a, b)
      go false false a b = absurd (n (pos_of_ne-zero (eqb-false start 0 a)) (omega (arith, ltb-false count start b)))

  -- else the one behind the table's last
  pub absent_behind : (start number : ℕ) → 1 ≤ start → start ≤ count + 1 → count + 1 < start + number → absent_finding (absent_indices count start number) ≡ bad (count + 1) 7
  unfolding absent_indices indices absent_finding
  absent_behind start zero l s h = absurd (omega (arith, s, h))
  absent_behind start (suc n) l s h = go (ltb count start) refl (absent_behind (suc start) n (omega arith))
    where
      go : (u : Bool) → ltb count start ≡ u → (suc start ≤ count + 1 → count + 1 < suc start + n → absent_finding (absent_indices count (suc start) n) ≡ bad (count + 1) 7)
          → absent_finding (absent_indices count start (suc n)) ≡ bad (count + 1) 7
      go true e rest =
          at_start_lem start (suc n) (omega arith) (simp (ne_eqb start 0 (λ z. omega (arith, z, l)), e))
          ∙ ap (λ (i : ℕ). bad i 7) {x = start} {y = count + 1} (omega (arith, s, ltb-true count start e))
      go false e rest = simp (present_index start l (omega (arith, ltb-false count start e))) (rest (omega (arith, ltb-false count start e)) (omega (arith, h)))

  -- or none
  none_absent : (start number : ℕ) → 1 ≤ start → start + number ≤ count + 1 → absent_indices count start number ≡ []
  unfolding absent_indices indices
  none_absent start zero l h = refl
  none_absent start (suc n) l h = simp (present_index start l (omega (arith, h))) (none_absent (suc start) n (omega arith) (omega (arith, h)))

  pub absent_none : (start number : ℕ) → 1 ≤ start → start + number ≤ count + 1 → absent_finding (absent_indices count start number) ≡ fine
  unfolding absent_finding
  absent_none start number l h = ap absent_finding (none_absent start number l h)

-- where a range stands towards the table
pub data Range (count start number : ℕ) : Type 0 where
  outside : (1 ≤ start → start ≤ count → ⊥) → Range count start number
  over : 1 ≤ start → start ≤ count → count + 1 < start + number → Range count start number
  within : 1 ≤ start → start + number ≤ count + 1 → Range count start number

pub range : (count start number : ℕ) → Range count start number
range count start number = go (eqb start 0) (ltb count start) (ltb (count + 1) (start + number)) refl refl refl
  where
    go : (u v w : Bool) → eqb start 0 ≡ u → ltb count start ≡ v → ltb (count + 1) (start + number) ≡ w → Range count start number
    go true v w a b c = outside (λ l h. omega (arith, eqb-true start 0 a, l))
    go false true w a b c = outside (λ l h. omega (arith, ltb-true count start b, h))
    go false false true a b c = over (pos_of_ne-zero (eqb-false start 0 a)) (omega (arith, ltb-false count start b)) (ltb-true (count + 1) (start + number) c)
    go false false false a b c = within (pos_of_ne-zero (eqb-false start 0 a)) (omega (arith, ltb-false (count + 1) (start + number) c))

-- ---- what the checks find
module _ (count : ℕ) (m : List ℕ) where
  abbrev finding : Finding
  finding = set_parameter_finding count m

  pub other_size : (length m ≡ 6 + number_of m → ⊥) → finding ≡ bad (start_of m) 10
  unfolding set_parameter_finding
  other_size n = simp (ne_eqb (length m) (6 + number_of m) n)

  pub no_bytes : length m ≡ 6 + number_of m → number_of m ≡ 0 → finding ≡ bad (start_of m) 6
  unfolding set_parameter_finding
  no_bytes l z = simp (eq-eqb (length m) (6 + number_of m) l, eq-eqb (number_of m) 0 z)

  pub by_absent : length m ≡ 6 + number_of m → (number_of m ≡ 0 → ⊥) → finding ≡ absent_finding (absent_indices count (start_of m) (number_of m))
  unfolding set_parameter_finding
  by_absent l n = simp (eq-eqb (length m) (6 + number_of m) l, ne_eqb (number_of m) 0 n)

  -- what a request has that the checks let through
  pub record Passed : Type 0 where
    pub fine_so : finding ≡ fine
    pub filled : length m ≡ 6 + number_of m
    pub some : 1 ≤ number_of m
    pub from_one : 1 ≤ start_of m
    pub within_so : start_of m + number_of m ≤ count + 1
    pub fits : start_of m - 1 + length (drop 6 m) ≤ count

  passes_within : length m ≡ 6 + number_of m → 1 ≤ number_of m → 1 ≤ start_of m → start_of m + number_of m ≤ count + 1 → Passed
  passes_within l n s h =
      record {
        fine_so = by_absent l (λ z. omega (arith, z, n)) ∙ absent_none count (start_of m) (number_of m) s h;
        filled = l;
        some = n;
        from_one = s;
        within_so = h;
        fits = omega (arith, length-drop 6 m, l, s, h);
      }

  -- one of four ways
  pub data Checked : Type 0 where
    ten : finding ≡ bad (start_of m) 10 → Checked
    six : finding ≡ bad (start_of m) 6 → Checked
    seven : (i : ℕ) → finding ≡ bad i 7 → Checked
    none : Passed → Checked

  pub checked : Checked
  checked = go (ℕ_discrete (length m) (6 + number_of m)) (ℕ_discrete (number_of m) 0)
    where
      ranged : length m ≡ 6 + number_of m → (number_of m ≡ 0 → ⊥) → Range count (start_of m) (number_of m) → Checked
      ranged l n (outside o) = seven (start_of m) (by_absent l n ∙ absent_at_start count (start_of m) (number_of m) (pos_of_ne-zero n) o)
      ranged l n (over s h o) = seven (count + 1) (by_absent l n ∙ absent_behind count (start_of m) (number_of m) s (omega (arith, h)) o)
      ranged l n (within s h) = none (passes_within l (pos_of_ne-zero n) s h)

      go : Dec (length m ≡ 6 + number_of m) → Dec (number_of m ≡ 0) → Checked
      go (no n) x = ten (other_size n)
      go (yes l) (yes z) = six (no_bytes l z)
      go (yes l) (no n) = ranged l n (range count (start_of m) (number_of m))

  pub passed : (verdict_of finding).code ≡ 0 → Passed
  unfolding verdict_of
  passed z = go checked
    where
      code : {f : Finding} → finding ≡ f → (verdict_of f).code ≡ 0
      code e = sym (ap (λ (f : Finding). (verdict_of f).code) e) ∙ z

      go : Checked → Passed
      go (ten e) = absurd (omega (arith, code e))
      go (six e) = absurd (omega (arith, code e))
      go (seven i e) = absurd (omega (arith, code e))
      go (none p) = p

pub set-length : (ps m : List ℕ) → set_parameter_finding (length ps) m ≡ fine → length (put ps (start_of m - 1) (drop 6 m)) ≡ length ps
unfolding verdict_of
set-length ps m f =
    let p = passed (length ps) m (ap (λ (x : Finding). (verdict_of x).code) f) in
    length-put ps (start_of m - 1) (drop 6 m) p.fits

-- ---- what is answered and left
module _ (ps m : List ℕ) where
  abbrev served : Served
  served = set_parameter_byte (parameters_only ps) m

  abbrev verdict : Verdict
  verdict = verdict_of (set_parameter_finding (length ps) m)

  pub record Refused : Type 0 where
    pub says : served.says ≡ coded m verdict.id verdict.code
    pub after : served.after.parameters ≡ ps

  pub set_parameters_refused : (verdict.code ≡ 0 → ⊥) → Refused
  set_parameters_refused n =
      let s = bad_set_parameter (parameters_only ps) m (verdict_bad (set_parameter_finding (length ps) m) n) in
      record { says = ap (λ (x : Served). x.says) s; after = ap (λ (x : Served). x.after.parameters) s }

  pub record Accepted : Type 0 where
    pub says : served.says ≡ coded m (start_of m) 0
    pub after : served.after.parameters ≡ put ps (start_of m - 1) (drop 6 m)

  pub set_parameters_accepted : verdict.code ≡ 0 → Accepted
  set_parameters_accepted z =
      let s = fine_set_parameter (parameters_only ps) m (passed (length ps) m z).fine_so in
      record { says = ap (λ (x : Served). x.says) s; after = ap (λ (x : Served). x.after.parameters) s }

-- ---- no other service writes a parameter byte
pub parameters_kept : (t : Tables) (m : List ℕ) → (sub_service m ≡ 8 → ⊥) → (carried_out t m).after.parameters ≡ t.parameters
unfolding get_datapoints
parameters_kept t m n =
    by_message (λ (s : Served). s.after.parameters ≡ t.parameters) t m refl
    (by_service (λ (s : Served). s.after.parameters ≡ t.parameters) t m
    (λ e. ap (λ (x : Tables). x.parameters) (items_leave_all t m))
    (λ e. set_items_keep_parameters t m)
    (λ e. datapoints_keep_parameters t m false)
    (λ e. ap (λ (x : Tables). x.parameters) (strings_leave_all t m))
    (λ e. datapoints_keep_parameters t m true)
    (λ e. set_datapoints_keep_parameters t m)
    (λ e. ap (λ (x : Tables). x.parameters) (parameters_leave_all t m))
    (λ e. absurd (n e))
    refl)
