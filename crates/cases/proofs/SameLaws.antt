-- Tests that decide whether records are the same.
use Rattle.std.proofs.Common.{◌≡◌, ℕ, ◌+◌, ◌-◌, ◌<◌, ◌≤◌, Bor, Option, None, Some, Bool, true, false, not, ◌&&◌, eqb, ◌⊎◌, List, length, take, sym, refl, ap, ◌∙◌, ⊎_elim, arith, eq-eqb, eqb-true}
use Rattle.std.proofs.lemmas.Slice.Eq.{slice_eq-Decides}
use Rattle.std.specs.Option.{MatchOption, option_eq}
use Rattle.std.specs.List.{slice_range}
use lib.Pointwise.{pointwise}
use Rattle.script.specs.View.{in_places}
use Rattle.script.proofs.PlaceLaws.{take_places}
use Rattle.cases.specs.Same.{Decides}

pub false_true : false ≡ true → ⊥
false_true e = let z : ◌≡◌ {A = ℕ} 0 1 = cc in omega arith

pub not_true : (b : Bool) → not b ≡ true → b ≡ false
not_true true e = absurd (false_true e)
not_true false e = refl

pub not_false : (b : Bool) → not b ≡ false → b ≡ true
not_false true e = refl
not_false false e = absurd (false_true (sym e))

-- ---- a test fails, or the last one decides
pub refuted : {P : Type 0} → (P → ⊥) → Decides false P
refuted f = ((λ e. absurd (false_true e)), (λ p. absurd (f p)))

pub shown : {P : Type 0} → P → Decides true P
shown p = ((λ _. p), (λ _. refl))

-- a test of a part of Q fails
pub failed : {P Q : Type 0} {b : Bool} → Decides b P → b ≡ false → (Q → P) → Decides false Q
failed d e f = refuted (λ q. false_true (sym e ∙ d.1 (f q)))

-- two numbers, compared
pub compared : (a b : ℕ) → Decides (eqb a b) (a ≡ b)
compared a b = ((λ e. eqb-true a b e), (λ q. eq-eqb a b q))

-- two tests, both made
pub both : {P Q : Type 0} {a b : Bool} → Decides a P → Decides b Q → Decides (a && b) (P × Q)
both {a = true} d e = ((λ t. (d.0 refl, e.0 t)), (λ q. e.1 q.1))
both {a = false} d e = ((λ t. absurd (false_true t)), (λ q. absurd (false_true (d.1 q.0))))

-- what is left of Q is P
pub left_to : {P Q : Type 0} {b : Bool} → Decides b P → (P → Q) → (Q → P) → Decides b Q
left_to d f g = ((λ e. f (d.0 e)), (λ q. d.1 (g q)))

-- ---- tables: a list is told by its places and its length
pub unplaced : {A : Type 0} (n : ℕ) (blank : A) (xs ys : List A) → length xs ≡ length ys → in_places n blank xs ≡ in_places n blank ys → xs ≡ ys
unplaced n blank xs ys e p = sym (take_places n blank xs) ∙ (λ i. take (e i) (p i)) ∙ take_places n blank ys

-- ---- the first k of a list, where there are so many, compared with another list
pub front_compared : (xs : List ℕ) (k : ℕ) (front : Option (Bor (List ℕ))) (ys : Bor (List ℕ)) (r : Bool)
    → MatchOption front ((k < 0) ⊎ (length xs < k)) (λ x. (0 ≤ k) × (k ≤ length xs) × (x.now ≡ slice_range xs 0 k) × (length x.now + 0 ≡ k))
    → r ≡ option_eq (λ x y. pointwise eqb x.now y.now) front (Some ys)
    → Decides r ((k ≤ length xs) × (take k xs ≡ ys.now))
front_compared xs k None ys r m e = rw e (refuted (λ q. ⊎_elim (λ l. omega (arith, l)) (λ l. omega (arith, l, q.0)) m))
front_compared xs k (Some x) ys r m e =
    let p : x.now ≡ take k xs = m.2 ∙ ap (λ (j : ℕ). take j xs) {x = k - 0} {y = k} (omega arith) in
    left_to (slice_eq-Decides compared _ _ _ e) (λ q. (m.1, sym p ∙ q)) (λ q. p ∙ q.1)
