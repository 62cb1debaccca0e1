-- None from index 0 on, or from behind the last.
use Rattle.std.proofs.Common.{◌≡◌, refl, ◌∙◌, ℕ, ◌-◌, Bool, true, false, min, if◌then◌else◌, arith, ltb, ltb-true, ltb-false, le-ltb, eq-eqb, ne_eqb}
use Rattle.baos.specs.Inner.Gather.{parameters_present}
use Rattle.gets.proofs.get.parameters_present.Goals as goal
use Rattle.gets.proofs.get.parameters_present.Goals.{then-start-eq0-via-then-start-eq0, then-start-eq0-via-else-start-eq0+then-count-start}

least : (m n : ℕ) (b : Bool) → ltb m n ≡ b → min m n ≡ (if b then m else n)
least m n true e = omega (arith, ltb-true m n e)
least m n false e = omega (arith, ltb-false m n e)

pub returns-then-start-eq0 : goal.returns-then-start-eq0
unfolding parameters_present
returns-then-start-eq0 c =
    let a = c.args in
    elim c.then-start-eq0.branch [
      | then-start-eq0-via-then-start-eq0 w ↦ simp (eq-eqb a.start 0 w.if-start-eq0.true) refl
      | then-start-eq0-via-else-start-eq0+then-count-start w ↦ simp (ne_eqb a.start 0 w.if-start-eq0.false, le-ltb a.number (a.count - (a.start - 1)) (omega (arith, w.if-count-start.true))) (omega (arith, w.if-count-start.true))
    ]

pub returns : goal.returns
unfolding parameters_present
returns c =
    let a = c.args in
    let rest = a.count - (a.start - 1) in
    c.min.ensures ∙ simp (ne_eqb a.start 0 c.if-start-eq0.false) (least a.number rest (ltb a.number rest) refl)
