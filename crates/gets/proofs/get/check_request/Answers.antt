-- Each exit is one of the findings.
use Rattle.std.proofs.Common.{sym, ◌∙◌, ap, ℕ, arith}
use Rattle.baos.specs.Message.{bad, finding_of, code_number}
use Rattle.baos.proofs.MeasureLaws.{finding_length, finding_number, finding_filter, finding_none}
use Rattle.gets.proofs.get.check_request.Goals as goal
use Rattle.gets.proofs.get.check_request.Goals.{then-number_of-eq0-via-then-number_of-eq0, then-number_of-eq0-via-else-number_of-eq0+then-filter_asked-gt2}

pub returns-then-m-size_asked : goal.returns-then-m-size_asked
unfolding finding_of code_number
returns-then-m-size_asked c = ap (λ (i : ℕ). bad i 10) c.start_of-id.ensures ∙ sym (finding_length c.args.values c.args.m.now (λ e. omega (arith, e, c.size_asked.ensures)))

pub returns-then-number_of-eq0 : goal.returns-then-number_of-eq0
unfolding finding_of code_number
returns-then-number_of-eq0 c =
    let a = c.args in
    ap (λ (i : ℕ). bad i 6) c.start_of-id.ensures
    ∙ sym (elim c.then-number_of-eq0.branch [
      | then-number_of-eq0-via-then-number_of-eq0 w ↦ finding_number a.values a.m.now (omega (arith, c.size_asked.ensures)) (omega (arith, c.number_of.ensures, w.if-number_of-eq0.true))
      | then-number_of-eq0-via-else-number_of-eq0+then-filter_asked-gt2 w ↦
          finding_filter a.values a.m.now (omega (arith, c.size_asked.ensures)) (λ e. w.if-number_of-eq0.false (c.number_of.ensures ∙ e)) (omega (arith, w.filter_asked.ensures, w.if-filter_asked-gt2.true))
    ])

pub returns : goal.returns
unfolding finding_of code_number
returns c = sym (finding_none c.args.values c.args.m.now (omega (arith, c.size_asked.ensures)) (λ e. c.if-number_of-eq0.false (c.number_of.ensures ∙ e)) (omega (arith, c.filter_asked.ensures)))
