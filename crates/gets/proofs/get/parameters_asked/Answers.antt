-- A law of the get of parameter bytes for each exit.
use Rattle.std.proofs.Common.{◌≡◌, sym, ◌∙◌, ap, ℕ, ◌+◌, ◌-◌, List, ◌∷◌, ◌++◌, length, take, drop, length-drop, arith}
use Rattle.std.proofs.lemmas.List.{length-take-le}
use Rattle.std.proofs.lemmas.Result.{err_from_is_err_and}
use Rattle.words.specs.Words.{two_bytes}
use Rattle.baos.specs.Message.{Verdict}
use Rattle.baos.specs.Inner.Gather.{parameters_present}
use Rattle.baos.specs.Message.{sub_service, start_of, number_of, coded, finding_of, verdict_of, code_number}
use Rattle.baos.proofs.ParameterLaws.{present_short, parameters_refused, parameters_none, parameters_over, parameters_all}
use Rattle.gets.proofs.MeasureSteps.{code_some}
use Rattle.gets.proofs.get.parameters_asked.Goals as goal

pub returns-in_err-check_request : goal.returns-in_err-check_request
unfolding finding_of verdict_of
returns-in_err-check_request c =
    let m = c.args.request.message.now in
    let f = c.in_err-check_request.field-0.0 in
    let p = err_from_is_err_and c.from_residual.result c.from_residual.ensures.1 in
    let e = ap verdict_of (sym c.in_err-check_request.ensures) in
    rw (p.1, p.2) (parameters_refused c.args.parameters.now m (λ z. code_some f.code (sym (ap (λ (v : Verdict). v.code) e) ∙ z)) ∙ ap (λ (v : Verdict). coded m v.id v.code) e)

-- a request that is fine, and how many bytes there are to return
pub returns-then-n-eq0 : goal.returns-then-n-eq0
unfolding finding_of verdict_of code_number
returns-then-n-eq0 c =
    let m = c.args.request.message.now in
    let ps = c.args.parameters.now in
    let e = c.parameters_present-n.ensures ∙ (λ i. parameters_present (length ps) (c.start_of-start.ensures i) (c.number_of.ensures i)) in
    parameters_none ps m (ap (λ (v : Verdict). v.code) (ap verdict_of (sym c.in_ok-check_request.ensures))) (sym e ∙ c.if-n-eq0.true) ∙ ap (λ (i : ℕ). coded m i 2) (sym c.start_of-start.ensures)

pub overflow_add-result : goal.overflow_add-result
overflow_add-result c =
    let m = c.args.request.message.now in
    let ps = c.args.parameters.now in
    let e = c.parameters_present-n.ensures ∙ (λ i. parameters_present (length ps) (c.start_of-start.ensures i) (c.number_of.ensures i)) in
    omega (arith, e, c.start_of-start.ensures, present_short ps m (omega (arith, e)))

pub returns-then-n-gt-ROOM_FOR_ENTRIES : goal.returns-then-n-gt-ROOM_FOR_ENTRIES
unfolding finding_of verdict_of code_number
returns-then-n-gt-ROOM_FOR_ENTRIES c =
    let m = c.args.request.message.now in
    let ps = c.args.parameters.now in
    let e = c.parameters_present-n.ensures ∙ (λ i. parameters_present (length ps) (c.start_of-start.ensures i) (c.number_of.ensures i)) in
    parameters_over ps m (ap (λ (v : Verdict). v.code) (ap verdict_of (sym c.in_ok-check_request.ensures))) (omega (arith, e)) (omega (arith, e)) ∙ ap (λ (i : ℕ). coded m (i + 248) 3) (sym c.start_of-start.ensures)

pub overflow_sub-first : goal.overflow_sub-first
overflow_sub-first c =
    let m = c.args.request.message.now in
    let ps = c.args.parameters.now in
    let e = c.parameters_present-n.ensures ∙ (λ i. parameters_present (length ps) (c.start_of-start.ensures i) (c.number_of.ensures i)) in
    omega (arith, c.start_of-start.ensures, present_short ps m (omega (arith, e)))

pub slice_bounds-result-end : goal.slice_bounds-result-end
slice_bounds-result-end c =
    let m = c.args.request.message.now in
    let ps = c.args.parameters.now in
    let e = c.parameters_present-n.ensures ∙ (λ i. parameters_present (length ps) (c.start_of-start.ensures i) (c.number_of.ensures i)) in
    omega (arith, e, c.start_of-start.ensures, present_short ps m (omega (arith, e)))

pub returns : goal.returns
unfolding finding_of verdict_of
returns c =
    let m = c.args.request.message.now in
    let ps = c.args.parameters.now in
    let s = c.start_of-start.result in
    let n = c.parameters_present-n.result in
    let e = c.parameters_present-n.ensures ∙ (λ i. parameters_present (length ps) (c.start_of-start.ensures i) (c.number_of.ensures i)) in
    let short = present_short ps m (omega (arith, e)) in
    let ws : List ℕ = take (s - 1 + n - (s - 1)) (drop (s - 1) ps) in
    let f : s - 1 + n - (s - 1) ≡ parameters_present (length ps) (start_of m) (number_of m) = omega (arith, e) in
    let long : length ws ≡ n = length-take-le (s - 1 + n - (s - 1)) (drop (s - 1) ps) (omega (arith, e, c.start_of-start.ensures, length-drop (s - 1) ps, short)) ∙ omega arith in
    let k = sym (long ∙ e) in (
      omega (arith, long),
      parameters_all ps m (ap (λ (v : Verdict). v.code) (ap verdict_of (sym c.in_ok-check_request.ensures))) (omega (arith, e)) (omega (arith, e))
          ∙ (λ i. (0xF0 ∷ (sub_service m + 0x80) ∷ two_bytes (start_of m) ++ two_bytes (k i)) ++ take (sym f i) (drop (sym c.start_of-start.ensures i - 1) ps)),
    )
