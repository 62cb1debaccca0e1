use Rattle.std.proofs.Common.{◌≡◌, sym, ◌∙◌, rules, arith}
use Rattle.std.specs.Slice.Iter.{chunks_exact_rest}
use Rattle.words.proofs.WordLaws.{rest_whole}
use Rattle.words.proofs.ByteLaws.{zero_none, zero_more, zero_fails, zero_last}
use Rattle.words.proofs.bytes.are_zero.Goals as goal

pub loop-run-init : goal.loop-run-init
loop-run-init c =
    let e : chunks_exact_rest c.into_iter-run-iterator.result ≡ c.args.s.now = search rules in
    (search rules, tt, search rules, rw e (zero_none c.args.s.now))

pub returns-then-not-run_is_zero : goal.returns-then-not-run_is_zero
returns-then-not-run_is_zero c =
    let z = rw c.in-Some.ensures.steps.1.0 at c.loop-run.invariant.3 in
    sym (zero_fails _ _ _ z (sym c.run_is_zero-in-loop-run.ensures ∙ c.if-not-run_is_zero.true))

pub loop-run-preserved : goal.loop-run-preserved
loop-run-preserved c =
    let z = rw c.in-Some.ensures.steps.1.0 at c.loop-run.invariant.3 in
    (search rules, tt, search rules, zero_more _ _ _ z (sym c.run_is_zero-in-loop-run.ensures ∙ c.if-not-run_is_zero.false))

pub returns : goal.returns
returns c =
    let s = c.args.s.now in
    let z = c.loop-run.invariant.3 in
    c.run_is_zero-2.ensures ∙ rw (rest_whole _ s) (zero_last s _ _ z (omega (arith, c.in-None.ensures.steps.1.0)))
