use Rattle.std.proofs.Common.{◌≡◌, ℕ, length, get_or, sym, ap, ◌∙◌, arith, rules}
use Rattle.std.proofs.lemmas.Grind.{elements}
use Rattle.script.specs.Line.{listed}
use Rattle.script.specs.View.{in_places, line_of}
use Rattle.script.proofs.PlaceLaws.{listed_length, listed_places}
use Rattle.cases.specs.Bench.{with_parameters, with_site, with_defaults}
use Rattle.cases.specs.Lent.{with_datapoint, filled}
use Rattle.cases.specs.View.{bench_of}
use Rattle.cases.specs.Kind.{kind_of}
use Rattle.cases.proofs.KindLaws.{says}
use Rattle.cases.proofs.LentLaws.{try_added, item_placed, datapoint_placed, filled_none, filled_next, told_empty, told_item, told_datapoints, told_parameters, told_site, told_defaults, told_nothing}
use Rattle.cases.proofs.lent.tell.Goals as goal

pub returns-in-Empty : goal.returns-in-Empty
returns-in-Empty c = c.empty.ensures ∙ sym (told_empty _ _ (says _ _ c.in-Empty.ensures))

pub returns-in-Item : goal.returns-in-Item
returns-in-Item c =
    item_placed c.item_of.result c.args.wanted.now _ (try_added _ 4 _ _ _ c.try_push.ensures.variant c.try_push.ensures.ok c.try_push.ensures.err)
    ∙ rw c.item_of.ensures (sym (told_item _ _ (says _ _ c.in-Item.ensures)))

pub loop-k-init : goal.loop-k-init
loop-k-init c = sym (filled_none _ _)

pub loop-k-preserved : goal.loop-k-preserved
loop-k-preserved c =
    datapoint_placed c.datapoint_of.result c.loop-k.wanted _ (try_added _ 50 _ _ _ c.try_push-in-loop-k.ensures.variant c.try_push-in-loop-k.ensures.ok c.try_push-in-loop-k.ensures.err)
    ∙ (λ j. with_datapoint (c.datapoint_of.ensures j) (c.loop-k.invariant j)) ∙ sym (filled_next _ _ _)

pub returns-after-loop-k : goal.returns-after-loop-k
returns-after-loop-k c =
    let a = (line_of c.args.line.now).bytes in
    let e : c.loop-k.k ≡ get_or a 0 0 = omega (arith, c.byte-k-end.ensures) in
    c.loop-k.invariant ∙ ap (λ (n : ℕ). filled a n (bench_of c.args.wanted.now)) e ∙ sym (told_datapoints _ _ (says _ _ c.in-Datapoints.ensures))

pub returns-in-Parameters : goal.returns-in-Parameters
unfolding with_parameters
returns-in-Parameters c =
    let l = c.args.line.now in
    let w : length l.bytes ≡ 264 = search rules in
    let e : c.unwrap-wanted.result.items ≡ listed (line_of l) = grind (arith, elements) in
    (λ j. with_parameters (in_places 264 0 (e j)) (length (e j)) (bench_of c.args.wanted.now))
    ∙ (λ j. with_parameters (listed_places l w j) (listed_length l w j) (bench_of c.args.wanted.now)) ∙ sym (told_parameters _ _ (says _ _ c.in-Parameters.ensures))

pub returns-in-Site : goal.returns-in-Site
unfolding with_site
returns-in-Site c = sym (told_site _ _ (says _ _ c.in-Site.ensures))

pub returns-in-Defaults : goal.returns-in-Defaults
unfolding with_defaults
returns-in-Defaults c = sym (told_defaults _ _ (says _ _ c.in-Defaults.ensures))

pub returns-in_default : goal.returns-in_default
returns-in_default c = sym (told_nothing _ _ (λ e. c.in_default.not-Empty (c.of.ensures ∙ ap kind_of e)) (λ e. c.in_default.not-Item (c.of.ensures ∙ ap kind_of e)) (λ e. c.in_default.not-Datapoints (c.of.ensures ∙ ap kind_of e)) (λ e. c.in_default.not-Parameters (c.of.ensures ∙ ap kind_of e)) (λ e. c.in_default.not-Site (c.of.ensures ∙ ap kind_of e)) (λ e. c.in_default.not-Defaults (c.of.ensures ∙ ap kind_of e)))
