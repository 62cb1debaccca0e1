use Rattle.std.proofs.Common.{sym, ap, ◌∙◌}
use Rattle.cases.specs.Bench.{with_value}
use Rattle.cases.specs.Kind.{kind_of}
use Rattle.cases.proofs.KindLaws.{says}
use Rattle.cases.proofs.ScriptLaws.{starts, host_sends, silence, value_lent, event_comes, nothing_happens}
use Rattle.cases.proofs.run.Stand.act.Goals as goal

pub returns-in-Start : goal.returns-in-Start
returns-in-Start c = c.start.ensures ∙ sym (starts _ _ _ (says _ _ c.in-Start.ensures))

pub returns-in-Host : goal.returns-in-Host
returns-in-Host c = (rw c.listed.ensures at c.hear.ensures) ∙ sym (host_sends _ _ _ (says _ _ c.in-Host.ensures))

pub returns-in-Mark : goal.returns-in-Mark
returns-in-Mark c = c.mark.ensures ∙ sym (silence _ _ _ (says _ _ c.in-Mark.ensures))

pub returns-in-Value : goal.returns-in-Value
unfolding with_value
returns-in-Value c = sym (value_lent _ _ _ (says _ _ c.in-Value.ensures))

pub returns-in-Event : goal.returns-in-Event
returns-in-Event c = c.number.ensures ∙ sym (event_comes _ _ _ (says _ _ c.in-Event.ensures))

pub returns-in_default : goal.returns-in_default
returns-in_default c = sym (nothing_happens _ _ _ (λ e. c.in_default.not-Start (c.of.ensures ∙ ap kind_of e)) (λ e. c.in_default.not-Host (c.of.ensures ∙ ap kind_of e)) (λ e. c.in_default.not-Mark (c.of.ensures ∙ ap kind_of e)) (λ e. c.in_default.not-Value (c.of.ensures ∙ ap kind_of e)) (λ e. c.in_default.not-Event (c.of.ensures ∙ ap kind_of e)))
