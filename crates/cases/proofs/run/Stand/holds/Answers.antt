use Rattle.std.proofs.Common.{sym, ap, ◌∙◌}
use Rattle.cases.specs.Kind.{kind_of}
use Rattle.cases.proofs.KindLaws.{says}
use Rattle.cases.proofs.SameLaws.{false_true, refuted}
use Rattle.cases.proofs.ScriptLaws.{replied, damage_found, linked, compared, given, found, nothing_asked}
use Rattle.cases.proofs.run.Stand.holds.Goals as goal

pub returns-then-not-self : goal.returns-then-not-self
returns-then-not-self c = refuted (λ q. false_true (sym c.if-not-self.true ∙ q.silent))

pub returns-in-Reply : goal.returns-in-Reply
returns-in-Reply c = replied _ _ _ c.if-not-self.false (says _ _ c.in-Reply.ensures) (rw c.listed.ensures at c.has_sent.ensures)

pub returns-in-Damage : goal.returns-in-Damage
returns-in-Damage c = damage_found _ _ _ c.if-not-self.false (says _ _ c.in-Damage.ensures) (rw c.byte.ensures at c.is_damaged.ensures)

pub returns-in-Link : goal.returns-in-Link
returns-in-Link c = linked _ _ _ c.if-not-self.false (says _ _ c.in-Link.ensures) (rw c.listed-in-Link.ensures at c.is_link.ensures)

pub returns-in-Tables : goal.returns-in-Tables
returns-in-Tables c = compared _ _ _ c.if-not-self.false (says _ _ c.in-Tables.ensures) c.same_tables.ensures

pub returns-in-Reading : goal.returns-in-Reading
returns-in-Reading c = given _ _ _ c.if-not-self.false (says _ _ c.in-Reading.ensures) c.has_read.ensures

pub returns-in-Burst : goal.returns-in-Burst
returns-in-Burst c = found _ _ _ c.if-not-self.false (says _ _ c.in-Burst.ensures) (rw c.listed-in-Burst.ensures at c.has_found.ensures)

pub returns-in_default : goal.returns-in_default
returns-in_default c = nothing_asked _ _ _ c.if-not-self.false (λ e. c.in_default.not-Reply (c.of.ensures ∙ ap kind_of e)) (λ e. c.in_default.not-Damage (c.of.ensures ∙ ap kind_of e)) (λ e. c.in_default.not-Link (c.of.ensures ∙ ap kind_of e)) (λ e. c.in_default.not-Tables (c.of.ensures ∙ ap kind_of e)) (λ e. c.in_default.not-Reading (c.of.ensures ∙ ap kind_of e)) (λ e. c.in_default.not-Burst (c.of.ensures ∙ ap kind_of e))
