-- A law of RefusalLaws for each number.
use Rattle.std.proofs.Common.{sym, ◌∙◌, arith}
use Rattle.calls.proofs.RefusalLaws.{lent_1, lent_2, lent_3, lent_0}
use Rattle.refusals.proofs.refusal.check_lent.Goals as goal

pub returns-then-not-tables_ok : goal.returns-then-not-tables_ok
returns-then-not-tables_ok c = sym (lent_1 _ _ _ _ (sym c.tables_ok.ensures ∙ c.if-not-tables_ok.true))

pub returns-then-not-in_range : goal.returns-then-not-in_range
returns-then-not-in_range c = sym (lent_2 _ _ _ _ (sym c.tables_ok.ensures ∙ c.if-not-tables_ok.false) (sym c.in_range.ensures ∙ c.if-not-in_range.true))

pub returns-then-room-lt-LEAST_ROOM : goal.returns-then-room-lt-LEAST_ROOM
returns-then-room-lt-LEAST_ROOM c =
    sym (lent_3 _ _ _ _ (sym c.tables_ok.ensures ∙ c.if-not-tables_ok.false) (sym c.in_range.ensures ∙ c.if-not-in_range.false) (omega arith))

pub returns : goal.returns
returns c = sym (lent_0 _ _ _ _ (sym c.tables_ok.ensures ∙ c.if-not-tables_ok.false) (sym c.in_range.ensures ∙ c.if-not-in_range.false) (omega arith))
