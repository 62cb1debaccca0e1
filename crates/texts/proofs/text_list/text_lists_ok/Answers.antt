-- What the first test showed.
use Rattle.std.proofs.Common.{sym, ◌∙◌, ap, Bool, ◌&&◌}
use Rattle.baos.specs.Text.{text_lists_ok}
use Rattle.baos.specs.TextList.{text_list_ok}
use Rattle.texts.proofs.text_list.text_lists_ok.Goals as goal

pub returns-then-text_list_ok : goal.returns-then-text_list_ok
unfolding text_lists_ok
returns-then-text_list_ok c =
    c.text_list_ok-then-text_list_ok.ensures
    ∙ sym (ap (λ (b : Bool). b && text_list_ok c.args.defaults.now) (sym c.text_list_ok.ensures ∙ c.if-text_list_ok.true))

pub returns-else-text_list_ok : goal.returns-else-text_list_ok
unfolding text_lists_ok
returns-else-text_list_ok c =
    c.if-text_list_ok.false
    ∙ sym (ap (λ (b : Bool). b && text_list_ok c.args.defaults.now) (sym c.text_list_ok.ensures ∙ c.if-text_list_ok.false))
