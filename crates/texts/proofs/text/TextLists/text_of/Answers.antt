use Rattle.std.proofs.Common.{refl}
use Rattle.baos.specs.Text.{text_lists}
use Rattle.baos.proofs.TextLaws.{both_site, both_defaults, cursor_site, cursor_defaults}
use Rattle.texts.proofs.ListLaws.{handed_site, handed_default, handed_none}
use Rattle.texts.proofs.text.TextLists.text_of.Goals as goal

pub text_in-requires : goal.text_in-requires
text_in-requires c =
    let s = c.args.self in
    (both_site (text_lists s.site.now s.defaults.now) s.in_order, cursor_site c.args.id (text_lists s.site.now s.defaults.now) c.args.at c.requires)

pub returns-in-Some : goal.returns-in-Some
returns-in-Some c = handed_site c.args.id c.args.self.site c.args.self.defaults c.in-Some.own c.in-Some.ensures

pub text_in-requires-2 : goal.text_in-requires-2
text_in-requires-2 c =
    let s = c.args.self in
    (both_defaults (text_lists s.site.now s.defaults.now) s.in_order, cursor_defaults c.args.id (text_lists s.site.now s.defaults.now) c.args.at c.requires)

pub returns-in-Some-text_in : goal.returns-in-Some-text_in
returns-in-Some-text_in c = handed_default c.args.id c.args.self.site c.args.self.defaults c.in-Some-text_in.shipped c.in_default.ensures c.in-Some-text_in.ensures

pub returns-in-None : goal.returns-in-None
returns-in-None c = handed_none c.args.id c.args.self.site c.args.self.defaults _ c.in_default.ensures c.in-None.ensures refl refl refl
