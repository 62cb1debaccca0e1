use Rattle.baos.specs.Text.{text_lists}
use Rattle.baos.proofs.TextLaws.{both_site, both_defaults, cursors_are}
use Rattle.texts.proofs.text.TextLists.cursors_at.Goals as goal

pub text_place-requires : goal.text_place-requires
text_place-requires c = (both_site (text_lists c.args.self.site.now c.args.self.defaults.now) c.args.self.in_order, c.requires.site)

pub text_place-requires-2 : goal.text_place-requires-2
text_place-requires-2 c = (both_defaults (text_lists c.args.self.site.now c.args.self.defaults.now) c.args.self.in_order, c.requires.defaults)

pub returns : goal.returns
returns c =
    let s = c.args.self in
    cursors_are c.args.id _ _ (text_lists s.site.now s.defaults.now) c.text_place.ensures c.text_place-2.ensures
