use Rattle.std.proofs.Common.{sym, ap, Some}
use Rattle.words.proofs.WordLaws.{true_T}
use Rattle.baos.proofs.MeasureLaws.{in_range_lem, item_length}
use Rattle.baos.proofs.PassLaws.{bytes_fit}
use Rattle.gets.proofs.gather.ItemListed.entry_size.Goals as goal

pub returns : goal.returns
returns c =
    let i = c.args.self.now in
    let f = bytes_fit i (true_T c.requires.0) in
    rw (in_range_lem c.args.w i.id c.requires.1 c.requires.2) (ap Some (sym (item_length i f.1 f.0)))
