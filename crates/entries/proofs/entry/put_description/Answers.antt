use Rattle.std.proofs.Common.{refl, ◌∙◌, arith}
use Rattle.baos.specs.Get.{description_entry}
use Rattle.baos.proofs.TwoByteLaws.{two_big_endian}
use Rattle.entries.proofs.entry.put_description.Goals as goal

pub returns : goal.returns
unfolding description_entry
returns c =
    let e = c.to_be_bytes.ensures ∙ two_big_endian c.args.d.id (omega arith) in
    record { buffer = rw e at c.put_bytes.ensures; ends = refl }
