use Rattle.std.proofs.Common.{refl, ◌∙◌, arith}
use Rattle.baos.proofs.TwoByteLaws.{two_big_endian}
use Rattle.messages.proofs.message.put_head.Goals as goal

pub returns : goal.returns
returns c =
    let e = c.to_be_bytes.ensures ∙ two_big_endian c.args.start (omega arith) in
    let f = c.to_be_bytes-2.ensures ∙ two_big_endian c.args.count (omega arith) in
    record { buffer = rw (e, f) at c.put_bytes.ensures; ends = refl }
