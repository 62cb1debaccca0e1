use Rattle.std.proofs.Common.{refl, ◌∙◌, arith}
use Rattle.baos.specs.Message.{coded}
use Rattle.baos.proofs.TwoByteLaws.{two_big_endian}
use Rattle.messages.proofs.message.Request.put_coded.Goals as goal

pub returns : goal.returns
unfolding coded
returns c =
    let e = c.to_be_bytes.ensures ∙ two_big_endian c.args.id (omega arith) in
    record { buffer = rw (e, c.sub_service_of.ensures) at c.put_bytes.ensures; ends = refl }
