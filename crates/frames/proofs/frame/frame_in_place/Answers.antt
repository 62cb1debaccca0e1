-- Head and end are written around the message.
use Rattle.std.proofs.Common.{◌∙◌, arith}
use Rattle.frames.proofs.BuildLaws.{framed_in_place}
use Rattle.frames.proofs.frame.frame_in_place.Goals as goal

pub returns : goal.returns
returns c =
    let a = c.args in
    c.put_bytes-2.ensures ∙ rw c.put_bytes.ensures (framed_in_place a.out.now a.at a.n a.control c.checksum-sum.result (omega arith) (rw (← c.put_bytes.ensures) c.checksum-sum.ensures))
