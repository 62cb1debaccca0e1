use Rattle.std.proofs.Common.{◌∙◌}
use Rattle.baos.proofs.EntryLaws.{put_zeros}
use Rattle.values.proofs.value.padded.Goals as goal

pub returns : goal.returns
returns c = c.put_bytes.ensures ∙ put_zeros 14 _
