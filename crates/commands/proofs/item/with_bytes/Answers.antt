use Rattle.std.proofs.Common.{◌∙◌}
use Rattle.baos.specs.Item.{with_bytes}
use Rattle.baos.proofs.EntryLaws.{put_zeros}
use Rattle.commands.proofs.item.with_bytes.Goals as goal

pub returns : goal.returns
unfolding with_bytes
returns c = rw (c.put_bytes.ensures ∙ put_zeros 16 c.args.value.now)
