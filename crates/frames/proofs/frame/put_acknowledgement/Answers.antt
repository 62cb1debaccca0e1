-- One store is the write of one byte.
use Rattle.std.proofs.Common.{[], ◌∷◌, arith}
use Rattle.words.proofs.ByteLaws.{put_sets}
use Rattle.frames.proofs.frame.put_acknowledgement.Goals as goal

pub returns : goal.returns
returns c = put_sets (0xE5 ∷ []) c.args.out.now c.args.at (omega arith)
