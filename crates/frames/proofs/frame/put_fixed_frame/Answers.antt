use Rattle.ft12.specs.Frame.{fixed_frame}
use Rattle.frames.proofs.frame.put_fixed_frame.Goals as goal

pub returns : goal.returns
unfolding fixed_frame
returns c = c.put_bytes.ensures
