-- By computing.
use mathlib.Core.Path.{refl}
use Rattle.ft12.specs.Record.{link_of}
use Rattle.calls.specs.Exported.{fresh_line}
use Rattle.tagobrelin.proofs.exported.tagobrelin_fresh_link.Goals as goal

pub returns : goal.returns
unfolding link_of fresh_line
returns c = refl
