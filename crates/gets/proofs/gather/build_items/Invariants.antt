-- The entries of the items before this one are put.
use Rattle.std.proofs.Common.{◌+◌}
use Rattle.gets.proofs.PassSteps.{ItemStands}
use Rattle.gets.proofs.gather.build_items.Given as goal

abbrev pub invariant-loop-item : goal.invariant-loop-item
invariant-loop-item l = ItemStands l.w l.from l.table l.fn.out l.at (l.from + l.item-index) l.end l.out
