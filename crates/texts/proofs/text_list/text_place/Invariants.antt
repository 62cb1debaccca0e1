-- The loop: the search stands where an entry begins, and the place that it looks for is ahead.
use Rattle.std.proofs.Common.{◌-◌, length}
use Rattle.baos.proofs.TextListLaws.{Searching}
use Rattle.texts.proofs.text_list.text_place.Given as goal

abbrev pub invariant-loop-place : goal.invariant-loop-place
invariant-loop-place l = Searching l.id l.place l.list

abbrev pub decreases-loop-place : goal.decreases-loop-place
decreases-loop-place l = length l.list - l.place
