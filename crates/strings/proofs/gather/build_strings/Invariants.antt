-- The strings of the datapoints before this one are put.
use Rattle.baos.specs.Text.{text_lists}
use Rattle.strings.proofs.PassSteps.{Stands}
use Rattle.strings.proofs.gather.build_strings.Given as goal

abbrev pub invariant-loop-d : goal.invariant-loop-d
invariant-loop-d l = Stands (text_lists l.texts.site.now l.texts.defaults.now) l.w l.table l.from l.fn.out l.at l.d-index l.end l.cursors l.out
