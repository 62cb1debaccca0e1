-- The datapoints before this one are measured.
use Rattle.baos.specs.Text.{text_lists}
use Rattle.strings.proofs.PassSteps.{Found}
use Rattle.strings.proofs.gather.measure_strings.Given as goal

abbrev pub invariant-loop-d : goal.invariant-loop-d
invariant-loop-d l = Found (text_lists l.texts.site.now l.texts.defaults.now) l.w l.table l.from l.d-index l.found l.cursors
