-- How strings are gathered: the two passes of Gather, with cursors that go forward in the text lists beside them. Inner
-- contracts alone cite these; what an answer has to be is said by Get.
use Rattle.std.specs.Prelude.{ℕ, List}
use Rattle.baos.specs.Text.{TextLists}
use Rattle.baos.specs.declared.datapoint.Datapoint.{Datapoint}
use Rattle.baos.specs.declared.inner.Wanted.{Wanted}
use Rattle.baos.specs.Get.{string_entry}
use Rattle.baos.specs.Inner.Gather.{is_behind, is_within, Gathered, measured, built}

-- the passes over the datapoints
abbrev pub string_step : TextLists → Wanted → Datapoint → Gathered → Gathered
string_step ts w d g = measured (is_behind w d.id) (is_within w d.id) (string_entry ts d) g

abbrev pub strings_built : TextLists → Wanted → List Datapoint → List ℕ
strings_built ts w ds =
    built (λ (d : Datapoint). is_behind w d.id) (λ (d : Datapoint). is_within w d.id) (string_entry ts) ds
