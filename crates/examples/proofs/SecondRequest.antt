-- Requests behind the first are carried out too: a reset, a set, the host's acknowledgement of its answer, and a second set under the other count bit.
use mathlib.Core.Path.{◌≡◌}
use mathlib.Core.Bool.{true, false}
use mathlib.Core.List.{[], ◌∷◌, ◌++◌}
use Rattle.ft12.specs.Frame.{fixed_frame, data_frame}
use Rattle.examples.specs.Example.{Case, run_of, stated, line_at, datapoint, datapoint5, answer3, set5}
use Rattle.examples.proofs.Opened.{opened}
use Rattle.examples.proofs.ComputedExamples.{same_datapoint, same_item, same_link, tables_same, agrees, case_holds}

unfoldable pub second_set : Case
second_set =
    record {
      tables = datapoint5 0x00 0;
      line = line_at false false [];
      bytes = fixed_frame 0x40 ++ data_frame 0x73 (set5 1) ++ 0xE5 ∷ data_frame 0x53 (set5 0);
      sent = 0xE5 ∷ 0xE5 ∷ answer3 ++ 0xE5 ∷ data_frame 0xD3 (0xF0 ∷ 0x86 ∷ 0x00 ∷ 0x05 ∷ 0x00 ∷ 0x00 ∷ 0x00 ∷ []);
      tables_after = datapoint5 0x13 0;
      line_after = line_at true false (data_frame 0xD3 (0xF0 ∷ 0x86 ∷ 0x00 ∷ 0x05 ∷ 0x00 ∷ 0x00 ∷ 0x00 ∷ []));
    }

-- both sets are carried out, and both answered: the value is the second's
pub second_set_lem : run_of second_set ≡ stated second_set
second_set_lem = case_holds second_set (unfold opened run_of stated same_datapoint same_item tables_same same_link agrees second_set line_at datapoint datapoint5 answer3 set5 in tt)
