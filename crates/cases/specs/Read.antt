-- Readings on the bench, by the numbers that firmware gets.
use Rattle.std.specs.Prelude.{◌≡◌, ℕ, ◌⊎◌, List, take, pos, ◌-ℤ◌, slice_index, to_bits}
use Rattle.std.specs.Float.{binary32}
use Rattle.dpt.specs.Reply.{ReadingReply}
use Rattle.dpt.specs.declared.reading.ReadingNumbers.{ReadingNumbers}
use Rattle.dpt.specs.Single.{of_four_bytes}
use Rattle.dpt.specs.Reading.{reading_for}
use Rattle.dpt.specs.Numbers.{reading_reply_numbers}
use Rattle.script.specs.Record.{raised}
use Rattle.cases.specs.Bench.{Bench}

-- the case and no refusal, or minus the refusal and no case; the whole number; the bits of the floating one
pub record AreNumbers (n : ReadingNumbers) (case refusal whole bits : ℕ) : Type 0 where
  pub one_of_them : (case ≡ 0) ⊎ (refusal ≡ 0)
  pub number_is : n.number ≡ pos case -ℤ pos refusal
  pub whole_is : n.whole ≡ whole
  pub bits_are : to_bits binary32 n.value ≡ bits

-- in the table as far as its count goes
unfoldable pub read_in : Bench → ℕ → ReadingReply
read_in b id = reading_for id (take b.datapointcount b.datapoints)

-- what is given for the first two bytes as an ID has the numbers that stand behind them
abbrev pub ReadsAs : Bench → List ℕ → Type 0
ReadsAs b a =
    AreNumbers (reading_reply_numbers (read_in b (raised a 0 0))) (slice_index a 2) (slice_index a 3) (slice_index a 4)
    (of_four_bytes (slice_index a 5) (slice_index a 6) (slice_index a 7) (slice_index a 8))
