-- Readings and refusals as the numbers that firmware gets.
use Rattle.std.specs.Prelude.{ℕ, false, ℤ, pos, neg_ℤ, Float}
use Rattle.std.specs.Float.{fin}
use Rattle.words.specs.Words.{yes_or_no}
use Rattle.dpt.specs.declared.reading.Reading.{Reading}
use Rattle.dpt.specs.declared.reading.Reading.TheVariants.{Switch, Count, TwoOctet, Single, Unreadable}
use Rattle.dpt.specs.Reply.{ReadingReply, Refused, Given}
use Rattle.dpt.specs.declared.reading.ReadingNumbers.{ReadingNumbers}

abbrev pub zero_float : Float
zero_float = fin false 0 (pos 0)

abbrev pub three_numbers : ℤ → ℕ → Float → ReadingNumbers
three_numbers number whole value = record { number = number; whole = whole; value = value }

-- the case's place in the paper's list, and what it carries
unfoldable pub reading_numbers : Reading → ReadingNumbers
reading_numbers (Switch on) = three_numbers (pos 1) (yes_or_no on) zero_float
reading_numbers (Count n) = three_numbers (pos 2) n zero_float
reading_numbers (TwoOctet x) = three_numbers (pos 3) 0 x
reading_numbers (Single x) = three_numbers (pos 4) 0 x
reading_numbers Unreadable = three_numbers (pos 5) 0 zero_float

-- or minus the refusal's number
unfoldable pub reading_reply_numbers : ReadingReply → ReadingNumbers
reading_reply_numbers (Refused n) = three_numbers (neg_ℤ (pos n)) 0 zero_float
reading_reply_numbers (Given r) = reading_numbers r
