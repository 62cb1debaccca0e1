-- What is given for an ID, as the paper has it, and the code's answers read as it.
use Rattle.std.specs.Prelude.{ℕ, Result, Ok, Err}
use Rattle.dpt.specs.declared.reading.Reading.{Reading}
use Rattle.dpt.specs.declared.reading.ReadingRefusal.{ReadingRefusal}
use Rattle.dpt.specs.declared.reading.ReadingRefusal.TheVariants.{TableNotWellFormed, AbsentId}

-- the refusal's number, or the reading of the ID's datapoint
pub data ReadingReply : Type 0 where
  Refused : ℕ → ReadingReply
  Given : Reading → ReadingReply

-- a refusal by its number
abbrev pub reading_refusal_number : ReadingRefusal → ℕ
reading_refusal_number TableNotWellFormed = 1
reading_refusal_number AbsentId = 4

-- what the code gives, as a reply
abbrev pub reading_reply_of : Result Reading ReadingRefusal → ReadingReply
reading_reply_of (Ok r) = Given r
reading_reply_of (Err e) = Refused (reading_refusal_number e)

-- the same with the refusal by its number, whatever the number
abbrev pub reading_reply_by : Result Reading ℕ → ReadingReply
reading_reply_by (Ok r) = Given r
reading_reply_by (Err n) = Refused n
