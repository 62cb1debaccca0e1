-- Readings, compared by their numbers.
use Rattle.std.proofs.Common.{◌≡◌, ℕ, not, T}
use lib.Ieee.{is_nan}
use Rattle.dpt.specs.Reply.{ReadingReply}
use Rattle.dpt.specs.Numbers.{reading_reply_numbers}
use Rattle.dpt.proofs.NumberLaws.{reply_number_lem}
use Rattle.cases.specs.Bench.{Bench}
use Rattle.cases.specs.Read.{read_in}

-- no floating number that is given is one that is not a number
pub given_number : (b : Bench) (id : ℕ) (r : ReadingReply) → r ≡ read_in b id → T (not (is_nan (reading_reply_numbers r).value))
unfolding read_in
given_number b id r e = rw e (reply_number_lem id _)
