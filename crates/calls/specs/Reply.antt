-- The reply, as the paper has it and by number, and the code's answers read as it.
use Rattle.std.specs.Prelude.{ℕ, List, [], ◌∷◌, ⊤, Result, Ok, Err}
use Rattle.calls.specs.declared.refusal.Refusal.{Refusal}
use Rattle.calls.specs.declared.refusal.Refusal.TheVariants.{TableNotWellFormed, LinkNotInRange, NoRoom, BadBusEvent}

-- what a call answers: the refusal's number, or how many bytes of the output are to be sent
pub data Reply : Type 0 where
  Refused : ℕ → Reply
  Accepted : ℕ → Reply

-- a refusal's number; or 0, and the count of bytes sent
unfoldable pub reply_numbers : Reply → List ℕ
reply_numbers (Refused n) = n ∷ []
reply_numbers (Accepted count) = 0 ∷ count ∷ []

-- what is sent of the output
unfoldable pub sent_count : Reply → ℕ
sent_count (Refused n) = 0
sent_count (Accepted count) = count

-- a refusal by its number
abbrev pub refusal_number : Refusal → ℕ
refusal_number TableNotWellFormed = 1
refusal_number LinkNotInRange = 2
refusal_number NoRoom = 3
refusal_number BadBusEvent = 4

-- what the code answers, as a reply
abbrev pub reply_of : Result ℕ Refusal → Reply
reply_of (Ok count) = Accepted count
reply_of (Err r) = Refused (refusal_number r)

-- the same with the refusal by its number, whatever the number
abbrev pub reply_by : Result ℕ ℕ → Reply
reply_by (Ok count) = Accepted count
reply_by (Err n) = Refused n

-- what a check of what is lent says, as a number: 0 where nothing is refused
abbrev pub refusal_of : Result ⊤ Refusal → ℕ
refusal_of (Ok x) = 0
refusal_of (Err r) = refusal_number r
