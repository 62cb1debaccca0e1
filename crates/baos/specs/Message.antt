-- A request and an answer: their fields, and what the checks of a request find.
use Rattle.std.specs.Prelude.{ℕ, ◌+◌, List, [], ◌∷◌, ◌++◌, get_or, ⊤, Result, Ok, Err}
use Rattle.words.specs.Words.{two_bytes, of_two_bytes}
use Rattle.baos.specs.declared.code.Code.{Code}
use Rattle.baos.specs.declared.code.Code.TheVariants.{NoElementFound, BufferTooSmall, ItemNotWritable}
use Rattle.baos.specs.declared.code.Code.TheVariants.{ServiceNotSupported, BadServiceParameter, BadId}
use Rattle.baos.specs.declared.code.Code.TheVariants.{BadCommandOrValue, BadLength, MessageInconsistent}
use Rattle.baos.specs.declared.inner.Fault.{Fault}
use Rattle.baos.specs.Table.{Tables}

-- MainService, SubService, StartItem or StartDatapoint or StartByte, NumberOf.., Filter
unfoldable pub main_service : List ℕ → ℕ
main_service m = get_or m 0 0

unfoldable pub sub_service : List ℕ → ℕ
sub_service m = get_or m 1 0

unfoldable pub start_of : List ℕ → ℕ
start_of m = of_two_bytes (get_or m 2 0) (get_or m 3 0)

unfoldable pub number_of : List ℕ → ℕ
number_of m = of_two_bytes (get_or m 4 0) (get_or m 5 0)

unfoldable pub filter_of : List ℕ → ℕ
filter_of m = get_or m 6 0

-- "an error answer is F0, sub + 80, an ID, 00 00, code (7 bytes)"; with code 0 it is the positive answer of a set
unfoldable pub coded : List ℕ → ℕ → ℕ → List ℕ
coded m id code = 0xF0 ∷ (sub_service m + 0x80) ∷ two_bytes id ++ 0 ∷ 0 ∷ code ∷ []

-- what the checks of a request find: nothing wrong, or an ID and a code
pub data Finding : Type 0 where
  fine : Finding
  bad : ℕ → ℕ → Finding

-- a finding in two numbers: code 0 where nothing is wrong
pub record Verdict : Type 0 where
  pub id : ℕ
  pub code : ℕ

unfoldable pub verdict_of : Finding → Verdict
verdict_of fine = record { id = 0; code = 0 }
verdict_of (bad id code) = record { id = id; code = code }

-- an error code by its number
unfoldable pub code_number : Code → ℕ
code_number NoElementFound = 2
code_number BufferTooSmall = 3
code_number ItemNotWritable = 4
code_number ServiceNotSupported = 5
code_number BadServiceParameter = 6
code_number BadId = 7
code_number BadCommandOrValue = 8
code_number BadLength = 9
code_number MessageInconsistent = 10

-- what a check of a request says, as a finding; and what a check of one entry says, as a code: 0 where nothing is wrong
unfoldable pub finding_of : Result ⊤ Fault → Finding
finding_of (Ok x) = fine
finding_of (Err f) = bad f.id (code_number f.code)

unfoldable pub code_of : Result ⊤ Code → ℕ
code_of (Ok x) = 0
code_of (Err c) = code_number c

-- what is said back to the host, empty where nothing is, and the tables after it
pub record Served : Type 0 where
  pub says : List ℕ
  pub after : Tables

unfoldable pub answer_of : Finding → List ℕ → List ℕ → List ℕ
answer_of fine m answer = answer
answer_of (bad id code) m answer = coded m id code

unfoldable pub after_of : Finding → Tables → Tables → Tables
after_of fine t t' = t'
after_of (bad id code) t t' = t

-- where nothing is wrong: the answer, and the tables t'; else the error answer, and the tables t as they were:
-- "Nothing is set then."
unfoldable pub served : Finding → List ℕ → List ℕ → Tables → Tables → Served
served f m answer t t' = record { says = answer_of f m answer; after = after_of f t t' }
