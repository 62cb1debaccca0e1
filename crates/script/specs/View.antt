-- What the definitions see of a line that the program holds.
use Rattle.std.specs.Prelude.{ℕ, ◌-◌, List, ◌++◌, length, replicate}
use Rattle.script.specs.Line.{Line}
use Rattle.script.specs.declared.line.Line.{Line as Held}

-- n places, of which the first hold xs, and the others a blank
abbrev pub in_places : {A : Type 0} → ℕ → A → List A → List A
in_places n blank xs = xs ++ replicate (n - length xs) blank

abbrev pub line_of : Held → Line
line_of l = record { letter = l.letter; bytes = l.bytes; size = l.size }
