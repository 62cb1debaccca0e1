-- Document 02, item 2: "Looking up an ID has three findings from now on: absent, present but closed (bit 2 off), present
-- and open, and each service says which it treats alike." (What the checks of a request find is another thing, the
-- `Finding` of Message.)
use Rattle.std.specs.Prelude.{if◌then◌else◌, ℕ, ◌/◌, ◌%◌, Bool, true, false, List, [], ◌∷◌, eqb}
use Rattle.baos.specs.declared.datapoint.Datapoint.{Datapoint}
use Rattle.baos.specs.declared.lookup.Lookup.{Lookup}
use Rattle.baos.specs.declared.lookup.Lookup.TheVariants.{Absent, Closed, Open}

-- config flags (document 000, 3.7): bit 2, "Datapoint communication", and bit 6, "Transmit to bus"
abbrev pub communicates : ℕ → Bool
communicates flags = eqb (flags / 4 % 2) 1

abbrev pub transmits : ℕ → Bool
transmits flags = eqb (flags / 64 % 2) 1

-- the finding; the list is what `found` gives for the ID
unfoldable pub lookup_of : List Datapoint → Lookup
lookup_of [] = Absent
lookup_of (d ∷ ds) = if communicates d.flags then Open else Closed

-- its place in the paper's list of three
unfoldable pub lookup_number : Lookup → ℕ
lookup_number Absent = 1
lookup_number Closed = 2
lookup_number Open = 3

-- "Gets and bus events treat the last two alike." This is all that a bus event asks of the finding: absent is refused
-- (`found_takes`). A get looks up no single ID, and answers about those of its range that are present. A set of
-- datapoints treats no two alike (`datapoint_code`).
unfoldable pub is_present : Lookup → Bool
is_present Absent = false
is_present Closed = true
is_present Open = true
