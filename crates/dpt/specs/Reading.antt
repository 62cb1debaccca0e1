-- Which reading a datapoint has, and what is given for an ID (document 02, item 3).
use Rattle.std.specs.Prelude.{if◌then◌else◌, ℕ, Bool, not, ◌&&◌, List, [], ◌∷◌, get_or, eqb, Float}
use Rattle.words.specs.Words.{is_yes, of_two_bytes}
use Rattle.baos.specs.declared.datapoint.Datapoint.{Datapoint}
use Rattle.baos.specs.Datapoint.{datapoint_id, datapoint_ok, is_valid}
use Rattle.baos.specs.Table.{table_ok, found}
use Rattle.dpt.specs.declared.reading.Reading.{Reading}
use Rattle.dpt.specs.declared.reading.Reading.TheVariants.{Switch, Count, TwoOctet, Single, Unreadable}
use Rattle.dpt.specs.Reply.{ReadingReply, Refused, Given}
use Rattle.dpt.specs.TwoOctet.{two_octet}
use Rattle.dpt.specs.Single.{of_four_bytes, single, is_finite}

-- "7FFF is unreadable"
unfoldable pub two_octet_reading : ℕ → ℕ → Reading
two_octet_reading high low = if eqb (of_two_bytes high low) 0x7FFF then Unreadable else TwoOctet (two_octet high low)

-- "also a DPT 14 that is infinite or not a number"
unfoldable pub single_reading : Float → Reading
single_reading x = if is_finite x then Single x else Unreadable

-- both the DPT and the type code
abbrev pub is_of : ℕ → ℕ → Datapoint → Bool
is_of dpt typecode d = eqb d.dpt dpt && eqb d.typecode typecode

-- octet i of the value, the first being octet 0
abbrev pub octet : ℕ → Datapoint → ℕ
octet i d = get_or d.value i 0

-- "a switch state (DPT 1, type 0), a count (DPT 5, type 7), a two-octet value (DPT 9, type 8), a single (DPT 14, type
-- 10), or unreadable"; "any other DPT and type, and a datapoint whose valid bit is off" are unreadable
unfoldable pub reading_of : Datapoint → Reading
reading_of d =
    if not (is_valid d.state) then Unreadable
    else if is_of 1 0 d then Switch (is_yes (octet 0 d))
    else if is_of 5 7 d then Count (octet 0 d)
    else if is_of 9 8 d then two_octet_reading (octet 0 d) (octet 1 d)
    else if is_of 14 10 d then single_reading (single (of_four_bytes (octet 0 d) (octet 1 d) (octet 2 d) (octet 3 d)))
    else Unreadable

-- "4 for an ID that is absent". A reading treats closed and open datapoints alike (item 2): it does not look at the
-- config flags
unfoldable pub reply_of : List Datapoint → ReadingReply
reply_of [] = Refused 4
reply_of (d ∷ ds) = Given (reading_of d)

-- "Refusals: call 1 as before, then 4 for an ID that is absent." What is lent is the table of datapoints, and so it is
-- what refusal 1 judges.
unfoldable pub reading_for : ℕ → List Datapoint → ReadingReply
reading_for id ds =
    if table_ok 1000 datapoint_id datapoint_ok ds then reply_of (found datapoint_id id ds) else Refused 1
