-- How entries are gathered: measured in one pass over the table, built in a second, each ending at the first record
-- behind the range. Inner contracts alone cite these; what an answer has to be is said by Get and Indication.
use Rattle.std.specs.Prelude.{if◌then◌else◌, ℕ, ◌+◌, ◌-◌, Bool, true, false, not, ◌&&◌, ◌||◌, length, leb, ltb, eqb}
use mathlib.Core.List.{List, [], ◌∷◌, ◌++◌, map, flatten}
use Rattle.words.specs.Words.{is_yes, two_bytes}
use Rattle.baos.specs.declared.datapoint.Datapoint.{Datapoint}
use Rattle.baos.specs.declared.item.Item.{Item}
use Rattle.baos.specs.declared.inner.Wanted.{Wanted}
use Rattle.baos.specs.Datapoint.{size_of, handed_out}
use Rattle.baos.specs.Table.{Tables}
use Rattle.baos.specs.Message.{start_of, number_of, filter_of, Finding, fine, bad, Verdict, Served}
use Rattle.baos.specs.Get.{AnswerEntry, room_for_entries, item_entry, description_entry, get_datapoint_description}
use Rattle.baos.specs.Get.{value_entry, passes, get_datapoint_value}
use Rattle.baos.specs.Indication.{Choice, reported}

-- ---- which records, and what is said of one and left of it
-- behind the range, as all records after it are
unfoldable pub is_behind : Wanted → ℕ → Bool
is_behind w id = leb w.end id

unfoldable pub is_within : Wanted → ℕ → Bool
is_within w id = leb w.start id && ltb id w.end

unfoldable pub is_wanted : Wanted → Datapoint → Bool
is_wanted w d = is_within w d.id && passes w.filter d

unfoldable pub entry_of : Wanted → Datapoint → AnswerEntry
entry_of w d = if w.values then value_entry d else description_entry d

-- A value's entry as it is written where others follow: all of the value's memory, of which the next entry overwrites
-- what is behind the value.
unfoldable pub wide_value : Datapoint → List ℕ
wide_value d = two_bytes d.id ++ d.state ∷ size_of d.typecode ∷ d.value

unfoldable pub wide_of : Wanted → Datapoint → List ℕ
wide_of w d = if w.values then wide_value d else (description_entry d).bytes

-- the record after its entry was built
unfoldable pub left_of : Wanted → Datapoint → Datapoint
left_of w d = if w.values then handed_out d else d

-- ---- the first pass
-- what it has found: how many entries, and how many bytes they take; the ID of the first that does not fit, 0 where all
-- do; and whether it has ended, so that nothing after this is looked at
pub record Gathered : Type 0 where
  pub count : ℕ
  pub size : ℕ
  pub over : ℕ
  pub ended : Bool

unfoldable pub ended : Gathered → Gathered
ended g = record { count = g.count; size = g.size; over = g.over; ended = true }

-- an entry of this ID and so many bytes is counted, or is the first that does not fit
unfoldable pub with_entry : ℕ → ℕ → Gathered → Gathered
with_entry id n g =
    if ltb room_for_entries (g.size + n) then record { count = g.count; size = g.size; over = id; ended = true }
    else record { count = g.count + 1; size = g.size + n; over = g.over; ended = g.ended }

unfoldable pub measured : Bool → Bool → AnswerEntry → Gathered → Gathered
measured behind wanted e g =
    if behind then ended g
    else if wanted then with_entry e.id (length e.bytes) g
    else g

-- one record after the other, until it has ended
unfoldable pub walked : {A : Type 0} → (A → Gathered → Gathered) → Gathered → List A → Gathered
walked step g [] = g
walked step g (x ∷ xs) = let rest = walked step (step x g) xs in if (step x g).ended then step x g else rest

abbrev pub nothing_gathered : Gathered
nothing_gathered = record { count = 0; size = 0; over = 0; ended = false }

-- ---- the second pass
-- the bytes of the entries of the wanted records
unfoldable pub built : {A : Type 0} → (A → Bool) → (A → Bool) → (A → AnswerEntry) → List A → List ℕ
built behind wanted entry [] = []
built behind wanted entry (x ∷ xs) =
    let rest = built behind wanted entry xs in
    if behind x then []
    else if wanted x then (entry x).bytes ++ rest
    else rest

-- the records, the wanted ones changed
unfoldable pub left : {A : Type 0} → (A → Bool) → (A → Bool) → (A → A) → List A → List A
left behind wanted change [] = []
left behind wanted change (x ∷ xs) =
    let rest = left behind wanted change xs in
    if behind x then x ∷ xs
    else if wanted x then change x ∷ rest
    else x ∷ rest

-- ---- a get around the two passes
-- a request for values has a filter, and is a byte longer
unfoldable pub filter_asked : Bool → List ℕ → ℕ
filter_asked values m = if values then filter_of m else 0

unfoldable pub size_asked : Bool → ℕ
size_asked values = if values then 7 else 6

-- what a get of values, or of anything else, asks for
unfoldable pub wanted_of : Bool → List ℕ → Wanted
wanted_of values m =
    record {
      start = start_of m;
      end = start_of m + number_of m;
      filter = filter_asked values m;
      values = values;
    }

-- Rows 10 and 6, known before the first pass.
unfoldable pub request_finding : Bool → List ℕ → Finding
request_finding values m =
    if not (eqb (length m) (size_asked values)) then bad (start_of m) 10
    else if eqb (number_of m) 0 || ltb 2 (filter_asked values m) then bad (start_of m) 6
    else fine

-- Rows 2 and 3, known after it.
unfoldable pub gathered_verdict : ℕ → Gathered → Verdict
gathered_verdict start g =
    if not (eqb g.over 0) then record { id = g.over; code = 3 }
    else if eqb g.count 0 then record { id = start; code = 2 }
    else record { id = 0; code = 0 }

-- how many parameter bytes there are to return
unfoldable pub parameters_present : ℕ → ℕ → ℕ → ℕ
parameters_present count start number =
    if eqb start 0 then 0
    else if ltb number (count - (start - 1)) then number
    else count - (start - 1)

-- ---- the passes over the two tables
abbrev pub datapoint_step : Wanted → Datapoint → Gathered → Gathered
datapoint_step w d g = measured (is_behind w d.id) (is_wanted w d) (entry_of w d) g

abbrev pub item_step : Wanted → Item → Gathered → Gathered
item_step w i g = measured (is_behind w i.id) (is_within w i.id) (item_entry i) g

abbrev pub datapoints_built : Wanted → List Datapoint → List ℕ
datapoints_built w ds = built (λ (d : Datapoint). is_behind w d.id) (is_wanted w) (entry_of w) ds

abbrev pub datapoints_left : Wanted → List Datapoint → List Datapoint
datapoints_left w ds = left (λ (d : Datapoint). is_behind w d.id) (is_wanted w) (left_of w) ds

abbrev pub items_built : Wanted → List Item → List ℕ
items_built w is = built (λ (i : Item). is_behind w i.id) (λ (i : Item). is_within w i.id) item_entry is

-- the two gets of datapoints
unfoldable pub get_datapoints : Bool → Tables → List ℕ → Served
get_datapoints values t m = if values then get_datapoint_value t m else get_datapoint_description t m

-- ---- an indication
-- the bytes of the entries that it carries
abbrev pub entries_told : List Choice → List ℕ
entries_told cs = flatten (map (λ (e : AnswerEntry). e.bytes) (map value_entry (reported cs)))

-- where the first marked datapoint stands; their number where none is marked
unfoldable pub first_marked : List Datapoint → ℕ
first_marked [] = 0
first_marked (d ∷ ds) = if is_yes d.mark then 0 else 1 + first_marked ds
