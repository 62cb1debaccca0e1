-- The gets: GetServerItem, GetDatapointDescription, GetDescriptionString, GetDatapointValue, GetParameterByte.
use Rattle.std.specs.Prelude.{if◌then◌else◌, ℕ, suc, ◌+◌, ◌-◌, Bool, true, false, not, ◌&&◌, ◌||◌, length, get_or, leb, ltb, eqb}
use mathlib.Core.List.{List, [], ◌∷◌, ◌++◌, map, flatten}
use Rattle.words.specs.Words.{two_bytes, keep, is_empty}
use Rattle.ft12.specs.Frame.{longest_message}
use Rattle.baos.specs.Text.{TextLists, text_of}
use Rattle.baos.specs.declared.datapoint.Datapoint.{Datapoint}
use Rattle.baos.specs.declared.item.Item.{Item}
use Rattle.baos.specs.Datapoint.{size_of, value_of, is_valid, is_updated, handed_out}
use Rattle.baos.specs.Item.{bytes_of}
use Rattle.baos.specs.Table.{Tables, with_datapoints}
use Rattle.baos.specs.Message.{sub_service, start_of, number_of, filter_of, Finding, fine, bad, Served, served}

-- an entry of an answer: whose ID it is, and its bytes
pub record AnswerEntry : Type 0 where
  pub id : ℕ
  pub bytes : List ℕ

-- "The range is start to start + number - 1 worked out without wrapping; IDs not present are skipped."
unfoldable pub in_request : List ℕ → ℕ → Bool
in_request m id = leb (start_of m) id && ltb id (start_of m + number_of m)

-- the ID of the first entry that does not fit in the room left, or none
unfoldable pub overflow : ℕ → List AnswerEntry → List ℕ
overflow room [] = []
overflow room (e ∷ es) =
    let rest = overflow (room - length e.bytes) es in
    if ltb room (length e.bytes) then e.id ∷ [] else rest

-- what the longest message has left behind the six bytes in front of the entries
abbrev pub room_for_entries : ℕ
room_for_entries = longest_message - 6

-- main service, sub-service, start, number of entries, entries
unfoldable pub listing : ℕ → ℕ → List AnswerEntry → List ℕ
listing sub start es =
    0xF0 ∷ sub ∷ two_bytes start ++ two_bytes (length es) ++ flatten (map (λ (e : AnswerEntry). e.bytes) es)

-- Rows 10, 6, 2 and 3: `size` is the length of such a request, `badFilter` says that its filter is above 2, `es` are
-- the entries to return.
unfoldable pub get_finding : ℕ → Bool → List ℕ → List AnswerEntry → Finding
get_finding size badFilter m es =
    if not (eqb (length m) size) then bad (start_of m) 10
    else if eqb (number_of m) 0 || badFilter then bad (start_of m) 6
    else if is_empty es then bad (start_of m) 2
    else if is_empty (overflow room_for_entries es) then fine
    else bad (get_or (overflow room_for_entries es) 0 0) 3

-- "Positive get answer: start echoed, count, entries in rising ID."
unfoldable pub getting : ℕ → Bool → List AnswerEntry → Tables → Tables → List ℕ → Served
getting size badFilter es t t' m =
    served (get_finding size badFilter m es) m (listing (sub_service m + 0x80) (start_of m) es) t t'

unfoldable pub item_entry : Item → AnswerEntry
item_entry i = record { id = i.id; bytes = two_bytes i.id ++ i.size ∷ bytes_of i }

unfoldable pub get_server_item : Tables → List ℕ → Served
get_server_item t m = getting 6 false (map item_entry (keep (λ (i : Item). in_request m i.id) t.items)) t t m

unfoldable pub description_entry : Datapoint → AnswerEntry
description_entry d = record { id = d.id; bytes = two_bytes d.id ++ d.typecode ∷ d.flags ∷ d.dpt ∷ [] }

unfoldable pub get_datapoint_description : Tables → List ℕ → Served
get_datapoint_description t m =
    getting 6 false (map description_entry (keep (λ (d : Datapoint). in_request m d.id) t.datapoints)) t t m

-- the string of an ID: "per string a length of two bytes and the text" (document 02, item 1)
unfoldable pub string_of : ℕ → TextLists → List ℕ
string_of id ts = two_bytes (length (text_of id ts)) ++ text_of id ts

unfoldable pub string_entry : TextLists → Datapoint → AnswerEntry
string_entry ts d = record { id = d.id; bytes = string_of d.id ts }

-- "For each datapoint present in the range": an empty text is an entry too
unfoldable pub get_description_string : Tables → List ℕ → Served
get_description_string t m =
    getting 6 false
    (map (string_entry t.texts) (keep (λ (d : Datapoint). in_request m d.id) t.datapoints)) t t m

-- the state byte is shown as it was
unfoldable pub value_entry : Datapoint → AnswerEntry
value_entry d = record { id = d.id; bytes = two_bytes d.id ++ d.state ∷ size_of d.typecode ∷ value_of d }

-- "Filter 0 all, 1 valid bit set, 2 updated bit set."
unfoldable pub passes : ℕ → Datapoint → Bool
passes filter d =
    if eqb filter 0 then true
    else if eqb filter 1 then is_valid d.state
    else if eqb filter 2 then is_updated d.state
    else false

unfoldable pub asked : List ℕ → Datapoint → Bool
asked m d = in_request m d.id && passes (filter_of m) d

-- the datapoints that were asked for, handed out; all others as they are
unfoldable pub handing_out : List ℕ → Tables → Tables
handing_out m t = with_datapoints (map (λ (d : Datapoint). if asked m d then handed_out d else d) t.datapoints) t

unfoldable pub get_datapoint_value : Tables → List ℕ → Served
get_datapoint_value t m =
    getting 7 (ltb 2 (filter_of m)) (map value_entry (keep (asked m) t.datapoints)) t (handing_out m t) m

-- "parameter bytes [..]; the first has index 1": those from index n on
unfoldable pub parameter_entries : ℕ → List ℕ → List AnswerEntry
parameter_entries n [] = []
parameter_entries n (b ∷ bs) = record { id = n; bytes = b ∷ [] } ∷ parameter_entries (suc n) bs

-- "sub 07: start index 0 (build)" is code 2: there is nothing to return
unfoldable pub get_parameter_byte : Tables → List ℕ → Served
get_parameter_byte t m =
    getting 6 false
    (if eqb (start_of m) 0 then [] else keep (λ (e : AnswerEntry). in_request m e.id) (parameter_entries 1 t.parameters))
    t t m
