-- The sets: SetServerItem, SetDatapointValue, SetParameterByte.
use Rattle.std.specs.Prelude.{if◌then◌else◌, ℕ, zero, suc, ◌+◌, ◌-◌, Bool, true, false, not, ◌&&◌, ◌||◌, List, [], ◌∷◌, length, get_or, take, drop, leb, ltb, eqb}
use Rattle.words.specs.Words.{is_yes, of_two_bytes, keep, is_empty, every, put}
use Rattle.baos.specs.declared.datapoint.Datapoint.{Datapoint}
use Rattle.baos.specs.declared.item.Item.{Item}
use Rattle.baos.specs.declared.lookup.Lookup.{Lookup}
use Rattle.baos.specs.declared.lookup.Lookup.TheVariants.{Absent, Closed, Open}
use Rattle.baos.specs.Datapoint.{datapoint_id, zero_datapoint, size_of, unused_bits_ok, is_send, commanded}
use Rattle.baos.specs.Item.{item_id, with_bytes}
use Rattle.baos.specs.Lookup.{transmits, lookup_of, is_present}
use Rattle.baos.specs.Table.{Tables, with_datapoints, with_items, with_parameters, found, changed_at}
use Rattle.baos.specs.Message.{start_of, number_of, coded, Finding, fine, bad, Served, served}

-- an entry of a request to set items or datapoints: an ID, a command (an item's entry has none: 0) and the bytes sent
pub record SetEntry : Type 0 where
  pub id : ℕ
  pub command : ℕ
  pub value : List ℕ

-- the first entry of the bytes s: ID, length, data
unfoldable pub first_item_entry : List ℕ → SetEntry
first_item_entry s =
    record {
      id = of_two_bytes (get_or s 0 0) (get_or s 1 0);
      command = 0;
      value = take (get_or s 2 0) (drop 3 s);
    }

-- the first entry of the bytes s: ID, command, length, value
unfoldable pub first_datapoint_entry : List ℕ → SetEntry
first_datapoint_entry s =
    record {
      id = of_two_bytes (get_or s 0 0) (get_or s 1 0);
      command = get_or s 2 0;
      value = take (get_or s 3 0) (drop 4 s);
    }

-- how many bytes the first entry takes: a head of h bytes, the last of which is the length, and so many more
unfoldable pub span : ℕ → List ℕ → ℕ
span h s = h + get_or s (h - 1) 0

-- n entries fill the bytes s exactly
unfoldable pub fills : ℕ → ℕ → List ℕ → Bool
fills h zero s = is_empty s
fills h (suc n) s =
    elim (leb h (length s) && leb (span h s) (length s)) [ true ↦ fills h n (drop (span h s) s) | false ↦ false ]

-- the first n entries of the bytes s
unfoldable pub set_entries : (List ℕ → SetEntry) → ℕ → ℕ → List ℕ → List SetEntry
set_entries first h zero s = []
set_entries first h (suc n) s = first s ∷ set_entries first h n (drop (span h s) s)

-- Rows 4 and 9: the code of an entry for this item, 0 where nothing is wrong.
unfoldable pub item_code : Item → List ℕ → ℕ
item_code i value =
    if not (is_yes i.writable) then 4
    else if not (eqb (length value) i.size) then 9
    else 0

-- The command check: "commands 2 and 3 need config bits 2 and 6, command 4 needs bit 2; others as before" (document 02,
-- item 2), which leaves a closed datapoint 0 and 1. "command above 5, reserved bits included" is not taken, and "command
-- 5 gives code 8, at the command check" (item 9).
unfoldable pub takes_command : Lookup → ℕ → ℕ → Bool
takes_command Absent flags c = false
takes_command Closed flags c = leb c 1
takes_command Open flags c = if is_send c then transmits flags else leb c 4

-- Rows 7, 8, 9 and 8: the code of an entry, by what looking up its ID found and by the datapoint found. "set entry: ID
-- absent"; "a command whose needed bits are off gives code 8, placed with the command check, before code 9"; "datapoint
-- length neither 0 nor the type's; or 0 with command 1 or 3"; "a value whose unused bits are set".
unfoldable pub datapoint_code : Lookup → Datapoint → ℕ → List ℕ → ℕ
datapoint_code lookup d command value =
    if not (is_present lookup) then 7
    else if not (takes_command lookup d.flags command) then 8
    else if is_empty value then (if eqb command 1 || eqb command 3 then 9 else 0)
    else if not (eqb (length value) (size_of d.typecode)) then 9
    else if not (unused_bits_ok d.typecode value) then 8
    else 0

-- An entry judged: the list is what `found` gives for its ID. For an item row 7, and then its own rows.
unfoldable pub judged_item : List Item → SetEntry → ℕ
judged_item [] e = 7
judged_item (i ∷ is) e = item_code i e.value

unfoldable pub judged_datapoint : List Datapoint → SetEntry → ℕ
judged_datapoint ds e = datapoint_code (lookup_of ds) (get_or ds 0 zero_datapoint) e.command e.value

-- "Entries are judged one after the other, each through rows 7 to 8; the first bad one decides."
unfoldable pub first_bad : (SetEntry → ℕ) → List SetEntry → Finding
first_bad judge [] = fine
first_bad judge (e ∷ es) = let rest = first_bad judge es in if eqb (judge e) 0 then rest else bad e.id (judge e)

-- Rows 10 and 6, then those of the entries, which have heads of h bytes.
unfoldable pub set_finding : ℕ → (List ℕ → SetEntry) → (SetEntry → ℕ) → List ℕ → Finding
set_finding h first judge m =
    if not (fills h (number_of m) (drop 6 m)) then bad (start_of m) 10
    else if eqb (number_of m) 0 then bad (start_of m) 6
    else first_bad judge (set_entries first h (number_of m) (drop 6 m))

-- "Otherwise entries apply in order; an ID given twice takes both in turn."
unfoldable pub applied : {A : Type 0} → (A → ℕ) → (SetEntry → A → A) → List SetEntry → List A → List A
applied id_of f [] xs = xs
applied id_of f (e ∷ es) xs = applied id_of f es (changed_at id_of e.id (f e) xs)

-- "Positive set answer: start echoed, 00 00, 00."
unfoldable pub setting : ℕ → (List ℕ → SetEntry) → (SetEntry → ℕ) → (List SetEntry → Tables) → Tables → List ℕ → Served
setting h first judge done t m =
    served (set_finding h first judge m) m (coded m (start_of m) 0) t (done (set_entries first h (number_of m) (drop 6 m)))

unfoldable pub set_item : SetEntry → Item → Item
set_item e i = with_bytes e.value i

unfoldable pub set_server_item : Tables → List ℕ → Served
set_server_item t m =
    setting 3 first_item_entry (λ e. judged_item (found item_id e.id t.items) e)
    (λ es. with_items (applied item_id set_item es t.items) t) t m

unfoldable pub set_datapoint : SetEntry → Datapoint → Datapoint
set_datapoint e d = commanded e.command e.value d

unfoldable pub set_datapoint_value : Tables → List ℕ → Served
set_datapoint_value t m =
    setting 4 first_datapoint_entry (λ e. judged_datapoint (found datapoint_id e.id t.datapoints) e)
    (λ es. with_datapoints (applied datapoint_id set_datapoint es t.datapoints) t) t m

-- so many indices, from `start` on: as for gets, "The range is start to start + number - 1 worked out without wrapping"
unfoldable pub indices : ℕ → ℕ → List ℕ
indices start zero = []
indices start (suc n) = start ∷ indices (suc start) n

-- those that are not in a table of so many bytes, of which "the first has index 1"
unfoldable pub absent_indices : ℕ → ℕ → ℕ → List ℕ
absent_indices count start number = keep (λ i. eqb i 0 || ltb count i) (indices start number)

-- "7 with the first index not in the table" (document 02, item 5)
unfoldable pub absent_finding : List ℕ → Finding
absent_finding [] = fine
absent_finding (i ∷ is) = bad i 7

-- Rows 10, 6 and 7, for a table of so many bytes. An entry is one byte here, and has no head. Row 6 is also met by
-- 000's request to flush what was written (3.17: start 0, number 0, no byte).
unfoldable pub set_parameter_finding : ℕ → List ℕ → Finding
set_parameter_finding count m =
    if not (eqb (length m) (6 + number_of m)) then bad (start_of m) 10
    else if eqb (number_of m) 0 then bad (start_of m) 6
    else absent_finding (absent_indices count (start_of m) (number_of m))

-- "All or nothing as with items"; "Positive set answer: start echoed, 00 00, 00." The byte of index 1 is the table's
-- first.
unfoldable pub set_parameter_byte : Tables → List ℕ → Served
set_parameter_byte t m =
    served (set_parameter_finding (length t.parameters) m) m (coded m (start_of m) 0) t
    (with_parameters (put t.parameters (start_of m - 1) (drop 6 m)) t)

-- no entry has more bytes of value than a record has room for
unfoldable pub all_short : ℕ → List SetEntry → Bool
all_short most es = every (λ e. leb (length e.value) most) es

-- Rows 10 and 6, known before any entry is judged.
unfoldable pub filled_finding : ℕ → List ℕ → Finding
filled_finding h m =
    if not (fills h (number_of m) (drop 6 m)) then bad (start_of m) 10
    else if eqb (number_of m) 0 then bad (start_of m) 6
    else fine
