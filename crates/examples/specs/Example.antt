-- The examples of document 01 that are marked P, and three for item 1 of document 02: one list, and what it means that
-- one of them holds.
use Rattle.std.specs.Prelude.{if◌then◌else◌, ℕ, zero, suc, ◌+◌, ◌≤◌, ◌≡◌, Bool, true, false, List, [], ◌∷◌, ◌++◌, map, length, drop, replicate, T, ltb}
use Rattle.words.specs.Words.{is_empty, pad, keep, every}
use Rattle.ft12.specs.Frame.{data_frame}
use Rattle.ft12.specs.Record.{Line, link_of}
use Rattle.baos.specs.declared.datapoint.Datapoint.{Datapoint}
use Rattle.baos.specs.declared.item.Item.{Item}
use Rattle.baos.specs.Datapoint.{datapoint_id}
use Rattle.baos.specs.Item.{item_id}
use Rattle.baos.specs.TextList.{ListEntry, list_bytes}
use Rattle.baos.specs.Text.{text_lists}
use Rattle.baos.specs.Table.{Tables, datapoints_only, items_only, parameters_only, datapoints_with_texts, well_formed, found}
use Rattle.baos.specs.Message.{main_service, sub_service, start_of, number_of, filter_of, coded}
use Rattle.baos.specs.Get.{AnswerEntry, listing, item_entry, description_entry, string_entry, value_entry, passes}
use Rattle.baos.specs.Set.{fills, first_datapoint_entry}
use Rattle.baos.specs.Service.{carried_out}
use Rattle.calls.specs.declared.event.Event.TheVariants.{HostByte}
use Rattle.demands.specs.Run.{Ran, run}

-- ---- the computed ones: host bytes from tables and a line, what is sent, and tables and line after them
pub record Case : Type 0 where
  pub tables : Tables
  pub line : Line
  pub bytes : List ℕ
  pub sent : List ℕ
  pub tables_after : Tables
  pub line_after : Line

-- each byte is one call, with the least output room that is not refused
unfoldable pub run_of : Case → Ran
run_of c = run (replicate 262 0) (map HostByte c.bytes) c.tables (link_of c.line)

unfoldable pub stated : Case → Ran
stated c = record { sent = c.sent; tables = c.tables_after; link = link_of c.line_after }

-- the receiver at a frame start; expected bit, send bit, outstanding frame
unfoldable pub line_at : Bool → Bool → List ℕ → Line
line_at expected send outstanding =
    record {
      gathered = [];
      dropping = false;
      expected = expected;
      send = send;
      outstanding = outstanding;
      resends = 0;
    }

-- "unless said, nothing is outstanding and both bits are odd": a request, and the answer that is then outstanding
unfoldable pub exchange : Tables → List ℕ → List ℕ → Tables → Case
exchange t m answer t' =
    record {
      tables = t;
      line = line_at true true [];
      bytes = data_frame 0x73 m;
      sent = 0xE5 ∷ data_frame 0xF3 answer;
      tables_after = t';
      line_after = line_at false true (data_frame 0xF3 answer);
    }

-- 1: item 1 = 00 00 C5 07 00 02
unfoldable pub item1 : Tables
item1 =
    items_only (record { id = 1; size = 6; writable = 0; bytes = pad 16 (0x00 ∷ 0x00 ∷ 0xC5 ∷ 0x07 ∷ 0x00 ∷ 0x02 ∷ []) }
    ∷ [])

unfoldable pub ask1 : List ℕ
ask1 = 0x68 ∷ 0x07 ∷ 0x07 ∷ 0x68 ∷ 0x73 ∷ 0xF0 ∷ 0x01 ∷ 0x00 ∷ 0x01 ∷ 0x00 ∷ 0x01 ∷ 0x66 ∷ 0x16 ∷ []

unfoldable pub answer1 : List ℕ
answer1 = 0x68 ∷ 0x10 ∷ 0x10 ∷ 0x68 ∷ 0xF3 ∷ 0xF0 ∷ 0x81 ∷ 0x00 ∷ 0x01 ∷ 0x00 ∷ 0x01 ∷ 0x00 ∷ 0x01 ∷ 0x06 ∷ 0x00 ∷ 0x00
    ∷ 0xC5 ∷ 0x07 ∷ 0x00 ∷ 0x02 ∷ 0x3B ∷ 0x16 ∷ []

unfoldable pub case1 : Case
case1 =
    record {
      tables = item1;
      line = line_at true true [];
      bytes = ask1;
      sent = 0xE5 ∷ answer1;
      tables_after = item1;
      line_after = line_at false true answer1;
    }

-- 2: the same frame again; and with 53 and 46, when even is expected and nothing outstanding
unfoldable pub case2 : Case
case2 =
    record {
      tables = item1;
      line = line_at false true answer1;
      bytes = ask1;
      sent = 0xE5 ∷ [];
      tables_after = item1;
      line_after = line_at false true answer1;
    }

unfoldable pub ask1even : List ℕ
ask1even = 0x68 ∷ 0x07 ∷ 0x07 ∷ 0x68 ∷ 0x53 ∷ 0xF0 ∷ 0x01 ∷ 0x00 ∷ 0x01 ∷ 0x00 ∷ 0x01 ∷ 0x46 ∷ 0x16 ∷ []

unfoldable pub case2even : Case
case2even =
    record {
      tables = item1;
      line = line_at false true [];
      bytes = ask1even;
      sent = 0xE5 ∷ answer1;
      tables_after = item1;
      line_after = line_at true true answer1;
    }

-- 3 and 4: datapoint 5 of type 0. "Case 3 of document 01 has both bits set from now on" (document 02, item 2), config
-- bits 2 and 6, and 4 is "the same"; the datapoints of the other examples have them set too.
unfoldable pub datapoint : ℕ → ℕ → ℕ → List ℕ → Datapoint
datapoint id typecode state value =
    record {
      id = id;
      typecode = typecode;
      flags = 0x44;
      dpt = 1;
      state = state;
      value = pad 14 value;
      mark = 0;
    }

unfoldable pub datapoint5 : ℕ → ℕ → Tables
datapoint5 state value = datapoints_only (datapoint 5 0 state (value ∷ []) ∷ [])

unfoldable pub answer3 : List ℕ
answer3 = 0x68 ∷ 0x08 ∷ 0x08 ∷ 0x68 ∷ 0xF3 ∷ 0xF0 ∷ 0x86 ∷ 0x00 ∷ 0x05 ∷ 0x00 ∷ 0x00 ∷ 0x00 ∷ 0x6E ∷ 0x16 ∷ []

unfoldable pub set5 : ℕ → List ℕ
set5 value = 0xF0 ∷ 0x06 ∷ 0x00 ∷ 0x05 ∷ 0x00 ∷ 0x01 ∷ 0x00 ∷ 0x05 ∷ 0x03 ∷ 0x01 ∷ value ∷ []

unfoldable pub case3 : Case
case3 =
    record {
      tables = datapoint5 0x00 0;
      line = line_at true true [];
      bytes = data_frame 0x73 (set5 1);
      sent = 0xE5 ∷ answer3;
      tables_after = datapoint5 0x13 1;
      line_after = line_at false true answer3;
    }

unfoldable pub case4 : Case
case4 = exchange (datapoint5 0x00 0) (set5 2) (0xF0 ∷ 0x86 ∷ 0x00 ∷ 0x05 ∷ 0x00 ∷ 0x00 ∷ 0x08 ∷ []) (datapoint5 0x00 0)

-- 5: n one-byte values, IDs from 1 on, and the entries of an answer about them
unfoldable pub one_byte_from : ℕ → ℕ → List Datapoint
one_byte_from id zero = []
one_byte_from id (suc n) = datapoint id 7 0x10 (id ∷ []) ∷ one_byte_from (suc id) n

unfoldable pub one_bytes : ℕ → Tables
one_bytes n = datapoints_only (one_byte_from 1 n)

unfoldable pub entries_from : ℕ → ℕ → List ℕ
entries_from id zero = []
entries_from id (suc n) = 0x00 ∷ id ∷ 0x10 ∷ 0x01 ∷ id ∷ entries_from (suc id) n

unfoldable pub case5 : Case
case5 = exchange (one_bytes 49) (0xF0 ∷ 0x05 ∷ 0x00 ∷ 0x01 ∷ 0x00 ∷ 49 ∷ 0x00 ∷ [])
    (0xF0 ∷ 0x85 ∷ 0x00 ∷ 0x01 ∷ 0x00 ∷ 49 ∷ entries_from 1 49) (one_bytes 49)

unfoldable pub case5more : Case
case5more = exchange (one_bytes 50) (0xF0 ∷ 0x05 ∷ 0x00 ∷ 0x01 ∷ 0x00 ∷ 50 ∷ 0x00 ∷ [])
    (0xF0 ∷ 0x85 ∷ 0x00 ∷ 50 ∷ 0x00 ∷ 0x00 ∷ 0x03 ∷ []) (one_bytes 50)

-- 6: n parameter bytes
unfoldable pub parameter_bytes : ℕ → Tables
parameter_bytes n = parameters_only (replicate n 0xAB)

unfoldable pub case6 : Case
case6 = exchange (parameter_bytes 248) (0xF0 ∷ 0x07 ∷ 0x00 ∷ 0x01 ∷ 0x00 ∷ 248 ∷ [])
    (0xF0 ∷ 0x87 ∷ 0x00 ∷ 0x01 ∷ 0x00 ∷ 248 ∷ replicate 248 0xAB) (parameter_bytes 248)

unfoldable pub case6more : Case
case6more = exchange (parameter_bytes 255) (0xF0 ∷ 0x07 ∷ 0x00 ∷ 0x02 ∷ 0x00 ∷ 249 ∷ [])
    (0xF0 ∷ 0x87 ∷ 0x00 ∷ (2 + 248) ∷ 0x00 ∷ 0x00 ∷ 0x03 ∷ []) (parameter_bytes 255)

-- 9: L = 0 is damage; L = 1 with 73 and checksum 73
unfoldable pub case9 : Case
case9 =
    record {
      tables = item1;
      line = line_at true true [];
      bytes = 0x68 ∷ 0x00 ∷ [];
      sent = [];
      tables_after = item1;
      line_after = record {
        gathered = [];
        dropping = true;
        expected = true;
        send = true;
        outstanding = [];
        resends = 0;
      };
    }

unfoldable pub case9one : Case
case9one =
    record {
      tables = item1;
      line = line_at true true [];
      bytes = 0x68 ∷ 0x01 ∷ 0x01 ∷ 0x68 ∷ 0x73 ∷ 0x73 ∷ 0x16 ∷ [];
      sent = 0xE5 ∷ [];
      tables_after = item1;
      line_after = line_at false true [];
    }

-- Document 02, item 1: text lists, by their entries
unfoldable pub list_entry : ℕ → List ℕ → ListEntry
list_entry id text = record { id = id; text = text }

-- "the text comes from the site list, failing that the default list, where that has a non-empty entry for the ID, else
-- it is the empty start of the default list": datapoint 1 is "Lamp" in the site list and "Light" in the default list,
-- and the site's text answers; datapoint 2 has an empty entry in the site list, which does not hide the default's
-- "Blind"; datapoint 3 has none, and its string is a length of 0
unfoldable pub lamp_texts : Tables
lamp_texts =
    datapoints_with_texts (one_byte_from 1 3)
    (text_lists (list_bytes (list_entry 1 (0x4C ∷ 0x61 ∷ 0x6D ∷ 0x70 ∷ []) ∷ list_entry 2 [] ∷ []))
    (list_bytes
    (list_entry 1 (0x4C ∷ 0x69 ∷ 0x67 ∷ 0x68 ∷ 0x74 ∷ [])
    ∷ list_entry 2 (0x42 ∷ 0x6C ∷ 0x69 ∷ 0x6E ∷ 0x64 ∷ [])
    ∷ [])))

unfoldable pub case_texts : Case
case_texts =
    exchange lamp_texts (0xF0 ∷ 0x04 ∷ 0x00 ∷ 0x01 ∷ 0x00 ∷ 0x03 ∷ [])
    (0xF0 ∷ 0x84 ∷ 0x00 ∷ 0x01 ∷ 0x00 ∷ 0x03 ∷ 0x00 ∷ 0x04 ∷ 0x4C ∷ 0x61 ∷ 0x6D ∷ 0x70
    ∷ 0x00 ∷ 0x05 ∷ 0x42 ∷ 0x6C ∷ 0x69 ∷ 0x6E ∷ 0x64
    ∷ 0x00 ∷ 0x00
    ∷ []) lamp_texts

-- The longest texts: seven of 30 bytes answer (230 bytes); eight give code 3 with the eighth's ID.
unfoldable pub long_texts_from : ℕ → ℕ → List ListEntry
long_texts_from id zero = []
long_texts_from id (suc n) = list_entry id (replicate 30 0x61) ∷ long_texts_from (suc id) n

unfoldable pub long_texts : ℕ → Tables
long_texts n = datapoints_with_texts (one_byte_from 1 n) (text_lists [] (list_bytes (long_texts_from 1 n)))

unfoldable pub long_strings : ℕ → List ℕ
long_strings zero = []
long_strings (suc n) = 0x00 ∷ 30 ∷ replicate 30 0x61 ++ long_strings n

unfoldable pub case_long_texts : Case
case_long_texts = exchange (long_texts 7) (0xF0 ∷ 0x04 ∷ 0x00 ∷ 0x01 ∷ 0x00 ∷ 7 ∷ [])
    (0xF0 ∷ 0x84 ∷ 0x00 ∷ 0x01 ∷ 0x00 ∷ 7 ∷ long_strings 7) (long_texts 7)

unfoldable pub case_long_texts_more : Case
case_long_texts_more = exchange (long_texts 8) (0xF0 ∷ 0x04 ∷ 0x00 ∷ 0x01 ∷ 0x00 ∷ 8 ∷ [])
    (0xF0 ∷ 0x84 ∷ 0x00 ∷ 8 ∷ 0x00 ∷ 0x00 ∷ 0x03 ∷ []) (long_texts 8)

-- ---- 7: "start FFFF, number FFFF: only ID 65535 can answer", for any number from 1 on, any tables that no call
-- refuses and each of the five gets
-- IDs of two bytes
pub record TwoByteIds (t : Tables) : Type 0 where
  pub datapoints : T (every (λ (d : Datapoint). ltb d.id 0x1_0000) t.datapoints)
  pub items : T (every (λ (i : Item). ltb i.id 0x1_0000) t.items)

-- the request m is answered with these entries, or with code 2 where there are none
abbrev pub AnsweredWith : Tables → List ℕ → List AnswerEntry → Type 0
AnsweredWith t m es = (carried_out t m).says
    ≡ (if is_empty es then coded m 0xFFFF 2 else listing (sub_service m + 0x80) 0xFFFF es)

pub record LastId (t : Tables) (m : List ℕ) : Type 0 where
  pub item : sub_service m ≡ 0x01 → length m ≡ 6 → AnsweredWith t m (map item_entry (found item_id 0xFFFF t.items))
  pub description : sub_service m ≡ 0x03 → length m ≡ 6
      → AnsweredWith t m (map description_entry (found datapoint_id 0xFFFF t.datapoints))
  pub string : sub_service m ≡ 0x04 → length m ≡ 6
      → AnsweredWith t m (map (string_entry t.texts) (found datapoint_id 0xFFFF t.datapoints))
  pub value : sub_service m ≡ 0x05 → length m ≡ 7 → filter_of m ≤ 2
      → AnsweredWith t m (map value_entry (keep (passes (filter_of m)) (found datapoint_id 0xFFFF t.datapoints)))
  -- there is no parameter byte of that index
  pub parameter : sub_service m ≡ 0x07 → length m ≡ 6 → AnsweredWith t m []

abbrev pub LastIdOnly : Type 0
LastIdOnly =
    (t : Tables) (m : List ℕ) → T (well_formed t) → TwoByteIds t → main_service m ≡ 0xF0 → start_of m ≡ 0xFFFF
    → 1 ≤ number_of m → LastId t m

-- ---- 8: "empty datapoint table"
-- the request m is answered with this code and ID, and no table changes
abbrev pub RefusedWith : Tables → List ℕ → ℕ → ℕ → Type 0
RefusedWith t m id code = carried_out t m ≡ record { says = coded m id code; after = t }

pub record EmptyTable (t : Tables) (m : List ℕ) : Type 0 where
  -- "a datapoint get of the right size, number 1 or more and filter at most 2 gives 2"
  pub descriptions : sub_service m ≡ 0x03 → length m ≡ 6 → 1 ≤ number_of m → RefusedWith t m (start_of m) 2
  pub strings : sub_service m ≡ 0x04 → length m ≡ 6 → 1 ≤ number_of m → RefusedWith t m (start_of m) 2
  pub values : sub_service m ≡ 0x05 → length m ≡ 7 → 1 ≤ number_of m → filter_of m ≤ 2 → RefusedWith t m (start_of m) 2
  -- "a datapoint set whose one or more entries fill the message gives 7"
  pub set : sub_service m ≡ 0x06 → 6 ≤ length m → 1 ≤ number_of m → T (fills 4 (number_of m) (drop 6 m))
      → RefusedWith t m (first_datapoint_entry (drop 6 m)).id 7

abbrev pub EmptyTables : Type 0
EmptyTables = (t : Tables) (m : List ℕ) → t.datapoints ≡ [] → main_service m ≡ 0xF0 → EmptyTable t m

-- ---- the list
pub data Example : Type 0 where
  computed : Case → Example
  last_id_only : Example
  empty_tables : Example

abbrev pub Holds : Example → Type 0
Holds (computed c) = run_of c ≡ stated c
Holds last_id_only = LastIdOnly
Holds empty_tables = EmptyTables

unfoldable pub cases : List Case
cases = case1 ∷ case2 ∷ case2even ∷ case3 ∷ case4 ∷ case5 ∷ case5more ∷ case6 ∷ case6more ∷ case9 ∷ case9one ∷ case_texts
    ∷ case_long_texts ∷ case_long_texts_more ∷ []

unfoldable pub examples : List Example
examples = map computed cases ++ last_id_only ∷ empty_tables ∷ []
