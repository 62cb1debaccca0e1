-- One datapoint record: its value's size by type code, its state byte, when it is well formed, and how it changes.
use Rattle.std.specs.Prelude.{if◌then◌else◌, ℕ, ◌+◌, ◌-◌, ◌*◌, ◌/◌, ◌%◌, ◌^◌, Bool, ◌&&◌, ◌||◌, List, length, get_or, take, replicate, leb, ltb, eqb}
use Rattle.words.specs.Words.{is_yes_or_no, pad, is_padded}
use Rattle.baos.specs.declared.datapoint.Datapoint.{Datapoint}

-- "Type codes: 0 to 6 are 1 to 7 bits in the low bits of one byte; 7 is 1 byte; 8, 9, 10, 11, 12, 13, 14 are 2, 3, 4,
-- 6, 8, 10, 14 bytes." By its rule: "codes 0 to 7 give 1, 8 to 10 the code less 6, 11 to 13 twice the code less 16, 14
-- gives 14" (document 02, item 4). No other code has a size.
unfoldable pub size_of : ℕ → ℕ
size_of typecode =
    if ltb typecode 8 then 1
    else if ltb typecode 11 then typecode - 6
    else if ltb typecode 14 then 2 * typecode - 16
    else if eqb typecode 14 then 14
    else 0

-- what the first byte of a value stays below: codes 0 to 6 use its low bits alone
unfoldable pub limit_of : ℕ → ℕ
limit_of typecode = if ltb typecode 7 then 2 ^ (typecode + 1) else 256

-- no unused bit is set
unfoldable pub unused_bits_ok : ℕ → List ℕ → Bool
unused_bits_ok typecode v = ltb (get_or v 0 0) (limit_of typecode)

-- a value of this type code: as many bytes as it says, no unused bit set
unfoldable pub is_value : ℕ → List ℕ → Bool
is_value typecode v = eqb (length v) (size_of typecode) && unused_bits_ok typecode v

-- the value's bytes that are used
unfoldable pub value_of : Datapoint → List ℕ
value_of d = take (size_of d.typecode) d.value

-- "type codes are 0 to 14, state bits 7 to 5 are 0, [..] value bits and bytes beyond the type's size [..] are 0". The
-- report mark is 0 or 1.
unfoldable pub datapoint_ok : Datapoint → Bool
datapoint_ok d =
    leb d.typecode 14 && ltb d.state 32 && unused_bits_ok d.typecode (value_of d)
    && is_padded 14 (size_of d.typecode) d.value && is_yes_or_no d.mark

abbrev pub datapoint_id : Datapoint → ℕ
datapoint_id d = d.id

-- what is read where no record stands
abbrev pub zero_datapoint : Datapoint
zero_datapoint = record { id = 0; typecode = 0; flags = 0; dpt = 0; state = 0; value = replicate 14 0; mark = 0 }

-- ---- the state byte: "bit 4 valid, bit 3 updated from bus, bit 2 data request, bits 1-0 transmission status"
abbrev pub is_valid : ℕ → Bool
is_valid s = eqb (s / 16 % 2) 1

abbrev pub is_updated : ℕ → Bool
is_updated s = eqb (s / 8 % 2) 1

-- bit 4 set
abbrev pub with_valid : ℕ → ℕ
with_valid s = s / 32 * 32 + 16 + s % 16

-- bit 3 cleared
abbrev pub without_updated : ℕ → ℕ
without_updated s = s / 16 * 16 + s % 8

-- bit 2 set
abbrev pub with_request : ℕ → ℕ
with_request s = s / 8 * 8 + 4 + s % 4

-- bits 1-0 replaced
abbrev pub with_status : ℕ → ℕ → ℕ
with_status status s = s / 4 * 4 + status

-- "bits 4 and 3 set, bit 2 cleared"
abbrev pub from_bus : ℕ → ℕ
from_bus s = s / 32 * 32 + 24 + s % 4

-- ---- a record with another state; with another value and state; with another mark
unfoldable pub with_state : ℕ → Datapoint → Datapoint
with_state s d =
    record {
      id = d.id;
      typecode = d.typecode;
      flags = d.flags;
      dpt = d.dpt;
      state = s;
      value = d.value;
      mark = d.mark;
    }

unfoldable pub with_value : List ℕ → ℕ → Datapoint → Datapoint
with_value v s d =
    record {
      id = d.id;
      typecode = d.typecode;
      flags = d.flags;
      dpt = d.dpt;
      state = s;
      value = pad 14 v;
      mark = d.mark;
    }

unfoldable pub with_mark : ℕ → Datapoint → Datapoint
with_mark m d =
    record {
      id = d.id;
      typecode = d.typecode;
      flags = d.flags;
      dpt = d.dpt;
      state = d.state;
      value = d.value;
      mark = m;
    }

-- "An answer or indication that carries a value shows the state byte as it was and then clears bit 3 (build)."
unfoldable pub handed_out : Datapoint → Datapoint
handed_out d = with_state (without_updated d.state) d

-- "Bus value: value replaced, bits 4 and 3 set, bit 2 cleared, report mark set, also if the value is equal (build)."
unfoldable pub bus_value : List ℕ → Datapoint → Datapoint
bus_value v d = with_mark 1 (with_value v (from_bus d.state) d)

-- "Outcome: status becomes 00, 01 or 10."
unfoldable pub outcome : ℕ → Datapoint → Datapoint
outcome status d = with_state (with_status status d.state) d

-- a send command: "2 status 11; 3 both"
abbrev pub is_send : ℕ → Bool
is_send c = eqb c 2 || eqb c 3

-- "Commands: 0 nothing; 1 value, bit 4 set; 2 status 11; 3 both; 4 bit 2 set; [..]. A value sent with 0, 2, 4 [..] is
-- checked and unused. The commands do not look at config flags." That still holds of what a command does; whether a
-- request may carry it goes by the flags since document 02, item 2 (`takes_command`). Command 5, "status 00", is retired
-- (item 9): a set request that carries it is refused, and no command but 2 and 3 touches the status.
unfoldable pub commanded : ℕ → List ℕ → Datapoint → Datapoint
commanded c v d =
    if eqb c 1 then with_value v (with_valid d.state) d
    else if eqb c 2 then with_state (with_status 3 d.state) d
    else if eqb c 3 then with_value v (with_status 3 (with_valid d.state)) d
    else if eqb c 4 then with_state (with_request d.state) d
    else d
