-- Document 02, item 3. "For a datapoint ID, give the reading as one of: a switch state (DPT 1, type 0), a count (DPT 5,
-- type 7), a two-octet value (DPT 9, type 8), a single (DPT 14, type 10), or unreadable. The reading carries its floating
-- value in the case it belongs to. DPT 9 is sign, four bits of exponent E and 11 bits that with the sign make the 12-bit
-- two's complement mantissa M; the value is M times 2 to the E hundredths. 7FFF aside, hundredths run from -67,108,864 to
-- 67,043,328, are exact in 32-bit floating point, and the reading is that number divided by 100, rounded once. Show over
-- whole numbers, with the reading taken as the exact binary fraction it is, that 100 times it differs from the hundredths
-- by at most their size divided by 2 to the 24. 7FFF is unreadable, also a DPT 14 that is infinite or not a number, any
-- other DPT and type, and a datapoint whose valid bit is off. Readings change no table. Refusals: call 1 as before, then
-- 4 for an ID that is absent."
use Rattle.std.specs.Prelude.{ℕ, ◌+◌, ◌*◌, ◌/◌, ◌%◌, ◌^◌, ◌<◌, ◌≡◌, ◌≢◌, ◌⊎◌, ◌↔◌, true, false, List, length, get_or, T, pos, neg_ℤ, ◌+ℤ◌, ◌*ℤ◌, Float}
use Rattle.std.specs.Float.{nan, inf, binary32}
use Rattle.std.specs.Float.Ieee.{fits, div, of_int, of_bits, to_bits}
use Rattle.words.specs.Words.{of_two_bytes, is_yes, yes_or_no, are_bytes}
use Rattle.baos.specs.declared.datapoint.Datapoint.{Datapoint}
use Rattle.baos.specs.Datapoint.{is_valid, with_mark, handed_out, zero_datapoint}
use Rattle.baos.specs.Flags.{with_flags}
use Rattle.baos.specs.Table.{datapoints_only, well_formed}
use Rattle.dpt.specs.declared.reading.Reading.{Reading}
use Rattle.dpt.specs.declared.reading.Reading.TheVariants.{Switch, Count, TwoOctet, Single, Unreadable}
use Rattle.dpt.specs.Reply.{ReadingReply, Refused, Given}
use Rattle.dpt.specs.TwoOctet.{sign_is_set, exponent, eleven_bits, mantissa, hundredths, IsWhole, HundredthsInRange, two_octet, Near}
use Rattle.dpt.specs.Single.{of_four_bytes}
use Rattle.dpt.specs.Reading.{octet, reading_of, reading_for}
use Rattle.dpt.specs.Numbers.{reading_numbers, reading_reply_numbers}

-- ---- "DPT 9 is sign, four bits of exponent E and 11 bits [..]; the value is M times 2 to the E hundredths"
pub record TwoOctetBits (high low : ℕ) : Type 0 where
  -- from the highest bit to the lowest: sign, exponent, 11 bits
  pub bits : of_two_bytes high low ≡ yes_or_no (sign_is_set high) * 32768 + exponent high * 2048 + eleven_bits high low
  pub four_bits : exponent high < 16
  pub eleven_bits_below : eleven_bits high low < 2048
  -- "11 bits that with the sign make the 12-bit two's complement mantissa": with the sign set, 4096 more is what the
  -- twelve bits are without one
  pub not_below : sign_is_set high ≡ false → mantissa high low ≡ pos (eleven_bits high low)
  pub below : sign_is_set high ≡ true → mantissa high low +ℤ pos 4096 ≡ pos (2048 + eleven_bits high low)
  pub value : hundredths high low ≡ mantissa high low *ℤ pos (2 ^ exponent high)

abbrev pub EachTwoOctetBits : Type 0
EachTwoOctetBits = (high low : ℕ) → high < 256 → low < 256 → TwoOctetBits high low

-- ---- the value of a two-octet reading, whatever the octets are. All but the range holds of 7FFF too, which is unreadable
pub record TwoOctetValue (high low : ℕ) : Type 0 where
  -- "7FFF aside, hundredths run from -67,108,864 to 67,043,328"
  pub hundredths_in_range : of_two_bytes high low ≢ 0x7FFF → HundredthsInRange (hundredths high low)
  -- "are exact in 32-bit floating point": the number of that format that the whole number is taken to is that number
  pub exact : IsWhole (of_int binary32 (hundredths high low)) (hundredths high low)
  pub exact_format : T (fits binary32 (of_int binary32 (hundredths high low)))
  -- "the reading is that number divided by 100, rounded once": by one division of that format
  pub divided : two_octet high low ≡ div binary32 (of_int binary32 (hundredths high low)) (of_int binary32 (pos 100))
  pub reading_format : T (fits binary32 (two_octet high low))
  -- "100 times it differs from the hundredths by at most their size divided by 2 to the 24"
  pub near : Near (two_octet high low) (hundredths high low)

abbrev pub EachTwoOctetValue : Type 0
EachTwoOctetValue = (high low : ℕ) → high < 256 → low < 256 → TwoOctetValue high low

-- both ends are reached; and 8000 has the least mantissa
pub record EndsReached : Type 0 where
  pub least : hundredths 0xF8 0x00 ≡ neg_ℤ (pos 67108864)
  pub greatest : hundredths 0x7F 0xFE ≡ pos 67043328
  pub least_mantissa : mantissa 0x80 0x00 ≡ neg_ℤ (pos 2048)

-- ---- which reading a datapoint has
-- the valid bit is set, and DPT and type are these
pub record ValidOf (dpt typecode : ℕ) (d : Datapoint) : Type 0 where
  pub valid : is_valid d.state ≡ true
  pub of_dpt : d.dpt ≡ dpt
  pub of_type : d.typecode ≡ typecode

-- "any other DPT and type"
pub record OtherPair (d : Datapoint) : Type 0 where
  pub no_switch : (d.dpt ≡ 1) × (d.typecode ≡ 0) → ⊥
  pub no_count : (d.dpt ≡ 5) × (d.typecode ≡ 7) → ⊥
  pub no_two_octet : (d.dpt ≡ 9) × (d.typecode ≡ 8) → ⊥
  pub no_single : (d.dpt ≡ 14) × (d.typecode ≡ 10) → ⊥

abbrev pub two_octets : Datapoint → ℕ
two_octets d = of_two_bytes (octet 0 d) (octet 1 d)

-- the number whose bits the four octets are
abbrev pub as_single : Datapoint → Float
as_single d = of_bits binary32 (of_four_bytes (octet 0 d) (octet 1 d) (octet 2 d) (octet 3 d))

-- "infinite or not a number"
abbrev pub Special : Float → Type 0
Special x = (x ≡ nan) ⊎ (x ≡ inf false) ⊎ (x ≡ inf true)

-- so are just those with all eight bits of the exponent set: minus zero and the subnormal numbers are none of them
abbrev pub SpecialByBits : Type 0
SpecialByBits = (bits : ℕ) → Special (of_bits binary32 bits) ↔ (bits % 2147483648 / 8388608 ≡ 255)

-- the four that are read, and the four reasons why one is not
pub data Reads (d : Datapoint) (r : Reading) : Type 0 where
  switch : ValidOf 1 0 d → r ≡ Switch (is_yes (octet 0 d)) → Reads d r
  count : ValidOf 5 7 d → r ≡ Count (octet 0 d) → Reads d r
  two_octet_value : ValidOf 9 8 d → two_octets d ≢ 0x7FFF → r ≡ TwoOctet (two_octet (octet 0 d) (octet 1 d)) → Reads d r
  single : ValidOf 14 10 d → (Special (as_single d) → ⊥) → r ≡ Single (as_single d) → Reads d r
  is_7FFF : ValidOf 9 8 d → two_octets d ≡ 0x7FFF → r ≡ Unreadable → Reads d r
  special : ValidOf 14 10 d → Special (as_single d) → r ≡ Unreadable → Reads d r
  other_pair : OtherPair d → r ≡ Unreadable → Reads d r
  not_valid : is_valid d.state ≡ false → r ≡ Unreadable → Reads d r

-- it has one of these readings, and no other
abbrev pub EachReading : Type 0
EachReading = (d : Datapoint) (r : Reading) → Reads d r ↔ (reading_of d ≡ r)

-- the value of a two-octet reading is near, whatever the octets are that it came from
abbrev pub EachNear : Type 0
EachNear = (d : Datapoint) (x : Float) → T (are_bytes d.value) → reading_of d ≡ TwoOctet x
    → Near x (hundredths (octet 0 d) (octet 1 d))

-- a single is its four octets, bit by bit
abbrev pub EachSingle : Type 0
EachSingle = (d : Datapoint) (x : Float) → T (are_bytes d.value) → reading_of d ≡ Single x
    → to_bits binary32 x ≡ of_four_bytes (octet 0 d) (octet 1 d) (octet 2 d) (octet 3 d)

-- ---- what is given for an ID
-- the record of ds at place i has the ID
pub record Stands (id i : ℕ) (ds : List Datapoint) : Type 0 where
  pub within : i < length ds
  pub its_id : (get_or ds i zero_datapoint).id ≡ id

pub record ReadingGiven (id : ℕ) (ds : List Datapoint) : Type 0 where
  -- "call 1 as before": by the test that every call makes of the table of datapoints
  pub refused_1 : well_formed (datapoints_only ds) ≡ false → reading_for id ds ≡ Refused 1
  -- "then 4 for an ID that is absent"
  pub refused_4 : well_formed (datapoints_only ds) ≡ true → ((i : ℕ) → Stands id i ds → ⊥) → reading_for id ds ≡ Refused 4
  -- the reading of the datapoint that has the ID
  pub given : well_formed (datapoints_only ds) ≡ true → (i : ℕ) → Stands id i ds
      → reading_for id ds ≡ Given (reading_of (get_or ds i zero_datapoint))

abbrev pub EachReadingGiven : Type 0
EachReadingGiven = (id : ℕ) (ds : List Datapoint) → ReadingGiven id ds

-- "Readings change no table": the table is lent to `reading` for reading alone, and so the language says it. What a
-- reading does not look at:
pub record ReadAlike (d : Datapoint) : Type 0 where
  -- bit 3, which an answer clears; and the mark, which an indication clears besides
  pub answered : reading_of (handed_out d) ≡ reading_of d
  pub indicated : reading_of (with_mark 0 (handed_out d)) ≡ reading_of d
  -- the config flags: closed and open datapoints are treated alike (item 2)
  pub any_flags : (flags : ℕ) → reading_of (with_flags flags d) ≡ reading_of d

abbrev pub EachReadAlike : Type 0
EachReadAlike = (d : Datapoint) → ReadAlike d

-- ---- the numbers that firmware gets, by which the promises are made, determine the reading and the refusal
pub record NumbersTell : Type 0 where
  pub a_reading : (r q : Reading) → reading_numbers r ≡ reading_numbers q → r ≡ q
  pub a_reply : (r q : ReadingReply) → reading_reply_numbers r ≡ reading_reply_numbers q → r ≡ q

-- ---- the sentences together
pub record EngineeringReadings : Type 0 where
  pub each_bits : EachTwoOctetBits
  pub each_value : EachTwoOctetValue
  pub ends_reached : EndsReached
  pub each_reading : EachReading
  pub special_by_bits : SpecialByBits
  pub each_near : EachNear
  pub each_single : EachSingle
  pub each_given : EachReadingGiven
  pub read_alike : EachReadAlike
  pub numbers_tell : NumbersTell

-- To read it: where the table of datapoints is not well formed, 1 is given for every ID; where it is, 4 for an ID that
-- no datapoint has, and else the reading of the one that has it. That is a switch state, a count, a two-octet value or a
-- single for the four pairs of DPT and type, where the valid bit is set, and unreadable where it is not, for any other
-- pair, for 7FFF, and for a single that is infinite or not a number. A single is its octets' bits. A two-octet value is
-- its hundredths, which are exact in 32-bit floating point, divided by 100 by one division, and 100 times it differs from
-- them by at most their size divided by 2 to the 24.
