-- One law for each answer of a reading, and by which bits a single is finite.
use Prim.Native.Nat.{ℕ, zero, suc, ◌+◌, ◌/◌, ◌%◌, ◌<◌, ◌≤◌}
use mathlib.Core.Path.{◌≡◌, refl}
use mathlib.Core.Logic.{◌≢◌}
use mathlib.Core.Bool.{Bool, true, false, not, cond}
use mathlib.Core.List.{[], ◌∷◌}
use native.Mathlib.Omega.{arith}
use lib.Dec.{T, eqb, leb}
use lib.Ieee.{Float, inf, nan, fin, is_nan, binary32, hid, top, odd, of_fields, of_bits, nan_bits}
use mir.Val.{bool_byte}
use borrow.Author.Tests.{eq-eqb, ne_eqb}
use Rattle.words.specs.Words.{of_two_bytes, is_yes, yes_or_no}
use Rattle.words.proofs.WordLaws.{true_T}
use Rattle.baos.specs.declared.datapoint.Datapoint.{Datapoint}
use Rattle.baos.specs.Datapoint.{datapoint_id, is_valid}
use Rattle.baos.specs.Table.{found}
use Rattle.dpt.specs.declared.reading.Reading.TheVariants.{Switch, Count, TwoOctet, Single, Unreadable}
use Rattle.dpt.specs.Reply.{Refused, Given}
use Rattle.dpt.specs.TwoOctet.{two_octet}
use Rattle.dpt.specs.Single.{of_four_bytes, single, is_finite}
use Rattle.dpt.specs.Reading.{two_octet_reading, single_reading, is_of, octet, reading_of, reply_of}

-- ---- DPT 9
module _ (high low : ℕ) where
  pub is_7FFF : of_two_bytes high low ≡ 0x7FFF → two_octet_reading high low ≡ Unreadable
  unfolding two_octet_reading
  is_7FFF e = rw (eq-eqb (of_two_bytes high low) 0x7FFF e) refl

  pub not_7FFF : of_two_bytes high low ≢ 0x7FFF → two_octet_reading high low ≡ TwoOctet (two_octet high low)
  unfolding two_octet_reading
  not_7FFF n = rw (ne_eqb (of_two_bytes high low) 0x7FFF n) refl

-- ---- a finite floating number is one
pub finite_number : (x : Float) → is_finite x ≡ true → T (not (is_nan x))
unfolding is_nan
finite_number nan e = true_T e
finite_number (inf s) e = tt
finite_number (fin s m e) f = tt

-- ---- DPT 14: the field of the exponent decides
pub odd_finite : (d : ℕ) (s : Bool) (q k l : ℕ) → is_finite (odd d s q k l) ≡ true
unfolding odd
odd_finite d s zero k l = refl
odd_finite d s (suc q) k l = refl

fields_special : (s : Bool) (t : ℕ) → is_finite (of_fields binary32 s 255 t) ≡ false
unfolding of_fields
fields_special s t = go (eqb t 0)
  where
    go : (u : Bool) → is_finite (cond u (inf s) nan) ≡ false
    go true = refl
    go false = refl

fields_finite : (s : Bool) (x t : ℕ) → x ≢ 255 → is_finite (of_fields binary32 s x t) ≡ true
unfolding of_fields
fields_finite s zero t n = odd_finite 24 s t 0 149
fields_finite s (suc x) t n = rw (ne_eqb (suc x) 255 n) (odd_finite 24 s (hid binary32 + t) x 149)

module _ (bits : ℕ) where
  -- the bits of the exponent
  abbrev field : ℕ
  field = bits % 0x80000000 / 0x800000

  full : 0x7F800000 ≤ bits % 0x80000000 → field ≡ 255
  full h = omega arith

  not_full : bits % 0x80000000 < 0x7F800000 → field ≢ 255
  not_full l e = omega arith

  pub special_bits : field ≡ 255 → is_finite (single bits) ≡ false
  unfolding single of_bits
  special_bits e = rw e (fields_special (leb (top binary32) bits) (bits % hid binary32))

  pub finite_bits : field ≢ 255 → is_finite (single bits) ≡ true
  unfolding single of_bits
  finite_bits n = fields_finite _ field _ n

  pub not_finite : 0x7F800000 ≤ bits % 0x80000000 → single_reading (single bits) ≡ Unreadable
  unfolding single_reading
  not_finite h = rw (special_bits (full h)) refl

  pub finite : bits % 0x80000000 < 0x7F800000 → single_reading (single bits) ≡ Single (single bits)
  unfolding single_reading
  finite l = rw (finite_bits (not_full l)) refl

  -- which bits are those of a number
  pub is_number : bits % 0x80000000 < 0x7F800000 → T (not (nan_bits binary32 bits))
  unfolding nan_bits
  is_number l = rw (ne_eqb field 255 (not_full l)) tt

-- ---- a datapoint: both the DPT and the type code
module _ (dpt typecode : ℕ) (d : Datapoint) where
  pub another_dpt : d.dpt ≢ dpt → is_of dpt typecode d ≡ false
  another_dpt n = rw (ne_eqb d.dpt dpt n) refl

  pub same_dpt : d.dpt ≡ dpt → is_of dpt typecode d ≡ eqb d.typecode typecode
  same_dpt e = rw (eq-eqb d.dpt dpt e) refl

-- by the first test that is passed, of the valid bit and the four types
module _ (d : Datapoint) where
  pub not_valid : d.state / 16 % 2 ≢ 1 → reading_of d ≡ Unreadable
  unfolding reading_of
  not_valid n = rw (ne_eqb (d.state / 16 % 2) 1 n) refl

  module _ (v : d.state / 16 % 2 ≡ 1) where
    valid : is_valid d.state ≡ true
    valid = eq-eqb (d.state / 16 % 2) 1 v

    pub a_switch : is_of 1 0 d ≡ true → reading_of d ≡ Switch (is_yes (octet 0 d))
    unfolding reading_of
    a_switch a = rw (valid, a) refl

    module _ (a : is_of 1 0 d ≡ false) where
      pub a_count : is_of 5 7 d ≡ true → reading_of d ≡ Count (octet 0 d)
      unfolding reading_of
      a_count b = rw (valid, a, b) refl

      module _ (b : is_of 5 7 d ≡ false) where
        pub two_octets_lem : is_of 9 8 d ≡ true → reading_of d ≡ two_octet_reading (octet 0 d) (octet 1 d)
        unfolding reading_of
        two_octets_lem c = rw (valid, a, b, c) refl

        module _ (c : is_of 9 8 d ≡ false) where
          pub four_octets : is_of 14 10 d ≡ true → reading_of d ≡ single_reading (single (of_four_bytes (octet 0 d) (octet 1 d) (octet 2 d) (octet 3 d)))
          unfolding reading_of
          four_octets e = rw (valid, a, b, c, e) refl

          pub no_type : is_of 14 10 d ≡ false → reading_of d ≡ Unreadable
          unfolding reading_of
          no_type e = rw (valid, a, b, c, e) refl

-- ---- at the record where an ID belongs, which may be another ID's
module _ (d : Datapoint) (id : ℕ) where
  pub absent : d.id ≢ id → reply_of (found datapoint_id id (d ∷ [])) ≡ Refused 4
  unfolding reply_of found
  absent n = rw (ne_eqb d.id id n) refl

  pub present : d.id ≡ id → reply_of (found datapoint_id id (d ∷ [])) ≡ Given (reading_of d)
  unfolding reply_of found
  present e = rw (eq-eqb d.id id e) refl

-- ---- a switch state as a number, as the code makes it
pub as_byte : (on : Bool) → bool_byte on ≡ yes_or_no on
as_byte true = refl
as_byte false = refl
