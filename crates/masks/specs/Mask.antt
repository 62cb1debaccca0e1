-- The unused bits of a record as masks over words of eight bytes. Inner contracts alone cite these; what a record has
-- to be is said by its own test.
use Rattle.std.specs.Prelude.{if◌then◌else◌, ℕ, ◌+◌, ◌-◌, ◌*◌, ◌^◌, Bool, ◌&&◌, List, [], ◌∷◌, ltb, eqb}
use Rattle.std.specs.Int.Bits.{bit_and}
use Rattle.masks.specs.declared.mask.Masks.{Masks}
use Rattle.baos.specs.Datapoint.{size_of}

-- bytes as one number, the first the lowest
unfoldable pub word : List ℕ → ℕ
word [] = 0
word (b ∷ bs) = b + 256 * word bs

-- the bits from b up to m, none where b is m or more
abbrev pub bits_from : ℕ → ℕ → ℕ
bits_from b m = 2 ^ m - 2 ^ b

-- how many bits a value of this type code uses
unfoldable pub used_bits : ℕ → ℕ
used_bits typecode = if ltb typecode 7 then typecode + 1 else 8 * size_of typecode

-- low: the state and the value's first seven bytes. high: its last seven and the mark. Of the state, bits 7 to 5; of
-- the mark, bits 7 to 1.
unfoldable pub datapoint_masks : ℕ → Masks
datapoint_masks typecode =
    record {
      low = bits_from (used_bits typecode) 56 * 2 ^ 8 + bits_from 5 8;
      high = bits_from 1 8 * 2 ^ 56 + bits_from (8 * (size_of typecode - 7)) 56;
    }

-- the two halves of an item's bytes
unfoldable pub item_masks : ℕ → Masks
item_masks size = record { low = bits_from (8 * size) 64; high = bits_from (8 * (size - 8)) 64 }

-- no bit of the masks is set in the two words
unfoldable pub are_clear : Masks → ℕ → ℕ → Bool
are_clear m low high = eqb (bit_and low m.low) 0 && eqb (bit_and high m.high) 0
