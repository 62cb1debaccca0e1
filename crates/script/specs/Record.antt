-- Records from the bytes of a line. The numbers are the places of the bytes behind the letter.
use Rattle.std.specs.Prelude.{if◌then◌else◌, ℕ, ◌+◌, ◌%◌, Bool, List, take, drop, replicate, ◌==◌, slice_index, slice_set}
use Rattle.words.specs.Words.{of_two_bytes, put}
use Rattle.baos.specs.declared.datapoint.Datapoint.{Datapoint}
use Rattle.baos.specs.declared.item.Item.{Item}

-- a number of two bytes and k more
abbrev pub raised : List ℕ → ℕ → ℕ → ℕ
raised a place k = (of_two_bytes (slice_index a place) (slice_index a (place + 1)) + k) % 65536

-- a byte that rises by one k times, or stays
unfoldable pub risen : ℕ → Bool → ℕ → ℕ
risen byte rises k = if rises then (byte + k) % 256 else byte

unfoldable pub item_of : List ℕ → Item
item_of a =
    record {
      id = raised a 0 0;
      size = slice_index a 2;
      writable = slice_index a 3;
      bytes = put (replicate 16 0) 0 (take 16 (drop 4 a));
    }

unfoldable pub datapoint_of : List ℕ → ℕ → Datapoint
datapoint_of a k =
    record {
      id = raised a 1 k;
      typecode = slice_index a 3;
      flags = slice_index a 4;
      dpt = slice_index a 5;
      state = slice_index a 6;
      value = slice_set (put (replicate 14 0) 0 (take 14 (drop 9 a))) 0 (risen (slice_index a 9) (slice_index a 8 == 1) k);
      mark = slice_index a 7;
    }
