-- One server item: when it is well formed, and how it is set.
use Rattle.std.specs.Prelude.{ℕ, Bool, ◌&&◌, List, take, replicate, leb}
use Rattle.words.specs.Words.{is_yes_or_no, pad, is_padded}
use Rattle.baos.specs.declared.item.Item.{Item}

-- "length 1 to 16", "bytes beyond [..] the item's length are 0". Whether it is writable is said by 0 or 1.
unfoldable pub item_ok : Item → Bool
item_ok i = leb 1 i.size && is_padded 16 i.size i.bytes && is_yes_or_no i.writable

abbrev pub item_id : Item → ℕ
item_id i = i.id

-- what is read where no item stands
abbrev pub zero_item : Item
zero_item = record { id = 0; size = 0; writable = 0; bytes = replicate 16 0 }

-- the item's bytes that are used
unfoldable pub bytes_of : Item → List ℕ
bytes_of i = take i.size i.bytes

unfoldable pub with_bytes : List ℕ → Item → Item
with_bytes s i = record { id = i.id; size = i.size; writable = i.writable; bytes = pad 16 s }
