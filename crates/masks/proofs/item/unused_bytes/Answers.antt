-- Each row's numbers are those that the definition works out.
use Rattle.std.proofs.Common.{ℕ, ◌+◌, ap, arith}
use Rattle.std.proofs.lemmas.List.FromFn.{get_or-map-range_with_len}
use Rattle.masks.specs.declared.mask.Masks.{Masks}
use Rattle.masks.specs.Mask.{item_masks}
use Rattle.masks.proofs.item.unused_bytes.Goals as goal

abbrev row : ℕ → ℕ × ℕ
row last = ((item_masks (last + 1)).low, (item_masks (last + 1)).high)

abbrev masks_of : ℕ × ℕ → Masks
masks_of words = record { low = words.0; high = words.1 }

pub returns : goal.returns
unfolding item_masks
returns c = ap masks_of (get_or-map-range_with_len row 0 16 c.args.last c.args.last _ (omega arith) (omega arith))
