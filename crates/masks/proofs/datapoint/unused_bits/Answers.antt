-- Each row's numbers are those that the definition works out.
use Rattle.std.proofs.Common.{ℕ, ap, arith}
use Rattle.std.proofs.lemmas.List.FromFn.{get_or-map-range_with_len}
use Rattle.baos.specs.Datapoint.{size_of}
use Rattle.masks.specs.declared.mask.Masks.{Masks}
use Rattle.masks.specs.Mask.{used_bits, datapoint_masks}
use Rattle.masks.proofs.datapoint.unused_bits.Goals as goal

abbrev row : ℕ → ℕ × ℕ
row typecode = ((datapoint_masks typecode).low, (datapoint_masks typecode).high)

abbrev masks_of : ℕ × ℕ → Masks
masks_of words = record { low = words.0; high = words.1 }

pub returns : goal.returns
unfolding datapoint_masks used_bits size_of
returns c = ap masks_of (get_or-map-range_with_len row 0 15 c.args.typecode c.args.typecode _ (omega arith) (omega arith))
