-- A law of MaskLaws, on the words that were read and the masks that were fetched.
use Rattle.std.proofs.Common.{◌≡◌, ℕ, length, get_or, Fits, w8, ◌∙◌, arith, rules}
use Rattle.masks.specs.Mask.{are_clear}
use Rattle.masks.proofs.MaskLaws.{word_read, datapoint_fits_lem}
use Rattle.masks.proofs.datapoint.DatapointRecord.fits_after.Goals as goal

pub returns : goal.returns
returns c =
    let d = c.args.self.now in
    let n : length d.value ≡ 14 = search rules in
    let v : (i : ℕ) → Fits w8 (get_or d.value i 0) = λ i. search rules in
    let s : Fits w8 d.state = search rules in
    let k : Fits w8 d.mark = search rules in
    c.are_clear.ensures
    ∙ (λ i. are_clear (c.unused_bits.ensures i) ((c.from_le_bytes-low.ensures ∙ word_read _ _ _ _ _ _ _ _) i) ((c.from_le_bytes-high.ensures ∙ word_read _ _ _ _ _ _ _ _) i))
    ∙ datapoint_fits_lem d c.args.last (omega arith) (omega arith) n (λ i. (v i).fits) s.fits k.fits
