-- Laws of MaskLaws, on the words that were read and the masks that were fetched.
use Rattle.std.proofs.Common.{◌≡◌, ℕ, length, get_or, Fits, w8, sym, ◌∙◌, rules}
use Rattle.masks.specs.Mask.{are_clear}
use Rattle.masks.proofs.MaskLaws.{word_read, no_size, no_writable, not_above, item_fits_lem}
use Rattle.masks.proofs.item.ItemRecord.fits_after.Goals.{then-w-ne0-via-then-w-ne0, then-w-ne0-via-else-w-ne0+then-w-ne0-2, then-w-ne0-via-else-w-ne0+else-w-ne0-2+then-self-last}
use Rattle.masks.proofs.item.ItemRecord.fits_after.Goals as goal

pub returns-then-w-ne0 : goal.returns-then-w-ne0
returns-then-w-ne0 c =
    let i = c.args.self.now in
    let s : Fits w8 i.size = search rules in
    elim c.then-w-ne0.branch [
      | then-w-ne0-via-then-w-ne0 w ↦ sym (no_size i c.args.last w.if-w-ne0.true)
      | then-w-ne0-via-else-w-ne0+then-w-ne0-2 w ↦ sym (no_writable i c.args.last s.fits w.if-w-ne0.false w.if-w-ne0-2.true)
      | then-w-ne0-via-else-w-ne0+else-w-ne0-2+then-self-last w ↦ sym (not_above c.args.last i.id _ w.if-self-last.true)
    ]

pub returns : goal.returns
returns c =
    let i = c.args.self.now in
    let n : length i.bytes ≡ 16 = search rules in
    let v : (j : ℕ) → Fits w8 (get_or i.bytes j 0) = λ j. search rules in
    let s : Fits w8 i.size = search rules in
    let k : Fits w8 i.writable = search rules in
    c.are_clear.ensures
    ∙ (λ j. are_clear (c.unused_bytes.ensures j) ((c.from_le_bytes-low.ensures ∙ word_read _ _ _ _ _ _ _ _) j) ((c.from_le_bytes-high.ensures ∙ word_read _ _ _ _ _ _ _ _) j))
    ∙ item_fits_lem i c.args.last s.fits k.fits c.if-w-ne0.false c.if-w-ne0-2.false c.if-self-last.false n (λ j. (v j).fits)
