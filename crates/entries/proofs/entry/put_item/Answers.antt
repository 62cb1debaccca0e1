use Rattle.std.proofs.Common.{◌≡◌, [], ◌∷◌, refl, ◌∙◌, length, arith, rules}
use Rattle.std.proofs.lemmas.List.{length-take-le}
use Rattle.words.proofs.ByteLaws.{put-put}
use Rattle.baos.specs.Get.{item_entry}
use Rattle.baos.specs.Item.{bytes_of}
use Rattle.baos.proofs.TwoByteLaws.{two_big_endian}
use Rattle.entries.proofs.entry.put_item.Goals as goal

pub returns : goal.returns
unfolding item_entry bytes_of
returns c =
    let i = c.args.i in
    let h : length i.bytes ≡ 16 = search rules in
    let n = length-take-le i.size i.bytes (omega arith) in
    let e = c.to_be_bytes.ensures ∙ two_big_endian i.id (omega arith) in
    record {
      buffer = rw (c.put_bytes-2.ensures, c.put_bytes.ensures, e) (put-put c.args.out.now c.args.at _ (_ ∷ _ ∷ _ ∷ []) _ refl (omega (arith, n)));
      ends = omega (arith, n);
    }
