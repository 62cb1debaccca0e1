use Rattle.std.proofs.Common.{◌≡◌, [], ◌∷◌, refl, ◌∙◌, length, arith, rules}
use Rattle.words.proofs.ByteLaws.{put_in_front}
use Rattle.baos.specs.Inner.Gather.{wide_value}
use Rattle.baos.proofs.TwoByteLaws.{two_big_endian}
use Rattle.baos.proofs.WideLaws.{value_size}
use Rattle.entries.proofs.entry.put_wide_value.Goals as goal

pub returns : goal.returns
unfolding wide_value
returns c =
    let d = c.args.d in
    let h : length d.value ≡ 14 = search rules in
    let e = c.to_be_bytes.ensures ∙ two_big_endian d.id (omega arith) in
    record {
      buffer = rw (c.put_bytes-2.ensures, c.put_bytes.ensures, e, c.size_by_rule-n.ensures) (put_in_front c.args.out.now c.args.at _ (_ ∷ _ ∷ _ ∷ _ ∷ []) d.value refl (omega (arith, h)));
      ends = omega (arith, value_size d h, c.size_by_rule-n.ensures);
    }
