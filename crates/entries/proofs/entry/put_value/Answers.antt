use Rattle.std.proofs.Common.{◌≡◌, [], ◌∷◌, refl, sym, ◌∙◌, length, arith, rules}
use Rattle.std.proofs.lemmas.List.{length-take-le}
use Rattle.words.proofs.ByteLaws.{put-put}
use Rattle.baos.specs.Datapoint.{value_of}
use Rattle.baos.specs.Get.{value_entry}
use Rattle.baos.proofs.DatapointLaws.{size_fits}
use Rattle.baos.proofs.EntryLaws.{one_byte_entry}
use Rattle.baos.proofs.TwoByteLaws.{two_big_endian}
use Rattle.entries.proofs.entry.put_value.Goals as goal

pub returns-then-d-lt8 : goal.returns-then-d-lt8
returns-then-d-lt8 c =
    let d = c.args.d in
    let h : length d.value ≡ 14 = search rules in
    let e = c.to_be_bytes.ensures ∙ two_big_endian d.id (omega arith) in
    rw (one_byte_entry d c.if-d-lt8.true h) (record { buffer = rw e at c.put_bytes.ensures; ends = refl })

pub slice_bounds-put_bytes-end-3 : goal.slice_bounds-put_bytes-end-3
slice_bounds-put_bytes-end-3 c =
    let d = c.args.d in
    let h : length d.value ≡ 14 = search rules in
    sym (length-take-le _ d.value (omega (arith, size_fits d.typecode, c.size_by_rule-n.ensures)))

pub returns : goal.returns
unfolding value_entry value_of
returns c =
    let d = c.args.d in
    let h : length d.value ≡ 14 = search rules in
    let n = length-take-le c.size_by_rule-n.result d.value (omega (arith, size_fits d.typecode, c.size_by_rule-n.ensures)) in
    let e = c.to_be_bytes.ensures ∙ two_big_endian d.id (omega arith) in
    rw (← c.size_by_rule-n.ensures) (record {
      buffer = rw (c.put_bytes-3.ensures, c.put_bytes-2.ensures, e) (put-put c.args.out.now c.args.at _ (_ ∷ _ ∷ _ ∷ _ ∷ []) _ refl (omega (arith, n)));
      ends = omega (arith, n);
    })
