-- How long the entry is.
use Rattle.std.proofs.Common.{◌≡◌, length, arith, rules}
use Rattle.baos.proofs.MeasureLaws.{value_length, description_length}
use Rattle.gets.proofs.gather.put_entry.Goals as goal

pub put_value-requires : goal.put_value-requires
put_value-requires c =
    let a = c.args in
    let h : length a.d.value ≡ 14 = search rules in
    (omega arith, omega (arith, value_length a.w a.d c.if-w.true h (omega arith)))

pub put_description-requires : goal.put_description-requires
put_description-requires c = omega (arith, description_length c.args.w c.args.d c.if-w.false)
