-- The size by rule is that of the value's type, and an entry is four bytes longer.
use Rattle.std.proofs.Common.{◌≡◌, sym, ◌-◌, arith, length, rules}
use Rattle.baos.proofs.ValueLaws.{size_of_bits}
use Rattle.baos.proofs.DatapointLaws.{size_fits}
use Rattle.baos.proofs.IndicationLaws.{waits_is}
use Rattle.indications.proofs.indication.waits.Goals as goal

pub returns-then-d-lt8 : goal.returns-then-d-lt8
returns-then-d-lt8 c =
    let a = c.args in
    let h : length a.d.value ≡ 14 = search rules in
    waits_is a.d 1 (a.most - a.end) h (sym (size_of_bits a.d.typecode (omega arith)))

pub overflow_add-result : goal.overflow_add-result
overflow_add-result c = omega (arith, c.size_by_rule.ensures, size_fits c.args.d.typecode)

pub returns-else-d-lt8 : goal.returns-else-d-lt8
returns-else-d-lt8 c =
    let a = c.args in
    let h : length a.d.value ≡ 14 = search rules in
    waits_is a.d c.size_by_rule.result (a.most - a.end) h c.size_by_rule.ensures
