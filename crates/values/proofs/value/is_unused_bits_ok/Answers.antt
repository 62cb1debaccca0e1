use Rattle.std.proofs.Common.{◌≤◌, ◌*◌, ◌^◌, sym, ap, ◌∙◌, get_or, arith}
use Rattle.std.proofs.Math.Dec.{ltb}
use Rattle.std.proofs.Math.Nat.{mod-eq_of_lt}
use Rattle.std.proofs.Math.Pow.{pow_mono}
use Rattle.std.proofs.lemmas.Bool.{lt-ltb}
use Rattle.baos.specs.Datapoint.{unused_bits_ok}
use Rattle.baos.proofs.ValueLaws.{none_unused, limit_of_whole, below_limit}
use Rattle.values.proofs.value.is_unused_bits_ok.Goals as goal

pub returns-in_default : goal.returns-in_default
returns-in_default c = sym (none_unused _ _ (omega arith))

pub returns-then-typecode-gt14 : goal.returns-then-typecode-gt14
unfolding unused_bits_ok
returns-then-typecode-gt14 c =
    let a = c.args in
    lt-ltb 14 a.typecode (omega arith) ∙ sym (ap (ltb (get_or a.value.now 0 0)) (limit_of_whole a.typecode (omega arith)) ∙ lt-ltb (get_or a.value.now 0 0) 256 (omega (arith, c.type_inv.value 0)))

pub returns-else-typecode-gt14 : goal.returns-else-typecode-gt14
unfolding unused_bits_ok
returns-else-typecode-gt14 c =
    let a = c.args in
    let small : 2 ^ a.typecode ≤ 2 ^ 14 = pow_mono {i = a.typecode} {j = 14} (omega arith) in
    ap (ltb (get_or a.value.now 0 0)) (mod-eq_of_lt {n = 2 * 2 ^ a.typecode} {m = 4294967296} (omega (arith, small)))
    ∙ below_limit a.typecode (get_or a.value.now 0 0) (omega (arith, c.type_inv.value 0))
