use Rattle.std.proofs.Common.{◌≡◌, bit_or, fold, rules}
use Rattle.words.proofs.ByteLaws.{zero_folded}
use Rattle.words.proofs.bytes.run_is_zero.Goals as goal

pub returns : goal.returns
returns c =
    let e : c.fold.result ≡ fold bit_or 0 c.args.run.now = search rules in
    rw e (zero_folded c.args.run.now 0)
