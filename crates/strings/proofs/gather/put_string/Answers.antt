-- The length's bytes and the text behind them are one write.
use Rattle.std.proofs.Common.{refl, arith}
use native.Mathlib.Numerals.{towards_suc}
use Rattle.strings.proofs.PassSteps.{string_put}
use Rattle.strings.proofs.gather.put_string.Goals as goal

pub returns : goal.returns
returns c =
    let a = c.args in
    record {
      buffer = rw c.put_bytes.ensures (simp towards_suc (string_put a.out.now a.at _ _ a.text.now (omega arith) refl c.requires.0 c.requires.1));
      ends = omega arith;
    }
