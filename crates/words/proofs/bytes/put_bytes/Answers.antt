use Rattle.std.proofs.Common.{◌≡◌, length, ◌∙◌, arith, take_all}
use Rattle.std.proofs.lemmas.List.Edits.{paste_more}
use Rattle.words.specs.Words.{put}
use Rattle.words.proofs.bytes.put_bytes.Goals as goal

pub loop-i-preserved : goal.loop-i-preserved
loop-i-preserved c =
    rw c.loop-i.invariant (paste_more c.args.out.now c.args.at c.args.s.now c.loop-i.i 0 (omega arith) (omega arith))

pub returns : goal.returns
unfolding put
returns c =
    let a = c.args in
    let e : c.loop-i.i ≡ length a.s.now = omega arith in
    c.loop-i.invariant ∙ rw (take_all c.loop-i.i a.s.now (omega arith), e)
