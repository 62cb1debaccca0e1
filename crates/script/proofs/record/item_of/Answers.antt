use Rattle.std.proofs.Common.{◌≡◌, length, replicate, take, drop, refl, arith, rules}
use Rattle.script.specs.Record.{item_of}
use Rattle.script.proofs.PlaceLaws.{length_part}
use Rattle.script.proofs.RecordLaws.{put_whole}
use Rattle.script.proofs.record.item_of.Goals as goal

pub returns : goal.returns
unfolding item_of
returns c =
    let a = c.args.line.now.bytes in
    let e : length a ≡ 264 = search rules in
    let w = put_whole (replicate 16 0) (take 16 (drop 4 a)) (length_part a 16 4 (omega (arith, e))) in
    rw (c.raised.ensures, c.byte.ensures, c.byte-2.ensures, c.byte-3.ensures, c.byte-4.ensures, c.array.ensures, w) refl
