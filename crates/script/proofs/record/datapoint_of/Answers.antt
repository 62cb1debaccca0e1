use Rattle.std.proofs.Common.{◌≡◌, length, replicate, take, drop, refl, arith, rules}
use Rattle.script.specs.Record.{datapoint_of}
use Rattle.script.proofs.PlaceLaws.{length_part}
use Rattle.script.proofs.RecordLaws.{put_whole}
use Rattle.script.proofs.record.datapoint_of.Goals as goal

pub returns : goal.returns
unfolding datapoint_of
returns c =
    let a = c.args.line.now.bytes in
    let e : length a ≡ 264 = search rules in
    let w = put_whole (replicate 14 0) (take 14 (drop 9 a)) (length_part a 14 9 (omega (arith, e))) in
    rw (c.raised.ensures, c.risen.ensures, c.byte.ensures, c.byte-2.ensures, c.byte-3.ensures, c.byte-4.ensures, c.byte-5.ensures, c.byte-6.ensures, c.byte-7.ensures, c.byte-8.ensures, c.byte-9.ensures, c.array-value.ensures, w) refl
