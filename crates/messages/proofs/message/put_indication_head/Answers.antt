use Rattle.std.proofs.Common.{◌≡◌, ◌+◌, ◌*◌, ◌/◌, ◌%◌, ◌<◌, get_or, arith, rules}
use Rattle.messages.proofs.message.put_indication_head.Goals as goal

pub returns : goal.returns
returns c =
    let high = get_or c.args.out.now (c.args.at + 6) 0 in
    let low = get_or c.args.out.now (c.args.at + 7) 0 in
    let h : low < 256 = search rules in
    let e : (high * 256 + low) / 256 ≡ high = omega arith in
    let f : (high * 256 + low) % 256 ≡ low = omega arith in
    rw (c.from_be_bytes-first.ensures, e, f) at c.put_head.ensures.buffer
