use Rattle.std.proofs.Common.{◌≡◌, sym, ap, ◌∙◌}
use Rattle.dpt.specs.Reading.{reading_for}
use Rattle.dpt.specs.Reply.{reading_reply_by}
use Rattle.dpt.proofs.NumberLaws.{by_number}
use Rattle.script.proofs.PlaceLaws.{take_places}
use Rattle.cases.specs.Bench.{no_datapoint}
use Rattle.cases.specs.Read.{read_in}
use Rattle.cases.specs.View.{bench_of}
use Rattle.cases.proofs.ReadLaws.{given_number}
use Rattle.cases.proofs.read.has_read.Goals as goal

pub are_numbers-requires : goal.are_numbers-requires
unfolding read_in
are_numbers-requires c =
    let r : reading_reply_by c.map_err-reply.result ≡ read_in (bench_of c.args.bench.now) c.raised.result = by_number c.reading.result c.map_err-reply.result c.map_err-reply.ensures.cases ∙ c.reading.ensures ∙ ap (reading_for c.raised.result) (c.deref.ensures.0 ∙ sym (take_places 50 no_datapoint _)) in
    rw c.reply_numbers.ensures (given_number (bench_of c.args.bench.now) c.raised.result _ r)

pub returns : goal.returns
unfolding read_in
returns c =
    let r : reading_reply_by c.map_err-reply.result ≡ read_in (bench_of c.args.bench.now) c.raised.result = by_number c.reading.result c.map_err-reply.result c.map_err-reply.ensures.cases ∙ c.reading.ensures ∙ ap (reading_for c.raised.result) (c.deref.ensures.0 ∙ sym (take_places 50 no_datapoint _)) in
    rw (c.reply_numbers.ensures, r, c.raised.ensures, c.byte.ensures, c.byte-2.ensures, c.of_four_bytes-bits.ensures, c.byte-3.ensures, c.byte-4.ensures, c.byte-5.ensures, c.byte-6.ensures, c.byte-7.ensures, c.byte-8.ensures, c.byte-9.ensures) at c.are_numbers.ensures
