-- A law of ReplyLaws for each exit.
use Rattle.std.proofs.Common.{sym, ap, ◌∙◌, ltb-true}
use Rattle.calls.proofs.BusLaws.{few, in_order}
use Rattle.dpt.specs.Reply.{Given}
use Rattle.dpt.proofs.ReadingLaws.{absent, present}
use Rattle.readings.proofs.ReplyLaws.{not_well, nowhere, there}
use Rattle.readings.proofs.reading.reading.Goals as goal

pub returns-then-not-is_well_formed : goal.returns-then-not-is_well_formed
returns-then-not-is_well_formed c = not_well c.args.id c.args.datapoints.now (sym c.is_well_formed.ensures ∙ c.if-not-is_well_formed.true)

pub place-requires-clause-few : goal.place-requires-clause-few
place-requires-clause-few c = few c.args.datapoints.now (sym c.is_well_formed.ensures ∙ c.if-not-is_well_formed.false)

pub place-requires-clause-rising : goal.place-requires-clause-rising
place-requires-clause-rising c = in_order c.args.datapoints.now (sym c.is_well_formed.ensures ∙ c.if-not-is_well_formed.false)

pub returns-in-Some : goal.returns-in-Some
returns-in-Some c =
    let d = c.in-Some.d.now in
    let found = c.in-Some.ensures.lookup in
    ap Given c.reading_of.ensures ∙ sym (present d _ c.if-d-id.true)
    ∙ there c.args.id c.args.datapoints.now (sym c.is_well_formed.ensures ∙ c.if-not-is_well_formed.false) c.place.result c.place.ensures d (ltb-true _ _ (sym found.0)) found.1

pub returns-in-Some-2 : goal.returns-in-Some-2
returns-in-Some-2 c =
    let d = c.in-Some.d.now in
    let found = c.in-Some.ensures.lookup in
    sym (absent d _ c.if-d-id.false)
    ∙ there c.args.id c.args.datapoints.now (sym c.is_well_formed.ensures ∙ c.if-not-is_well_formed.false) c.place.result c.place.ensures d (ltb-true _ _ (sym found.0)) found.1

pub returns-in-None : goal.returns-in-None
returns-in-None c =
    let past = rw c.in-None.is at c.get.ensures.lookup in
    nowhere c.args.id c.args.datapoints.now (sym c.is_well_formed.ensures ∙ c.if-not-is_well_formed.false) c.place.result c.place.ensures past.3
