-- A law of RisenLaws for each answer: what stands at the record, or the four, that the turn looks at.
use Rattle.std.proofs.Common.{not, sym, ap, ◌∙◌, drop_of_length-le}
use Rattle.baos.proofs.RisenLaws.{stops_at, too_many, table_is, risen}
use Rattle.tables.proofs.RisenLaws.{one_left, four_left}
use Rattle.tables.proofs.table.is_well_formed.Goals as goal

pub returns-then-table-most : goal.returns-then-table-most
returns-then-table-most g c = let r = g.R.Record in too_many r.id_of r.ok c.args.most c.args.table.now c.if-table-most.true

-- one of the four is ill placed or ill formed
pub returns-then-not-four_fit_after : goal.returns-then-not-four_fit_after
returns-then-not-four_fit_after g c =
    let r = g.R.Record in
    let l = c.loop-rest in
    stops_at _ c.four_fit_after.ensures (ap not c.if-not-four_fit_after.true)
    ∙ four_left r.id_of r.ok l.last l.rest.now c.a-item.result c.b-item.result c.c-item.result c.d-item.result c.in-len4-up.len_at_least c.a-item.is c.b-item.is c.c-item.is c.d-item.is
    ∙ l.invariant ∙ sym (table_is r.id_of r.ok c.args.most c.args.table.now c.if-table-most.false)

pub returns-then-not-fits_after : goal.returns-then-not-fits_after
returns-then-not-fits_after g c =
    let r = g.R.Record in
    let l = c.loop-record in
    stops_at _ c.fits_after.ensures (ap not c.if-not-fits_after.true)
    ∙ one_left r.id_of r.ok l.last c.loop-rest.rest.now l.record-index c.record-item.result c.loop-record-test.true c.record-item.is
    ∙ l.invariant ∙ sym (table_is r.id_of r.ok c.args.most c.args.table.now c.if-table-most.false)

pub returns : goal.returns
returns g c =
    let r = g.R.Record in
    let l = c.loop-record in
    sym (ap (risen r.id_of r.ok l.last) (drop_of_length-le c.loop-rest.rest.now c.loop-record-test.false))
    ∙ l.invariant ∙ sym (table_is r.id_of r.ok c.args.most c.args.table.now c.if-table-most.false)
