-- A law of BusLaws for each exit: the answer and the table go by the record at the place where the ID belongs.
use Rattle.std.proofs.Common.{ℕ, List, [], ◌≡◌, ◌<◌, length, get_or, sym, ◌∙◌, ap, arith}
use Rattle.std.proofs.lemmas.List.{get_or_default}
use borrow.Author.Tests.{eq-eqb}
use Rattle.words.proofs.WordLaws.{true_T}
use Rattle.baos.specs.declared.datapoint.Datapoint.{Datapoint}
use Rattle.baos.specs.Datapoint.{datapoint_id, zero_datapoint}
use Rattle.baos.specs.Table.{place}
use Rattle.calls.proofs.BusLaws.{few, in_order, takes_there, refused_nowhere, refused_here, accepted_here, takes_byte, accepted_byte}
use Rattle.refusals.proofs.bus.on_bus_event.Goals as goal

-- the record that a read past the table's end would give
abbrev blank : Datapoint
blank = record { id = 0; typecode = 0; flags = 0; dpt = 0; state = 0; value = []; mark = 0 }

-- the record read at the place is the one that the laws look at
read : (id : ℕ) (ds : List Datapoint) (p : ℕ) → p < length ds → p ≡ place datapoint_id id ds → get_or ds (place datapoint_id id ds) zero_datapoint ≡ get_or ds p blank
read id ds p l e = ap (λ (k : ℕ). get_or ds k zero_datapoint) (sym e) ∙ get_or_default ds p zero_datapoint blank l

pub place-place-requires-clause-few : goal.place-place-requires-clause-few
place-place-requires-clause-few c = few c.args.datapoints.now c.requires

pub place-place-requires-clause-rising : goal.place-place-requires-clause-rising
place-place-requires-clause-rising c = in_order c.args.datapoints.now c.requires

pub returns-then-datapoints-place : goal.returns-then-datapoints-place
returns-then-datapoints-place c = refused_nowhere _ _ _ _ c.requires (omega (arith, c.place-place.ensures))

pub returns-then-not-takes_event : goal.returns-then-not-takes_event
returns-then-not-takes_event c =
    refused_here _ _ _ _ c.requires (omega (arith, c.place-place.ensures))
    (rw (read c.args.id c.args.datapoints.now c.place-place.result (omega arith) c.place-place.ensures) (sym c.takes_event.ensures ∙ c.if-not-takes_event.true))

pub after_byte-requires : goal.after_byte-requires
after_byte-requires c =
    let here = read c.args.id c.args.datapoints.now c.place-place.result (omega arith) c.place-place.ensures in
    rw (sym here)
    (takes_byte c.args.event c.args.id c.args.value.now c.args.datapoints.now c.requires (true_T (eq-eqb (length c.args.value.now) 1 c.if-value-eq1.true))
    (rw here (sym c.takes_event.ensures ∙ c.if-not-takes_event.false)))

pub returns-then-value-eq1 : goal.returns-then-value-eq1
returns-then-value-eq1 c =
    let here = read c.args.id c.args.datapoints.now c.place-place.result (omega arith) c.place-place.ensures in
    rw (c.after_byte.ensures, sym here, c.place-place.ensures)
    (accepted_byte c.args.event c.args.id c.args.value.now c.args.datapoints.now c.requires (true_T (eq-eqb (length c.args.value.now) 1 c.if-value-eq1.true)) (omega (arith, c.place-place.ensures))
    (rw here (sym c.takes_event.ensures ∙ c.if-not-takes_event.false)))

pub after_event-requires : goal.after_event-requires
after_event-requires c =
    let here = read c.args.id c.args.datapoints.now c.place-place.result (omega arith) c.place-place.ensures in
    rw (sym here)
    (takes_there c.args.event c.args.id c.args.value.now c.args.datapoints.now c.requires
    (rw here (sym c.takes_event.ensures ∙ c.if-not-takes_event.false)))

pub returns : goal.returns
returns c =
    let here = read c.args.id c.args.datapoints.now c.place-place.result (omega arith) c.place-place.ensures in
    rw (c.after_event.ensures, sym here, c.place-place.ensures)
    (accepted_here c.args.event c.args.id c.args.value.now c.args.datapoints.now c.requires (omega (arith, c.place-place.ensures))
    (rw here (sym c.takes_event.ensures ∙ c.if-not-takes_event.false)))
