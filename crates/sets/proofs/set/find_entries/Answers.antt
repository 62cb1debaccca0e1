-- An entry that does not fit ends the loop; one that fits is found.
use Rattle.std.proofs.Common.{◌+◌, drop, sym, ◌∙◌, ap, ℕ, arith}
use Rattle.baos.specs.Table.{place}
use Rattle.sets.specs.Settable.{Placed}
use Rattle.sets.proofs.Loops.{seeking_begins, seeking_ends, seeking_no_head, seeking_no_value, seeking_next, placed_full, placed_next, place_within}
use Rattle.sets.proofs.set.find_entries.Goals as goal
use Rattle.sets.proofs.set.find_entries.Goals.{then-k-places, else-k-places}

pub loop-k-init : goal.loop-k-init
loop-k-init g c =
    let t = g.T.Settable in
    seeking_begins g.T.Record.id_of t.first t.HEAD c.args.request.message.now c.args.table.now c.args.n c.args.request.has_head c.args.places.now

pub returns-then-m-at-clause-filled : goal.returns-then-m-at-clause-filled
returns-then-m-at-clause-filled g c = seeking_no_head c.loop-k.invariant g.met.T.Settable.laws.has_id (omega arith) c.HEAD-head.ensures (omega arith)

pub returns-then-m-at-2-clause-filled : goal.returns-then-m-at-2-clause-filled
returns-then-m-at-2-clause-filled g c =
    seeking_no_value c.loop-k.invariant g.met.T.Settable.laws.has_id (omega arith) c.HEAD-head.ensures c.if-m-at.false c.if-m-at-2.true

pub overflow_cast-places : goal.overflow_cast-places
overflow_cast-places g c =
    omega (arith, c.place.ensures, place_within g.T.Record.id_of c.entry_id.result c.args.table.now, c.requires.0, g.met.T.Settable.laws.few)

pub loop-k-preserved : goal.loop-k-preserved
loop-k-preserved g c =
    let t = g.T.Settable in
    let laws = g.met.T.Settable.laws in
    let m = c.args.request.message.now in
    let xs = c.args.table.now in
    let before = c.loop-k.invariant in
    let found : Placed g.T.Record.id_of t.first t.HEAD m xs (c.loop-k.k + 1) c.if-k-places.places =
    elim c.if-k-places.branch [
      | then-k-places w ↦ rw w.places-is
          (placed_next before.placed w.place.result w.if-k-places.true
          (w.place.ensures ∙ ap (λ (i : ℕ). place g.T.Record.id_of i xs) (w.entry_id.ensures ∙ sym (laws.reads_id (drop c.loop-k.at m)))
          ∙ ap (λ (a : ℕ). place g.T.Record.id_of (t.first (drop a m)).id xs) before.begun))
      | else-k-places w ↦ rw w.places-is (placed_full before.placed w.if-k-places.false)
    ] in
    seeking_next before laws.has_id (omega arith) c.HEAD-head.ensures c.if-m-at-2.false _ found

pub returns-clause-filled : goal.returns-clause-filled
returns-clause-filled g c = seeking_ends c.loop-k.invariant (omega arith)
