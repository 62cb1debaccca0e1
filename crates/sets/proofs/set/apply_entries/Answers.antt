-- One entry applied: the rest is applied to what it leaves.
use Rattle.std.proofs.Common.{arith}
use Rattle.sets.proofs.Loops.{walking_inside, applying_begins, applying_done, applying_few, applying_rises, applying_short, applying_next, placed_upto, placed_same}
use Rattle.sets.proofs.set.apply_entries.Goals as goal

pub loop-k-init : goal.loop-k-init
loop-k-init g c =
    let t = g.T.Settable in
    applying_begins g.T.Record.id_of t.changed t.first t.HEAD t.room c.args.m.now c.args.table.now c.args.n c.requires.2 c.requires.3

pub place_of-index-requires : goal.place_of-index-requires
place_of-index-requires g c =
    let l = c.loop-k.invariant in (
      applying_few l g.T.Settable.most c.requires.0,
      applying_rises l c.requires.1,
      walking_inside g.met.T.Settable.laws.has_id l.walking (omega arith),
      l.walking.begun,
      placed_same (placed_upto c.requires.4 (omega arith)) l.same,
    )

pub apply_at-requires : goal.apply_at-requires
apply_at-requires g c =
    let l = c.loop-k.invariant in
    (applying_rises l c.requires.1, walking_inside g.met.T.Settable.laws.has_id l.walking (omega arith), applying_short l (omega arith), c.place_of-index.ensures)

pub entry_end-at-requires : goal.entry_end-at-requires
entry_end-at-requires g c =
    let laws = g.met.T.Settable.laws in
    rw c.HEAD.ensures (omega (arith, laws.has_id), laws.is_short, walking_inside laws.has_id c.loop-k.invariant.walking (omega arith))

pub loop-k-preserved : goal.loop-k-preserved
loop-k-preserved g c =
    let laws = g.met.T.Settable.laws in
    rw (c.entry_end-at.ensures, c.HEAD.ensures) (applying_next c.loop-k.invariant (omega arith) laws.keeps_id laws.has_id c.apply_at.new.table c.apply_at.ensures)

pub returns : goal.returns
returns g c = applying_done c.loop-k.invariant (omega arith)
