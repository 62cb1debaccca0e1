-- An entry with something wrong ends the loop; where none is left, none had.
use Rattle.std.proofs.Common.{◌∙◌, drop, sym, ap, ℕ, arith}
use Rattle.baos.specs.Message.{code_of, finding_of, bad, code_number}
use Rattle.baos.proofs.SetLaws.{span_head}
use Rattle.sets.proofs.Loops.{walking_inside, judging_begins, judging_done, judging_stops, judging_next, placed_upto}
use Rattle.sets.proofs.set.judge_entries.Goals as goal

pub loop-k-init : goal.loop-k-init
loop-k-init g c = judging_begins _ g.T.Settable.first g.T.Settable.HEAD c.args.m.now c.args.n c.requires.2

pub place_of-index-requires : goal.place_of-index-requires
place_of-index-requires g c =
    let w = c.loop-k.invariant.walking in
    (c.requires.0, c.requires.1, walking_inside g.met.T.Settable.laws.has_id w (omega arith), w.begun, placed_upto c.requires.3 (omega arith))

pub judge_at-requires : goal.judge_at-requires
judge_at-requires g c = (c.requires.1, walking_inside g.met.T.Settable.laws.has_id c.loop-k.invariant.walking (omega arith), c.place_of-index.ensures)

pub entry_id-id-requires : goal.entry_id-id-requires
entry_id-id-requires g c =
    let head = g.met.T.Settable.laws.has_id in
    omega (arith, walking_inside head c.loop-k.invariant.walking (omega arith), head, span_head g.T.Settable.HEAD (drop c.loop-k.at c.args.m.now))

pub returns-in-Err : goal.returns-in-Err
unfolding finding_of code_of
returns-in-Err g c =
    let laws = g.met.T.Settable.laws in
    ap (λ (i : ℕ). bad i (code_number c.in-Err.code)) (c.entry_id-id.ensures ∙ sym (laws.reads_id (drop c.loop-k.at c.args.m.now)))
    ∙ judging_stops c.loop-k.invariant laws.has_id (omega arith) c.in-Err.code c.in-Err.ensures

pub entry_end-at-requires : goal.entry_end-at-requires
entry_end-at-requires g c =
    let laws = g.met.T.Settable.laws in
    rw c.HEAD.ensures (omega (arith, laws.has_id), laws.is_short, walking_inside laws.has_id c.loop-k.invariant.walking (omega arith))

pub loop-k-preserved : goal.loop-k-preserved
unfolding code_of
loop-k-preserved g c =
    rw (c.entry_end-at.ensures, c.HEAD.ensures) (judging_next c.loop-k.invariant g.met.T.Settable.laws.has_id (omega arith) c.in_default.ensures)

pub returns : goal.returns
unfolding finding_of
returns g c = sym (judging_done c.loop-k.invariant (omega arith))
