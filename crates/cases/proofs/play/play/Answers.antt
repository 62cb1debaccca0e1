-- the laws of the loop (ScriptLaws)
use Rattle.std.proofs.Common.{true, refl, ap, ◌∙◌, arith}
use Rattle.script.specs.Line.{read_line}
use Rattle.cases.specs.Bench.{Bench}
use Rattle.cases.specs.Script.{standing}
use Rattle.cases.proofs.ScriptLaws.{playing_begins, some_left, none_left, line_within, line_some, playing_goes, playing_ends}
use Rattle.cases.proofs.play.play.Goals as goal

pub loop-rest-init : goal.loop-rest-init
loop-rest-init c = playing_begins _ _ _ c.empty-wanted.ensures (c.new-stand.ensures ∙ ap (λ (b : Bench). standing b true 1000) c.empty.ensures)

pub split_at-requires : goal.split_at-requires
split_at-requires c = line_within c.loop-rest.rest.now _ (some_left _ c.loop-rest-test.ensures) c.line_end.ensures

pub read-line-requires : goal.read-line-requires
read-line-requires c =
    omega (arith, c.split_at.ensures.front_len, line_some c.loop-rest.rest.now c.line_end.result (some_left _ c.loop-rest-test.ensures) c.line_end.ensures)

pub loop-rest-smaller : goal.loop-rest-smaller
loop-rest-smaller c =
    omega (arith, c.split_at.ensures.back_len, line_some c.loop-rest.rest.now c.line_end.result (some_left _ c.loop-rest-test.ensures) c.line_end.ensures)

pub loop-rest-preserved : goal.loop-rest-preserved
loop-rest-preserved c =
    rw c.split_at.ensures.back
    (playing_goes c.loop-rest.rest.now c.line_end.result (some_left _ c.loop-rest-test.ensures) c.line_end.ensures _ _ _ _ _ _ _ _ _ (c.read-line.ensures ∙ ap read_line c.split_at.ensures.front) c.tell.ensures c.act.ensures c.holds-holds.ensures refl c.loop-rest.invariant)

pub returns : goal.returns
returns c = playing_ends _ _ _ _ _ (none_left _ c.loop-rest-test.ensures) c.loop-rest.invariant
