-- The request's finding comes first, and then that of the pass. The search in the text lists begins at their start.
use Rattle.std.proofs.Common.{sym, inl, inr}
use Rattle.std.proofs.lemmas.Result.{err_from_is_err_and}
use Rattle.baos.specs.Datapoint.{datapoint_id, datapoint_ok}
use Rattle.baos.specs.Message.{finding_of}
use Rattle.baos.specs.Text.{text_lists}
use Rattle.baos.proofs.AnswerJoins.{sought}
use Rattle.baos.proofs.TextLaws.{reached_start}
use Rattle.strings.proofs.get.list.Goals as goal

pub returns-in_err-check_request : goal.returns-in_err-check_request
unfolding finding_of
returns-in_err-check_request c =
    let p = err_from_is_err_and c.from_residual.result c.from_residual.ensures.1 in
    rw (p.1, p.2) (inl (sym c.in_err-check_request.ensures))

pub place-from-requires-clause-few : goal.place-from-requires-clause-few
place-from-requires-clause-few c = (sought 1000 datapoint_id datapoint_ok c.args.table.now c.requires).0

pub place-from-requires-clause-rising : goal.place-from-requires-clause-rising
place-from-requires-clause-rising c = (sought 1000 datapoint_id datapoint_ok c.args.table.now c.requires).1

pub cursors_at-cursors-requires : goal.cursors_at-cursors-requires
cursors_at-cursors-requires c = reached_start c.wanted-wanted.result.start (text_lists c.args.texts.site.now c.args.texts.defaults.now)

pub returns-in_err-found : goal.returns-in_err-found
unfolding finding_of
returns-in_err-found c =
    let p = err_from_is_err_and c.from_residual-in_err-found.result c.from_residual-in_err-found.ensures.1 in
    rw (p.1, p.2, sym c.wanted-wanted.ensures, sym c.place-from.ensures) (inr (sym c.in_ok-check_request.ensures, c.in_err-found.ensures.0))

pub returns : goal.returns
unfolding finding_of
returns c = (c.wanted-wanted.ensures, c.place-from.ensures, c.cursors_at-cursors.ensures, (sym c.in_ok-check_request.ensures, c.in_ok-found.ensures))
