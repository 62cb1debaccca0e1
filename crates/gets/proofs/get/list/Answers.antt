-- The request's finding comes first, and then that of the pass.
use Rattle.std.proofs.Common.{sym, inl, inr, arith}
use Rattle.std.proofs.lemmas.Result.{err_from_is_err_and}
use Rattle.baos.specs.Message.{finding_of}
use Rattle.baos.proofs.AnswerJoins.{sought}
use Rattle.gets.proofs.get.list.Goals as goal

pub returns-in_err-check_request : goal.returns-in_err-check_request
unfolding finding_of
returns-in_err-check_request g c =
    let p = err_from_is_err_and c.from_residual.result c.from_residual.ensures.1 in
    rw (p.1, p.2) (inl (sym c.in_err-check_request.ensures))

pub place-from-requires-clause-few : goal.place-from-requires-clause-few
place-from-requires-clause-few g c = omega (arith, g.met.R.Listed.few, (sought g.R.Listed.most g.R.Record.id_of g.R.Record.ok c.args.table.now c.requires).0)

pub place-from-requires-clause-rising : goal.place-from-requires-clause-rising
place-from-requires-clause-rising g c = (sought g.R.Listed.most g.R.Record.id_of g.R.Record.ok c.args.table.now c.requires).1

pub returns-in_err-found : goal.returns-in_err-found
unfolding finding_of
returns-in_err-found g c =
    let p = err_from_is_err_and c.from_residual-in_err-found.result c.from_residual-in_err-found.ensures.1 in
    rw (p.1, p.2, sym c.wanted-wanted.ensures, sym c.place-from.ensures) (inr (sym c.in_ok-check_request.ensures, c.in_err-found.ensures.0))

pub returns : goal.returns
unfolding finding_of
returns g c = (c.wanted-wanted.ensures, c.place-from.ensures, (sym c.in_ok-check_request.ensures, c.in_ok-found.ensures))
