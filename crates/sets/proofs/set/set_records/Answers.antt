-- Rows 10 and 6, and then what the entries say: where nothing is wrong, no entry is longer than its record's memory.
use Rattle.std.proofs.Common.{◌∙◌, sym, ap, ℕ, drop}
use Rattle.std.proofs.lemmas.Result.{err_from_is_err_and}
use Rattle.baos.specs.Message.{finding_of, code_number, bad}
use Rattle.baos.specs.Set.{set_entries, applied}
use Rattle.baos.proofs.LeftLaws.{ok_table}
use Rattle.sets.specs.Settable.{entries_of}
use Rattle.sets.proofs.Loops.{unfilled, no_entry, by_entries}
use Rattle.sets.proofs.set.set_records.Goals as goal

pub find_entries-requires : goal.find_entries-requires
find_entries-requires g c =
    let ok = ok_table g.T.Settable.most g.T.Record.id_of g.T.Record.ok c.args.table.now c.requires in
    ok

pub returns-then-not-find_entries-clause-judged : goal.returns-then-not-find_entries-clause-judged
unfolding finding_of code_number
returns-then-not-find_entries-clause-judged g c =
    ap (λ (i : ℕ). bad i 10) c.start_of-id.ensures ∙ unfilled _ _ _ _ c.number_of-n.ensures (sym c.find_entries.ensures.filled ∙ c.if-not-find_entries.true)

pub returns-then-n-eq0-clause-judged : goal.returns-then-n-eq0-clause-judged
unfolding finding_of code_number
returns-then-n-eq0-clause-judged g c =
    let filled = sym c.find_entries.ensures.filled ∙ c.if-not-find_entries.false in
    ap (λ (i : ℕ). bad i 6) c.start_of-id.ensures ∙ no_entry _ _ _ _ c.number_of-n.ensures filled c.if-n-eq0.true

pub judge_entries-requires : goal.judge_entries-requires
judge_entries-requires g c =
    let ok = ok_table g.T.Settable.most g.T.Record.id_of g.T.Record.ok c.args.table.now c.requires in
    (ok.0, ok.1, sym c.find_entries.ensures.filled ∙ c.if-not-find_entries.false, c.find_entries.ensures.placed c.if-not-find_entries.false)

pub returns-in_err-judge_entries-clause-judged : goal.returns-in_err-judge_entries-clause-judged
unfolding finding_of
returns-in_err-judge_entries-clause-judged g c =
    let p = err_from_is_err_and c.from_residual.result c.from_residual.ensures.1 in
    let filled = sym c.find_entries.ensures.filled ∙ c.if-not-find_entries.false in
    rw (p.1, p.2) (c.in_err-judge_entries.ensures ∙ by_entries _ _ _ _ c.number_of-n.ensures filled c.if-n-eq0.false)

pub apply_entries-requires : goal.apply_entries-requires
unfolding finding_of
apply_entries-requires g c =
    let ok = ok_table g.T.Settable.most g.T.Record.id_of g.T.Record.ok c.args.table.now c.requires in (
      ok.0,
      ok.1,
      sym c.find_entries.ensures.filled ∙ c.if-not-find_entries.false,
      g.met.T.Settable.laws.fits c.args.table.now _ c.requires (sym c.in_ok-judge_entries.ensures),
      c.find_entries.ensures.placed c.if-not-find_entries.false,
    )

pub returns-clause-judged : goal.returns-clause-judged
unfolding finding_of
returns-clause-judged g c =
    let filled = sym c.find_entries.ensures.filled ∙ c.if-not-find_entries.false in
    c.in_ok-judge_entries.ensures ∙ by_entries _ _ _ _ c.number_of-n.ensures filled c.if-n-eq0.false

pub returns-clause-left : goal.returns-clause-left
unfolding entries_of
returns-clause-left g c =
    let t = g.T.Settable in
    c.apply_entries.ensures ∙ ap (λ (n : ℕ). applied g.T.Record.id_of t.changed (set_entries t.first t.HEAD n (drop 6 c.args.request.message.now)) c.args.table.now) c.number_of-n.ensures
