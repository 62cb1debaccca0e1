-- The laws of MeasureSteps: what is known of the record at hand, a turn that goes on, and each end of the pass.
use Rattle.std.proofs.Common.{ℕ, rules, sym, ◌∙◌, ap, arith}
use Rattle.std.proofs.lemmas.Result.{MatchResult-at_ok, MatchResult-at_err, err_from_is_err_and}
use Rattle.baos.proofs.MeasureLaws.{not_behind}
use Rattle.baos.specs.declared.code.Code.TheVariants.{BufferTooSmall}
use Rattle.baos.specs.Inner.Gather.{is_behind}
use Rattle.gets.proofs.MeasureSteps.{with_found, inside, measured_none, in_front, passes, size_some, size_none, comes_end, comes_behind, goes_over, goes_on, found_over, judged}
use Rattle.gets.proofs.gather.measure.Goals.{in-Some+in_ok-found, in_default, else-loop-record-test, then-loop-record-test+then-is_behind}
use Rattle.gets.proofs.gather.measure.Goals as goal

pub offset_bounds-table-from : goal.offset_bounds-table-from
offset_bounds-table-from g c = inside g.R.Listed.most g.R.Record.id_of g.R.Record.ok g.R.Listed.is_wanted g.R.Listed.entry c.args.w c.args.table.now c.args.from c.requires.0 c.requires.1

pub slice_bounds-record-items-count : goal.slice_bounds-record-items-count
slice_bounds-record-items-count g c = inside g.R.Listed.most g.R.Record.id_of g.R.Record.ok g.R.Listed.is_wanted g.R.Listed.entry c.args.w c.args.table.now c.args.from c.requires.0 c.requires.1

pub slice_bounds-record-items-start : goal.slice_bounds-record-items-start
slice_bounds-record-items-start g c = inside g.R.Listed.most g.R.Record.id_of g.R.Record.ok g.R.Listed.is_wanted g.R.Listed.entry c.args.w c.args.table.now c.args.from c.requires.0 c.requires.1

pub loop-record-init : goal.loop-record-init
loop-record-init g c = measured_none g.R.Listed.most g.R.Record.id_of g.R.Record.ok g.R.Listed.is_wanted g.R.Listed.entry c.args.w c.args.table.now c.args.from c.requires.0 c.requires.1 c.new-found.result c.new-found.ensures.0 c.new-found.ensures.1

pub entry_size-requires : goal.entry_size-requires
entry_size-requires g c =
    let h = c.loop-record.invariant in
    let r = c.record-item.result in
    let ahead = ap (is_behind c.args.w) (sym c.id.ensures) ∙ sym c.is_behind.ensures ∙ c.if-is_behind.false in
    (passes h c.loop-record-test.true r c.record-item.is, in_front h c.loop-record-test.true r c.record-item.is, not_behind c.args.w _ ahead)

pub with_entry-requires : goal.with_entry-requires
with_entry-requires g c =
    let n = size_some _ _ c.in-Some.size c.in-Some.ensures in
    let b = g.met.R.Listed.entry_bounds c.args.w _ (passes c.loop-record.invariant c.loop-record-test.true c.record-item.result c.record-item.is) in
    (c.loop-record.invariant.few, omega (arith, b.1, n.1))

pub returns-in_err-found : goal.returns-in_err-found
returns-in_err-found g c =
    let r = c.record-item.result in
    let s = c.in_err-found.field-0.0 in
    let ahead = ap (is_behind c.args.w) (sym c.id.ensures) ∙ sym c.is_behind.ensures ∙ c.if-is_behind.false in
    let p = err_from_is_err_and c.from_residual.result c.from_residual.ensures.1 in
    let f = MatchResult-at_err _ _ s c.in_err-found.was (with_found _ _ _ c.loop-record.found c.with_entry.result c.map_err.result c.with_entry.ensures c.map_err.ensures.cases (λ f s k. (search rules, search rules, search rules))) in
    let n = size_some _ _ c.in-Some.size c.in-Some.ensures in
    rw (p.1, p.2)
    (found_over c.loop-record.invariant c.loop-record-test.true r c.record-item.is ahead n.0 c.in-Some.size n.1 c.args.w.start (g.met.R.Listed.entry_id c.args.w r) c.requires.0 c.requires.1 f.2.0
    f.0 (f.2.1 ∙ ap (λ (i : ℕ). record { id = i; code = BufferTooSmall }) c.id-in-Some.ensures) s f.1)

pub loop-record-preserved : goal.loop-record-preserved
loop-record-preserved g c =
    let h = c.loop-record.invariant in
    let r = c.record-item.result in
    let ahead = ap (is_behind c.args.w) (sym c.id.ensures) ∙ sym c.is_behind.ensures ∙ c.if-is_behind.false in
    elim c.match-entry_size.branch [
      | in-Some+in_ok-found w ↦
          let x = w.in_ok-found.found in
          let f = MatchResult-at_ok _ _ x w.in_ok-found.was (with_found _ _ _ c.loop-record.found w.with_entry.result w.map_err.result w.with_entry.ensures w.map_err.ensures.cases (λ f s k. (search rules, search rules, search rules))) in
          let n = size_some _ _ w.in-Some.size w.in-Some.ensures in
          let b = g.met.R.Listed.entry_bounds c.args.w _ (passes h c.loop-record-test.true r c.record-item.is) in
          rw w.found-is (goes_on h c.loop-record-test.true r c.record-item.is ahead n.0 w.in-Some.size n.1 (omega (arith, b.0, n.1)) x f.0 f.1)
      | in_default w ↦ rw w.found-is (goes_over h c.loop-record-test.true r c.record-item.is ahead (size_none _ _ (sym c.entry_size.ensures ∙ w.in_default.is)))
    ]

pub returns : goal.returns
returns g c =
    let h = c.loop-record.invariant in
    let e = c.loop-record.found in
    let r = c.map_err-2.result in
    judged c.args.w.start _ e
    (elim c.loop-record-test.branch [
      | else-loop-record-test w ↦ comes_end h w.loop-record-test.false
      | then-loop-record-test+then-is_behind w ↦
          comes_behind h w.loop-record-test.true w.record-item.result w.record-item.is (ap (is_behind c.args.w) (sym w.id.ensures) ∙ sym w.is_behind.ensures ∙ w.if-is_behind.true)
    ])
    r (with_found _ _ _ e c.unless_none.result r c.unless_none.ensures c.map_err-2.ensures.cases (λ f s k. (search rules, search rules, search rules)))
