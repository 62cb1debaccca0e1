use Rattle.std.proofs.Common.{sym, ◌∙◌, ap, ℕ, ◌+◌, ◌-◌, refl, take, drop, get_or, arith}
use Rattle.baos.proofs.TextListLaws.{entry_here_lem}
use Rattle.texts.proofs.ListLaws.{none_at_end, none_of_another, none_empty, one}
use Rattle.texts.proofs.text.text_in.Goals as goal
use Rattle.texts.proofs.text.text_in.Goals.{then-list-at-via-then-list-at, then-list-at-via-else-list-at+then-id_at-id}

pub id_at-requires : goal.id_at-requires
id_at-requires c = omega (arith, (entry_here_lem c.args.id c.args.at c.args.list.now c.requires.0 c.requires.1 (omega arith)).whole)

pub returns-then-list-at : goal.returns-then-list-at
returns-then-list-at c =
    let a = c.args in
    elim c.then-list-at.branch [
      | then-list-at-via-then-list-at w ↦ none_at_end a.id a.at a.list.now c.requires.0 c.requires.1 (omega arith)
      | then-list-at-via-else-list-at+then-id_at-id w ↦ none_of_another a.id a.at a.list.now c.requires.0 c.requires.1 (omega arith) (λ e. w.if-id_at-id.true (w.id_at.ensures ∙ e))
    ]

pub bounds-list-at : goal.bounds-list-at
bounds-list-at c = omega (arith, (entry_here_lem c.args.id c.args.at c.args.list.now c.requires.0 c.requires.1 (omega arith)).whole)

pub returns-then-size-eq0 : goal.returns-then-size-eq0
returns-then-size-eq0 c = none_empty c.args.id c.args.at c.args.list.now c.requires.0 c.requires.1 (omega arith) (sym c.id_at.ensures ∙ c.if-id_at-id.false) (omega arith)

pub slice_bounds-result-end : goal.slice_bounds-result-end
slice_bounds-result-end c = omega (arith, (entry_here_lem c.args.id c.args.at c.args.list.now c.requires.0 c.requires.1 (omega arith)).whole)

pub returns : goal.returns
returns c =
    let a = c.args in
    let n : ℕ = get_or a.list.now (a.at + 2) 0 in (
      record { id = a.id; from = a.at + 3; size = n },
      one a.id a.at a.list.now c.requires.0 c.requires.1 (omega arith) (sym c.id_at.ensures ∙ c.if-id_at-id.false) c.if-size-eq0.false,
      record { list = refl; place = refl; bytes = ap (λ (k : ℕ). take k (drop (a.at + 3) a.list.now)) {x = a.at + 3 + n - (a.at + 3)} {y = n} (omega arith) },
    )
