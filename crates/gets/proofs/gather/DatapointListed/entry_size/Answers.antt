-- The record is wanted if it passes the filter; its entry is a value's or a description's.
use Rattle.std.proofs.Common.{◌≡◌, refl, Some, sym, ◌∙◌, ap, true, false, arith}
use Rattle.words.proofs.WordLaws.{padded_decided, true_T}
use Rattle.baos.specs.Datapoint.{size_of}
use Rattle.baos.specs.Inner.Gather.{is_wanted}
use Rattle.baos.proofs.DatapointLaws.{parts, size_fits}
use Rattle.baos.proofs.MeasureLaws.{wanted_in_range, value_length, description_length}
use Rattle.baos.proofs.PassLaws.{code_fits}
use Rattle.gets.proofs.gather.DatapointListed.entry_size.Goals as goal

pub returns-then-not-passes_filter : goal.returns-then-not-passes_filter
returns-then-not-passes_filter c =
    let d = c.args.self.now in
    let e : is_wanted c.args.w d ≡ false = wanted_in_range c.args.w d c.requires.1 c.requires.2 ∙ sym c.passes_filter.ensures ∙ c.if-not-passes_filter.true in
    rw e refl

pub size_by_rule-requires : goal.size_by_rule-requires
size_by_rule-requires c = code_fits c.args.self.now (true_T c.requires.0)

pub overflow_add-result : goal.overflow_add-result
overflow_add-result c = omega (arith, c.size_by_rule.ensures, size_fits c.args.self.now.typecode)

pub returns-then-w : goal.returns-then-w
returns-then-w c =
    let d = c.args.self.now in
    let e : is_wanted c.args.w d ≡ true = wanted_in_range c.args.w d c.requires.1 c.requires.2 ∙ sym c.passes_filter.ensures ∙ c.if-not-passes_filter.false in
    let p = (padded_decided 14 (size_of d.typecode) d.value).0 (parts d (true_T c.requires.0)).unused in
    rw e (ap Some (omega (arith, c.size_by_rule.ensures, value_length c.args.w d c.if-w.true p.memory (code_fits d (true_T c.requires.0)))))

pub returns-else-w : goal.returns-else-w
returns-else-w c =
    let d = c.args.self.now in
    let e : is_wanted c.args.w d ≡ true = wanted_in_range c.args.w d c.requires.1 c.requires.2 ∙ sym c.passes_filter.ensures ∙ c.if-not-passes_filter.false in
    rw e (ap Some (sym (description_length c.args.w d c.if-w.false)))
