-- A law of EntryLaws for each answer.
use Rattle.std.proofs.Common.{◌≡◌, ℕ, Bool, true, false, eqb, eq-eqb, not, inl, inr, sym, ap, ◌∙◌, arith}
use borrow.Author.Tests.{eqb-true}
use Rattle.baos.specs.Lookup.{is_present}
use Rattle.baos.specs.Message.{code_of, code_number}
use Rattle.baos.proofs.EntryLaws.{here, taken_by, code_of_absent, code_of_command, code_of_none_1, code_of_none_3, code_of_none, code_of_size, code_of_bits, code_of_value}
use Rattle.baos.proofs.LookupLaws.{absent_at}
use Rattle.commands.proofs.command.judge_entry.Goals as goal

true_false : true ≡ false → ⊥
true_false e = cc

-- a value that is not empty, by the test
not_none : (n : ℕ) {b : Bool} → b ≡ eqb n 0 → b ≡ false → n ≡ 0 → ⊥
not_none n e f z = true_false (sym (eq-eqb n 0 z) ∙ sym e ∙ f)

pub returns-then-d-id : goal.returns-then-d-id
unfolding code_of code_number is_present
returns-then-d-id c = sym (code_of_absent _ _ _ _ (ap is_present (absent_at _ _ (λ e. omega (arith, e)))))

pub returns-then-not-takes_command : goal.returns-then-not-takes_command
unfolding code_of code_number
returns-then-not-takes_command c =
    sym (code_of_command _ _ _ _ (here _ _ c.if-d-id.false) (taken_by _ _ c.if-d-id.false _ _ c.lookup_of.ensures c.takes_command.ensures (ap not c.if-not-takes_command.true)))

pub returns-in-1 : goal.returns-in-1
unfolding code_of code_number
returns-in-1 c =
    let taken = taken_by _ _ c.if-d-id.false _ _ c.lookup_of.ensures c.takes_command.ensures (ap not c.if-not-takes_command.false) in
    let none = eqb-true _ 0 (sym c.is_empty.ensures ∙ c.if-is_empty.true) in
    elim c.in-1.is [
      | inl one ↦ sym (code_of_none_1 _ _ _ _ (here _ _ c.if-d-id.false) taken one none)
      | inr three ↦ sym (code_of_none_3 _ _ _ _ (here _ _ c.if-d-id.false) taken three none)
    ]

pub returns-in_default : goal.returns-in_default
unfolding code_of
returns-in_default c =
    let taken = taken_by _ _ c.if-d-id.false _ _ c.lookup_of.ensures c.takes_command.ensures (ap not c.if-not-takes_command.false) in
    let none = eqb-true _ 0 (sym c.is_empty.ensures ∙ c.if-is_empty.true) in
    sym (code_of_none _ _ _ _ (here _ _ c.if-d-id.false) taken (λ e. grind (arith, e)) (λ e. grind (arith, e)) none)

pub returns-then-value-size_of : goal.returns-then-value-size_of
unfolding code_of code_number
returns-then-value-size_of c =
    let taken = taken_by _ _ c.if-d-id.false _ _ c.lookup_of.ensures c.takes_command.ensures (ap not c.if-not-takes_command.false) in
    let some = not_none _ c.is_empty.ensures c.if-is_empty.false in
    sym (code_of_size _ _ _ _ (here _ _ c.if-d-id.false) taken some (λ e. omega (arith, e)))

pub returns-then-not-is_unused_bits_ok : goal.returns-then-not-is_unused_bits_ok
unfolding code_of code_number
returns-then-not-is_unused_bits_ok c =
    let taken = taken_by _ _ c.if-d-id.false _ _ c.lookup_of.ensures c.takes_command.ensures (ap not c.if-not-takes_command.false) in
    let some = not_none _ c.is_empty.ensures c.if-is_empty.false in
    sym (code_of_bits _ _ _ _ (here _ _ c.if-d-id.false) taken some (omega arith) (sym c.is_unused_bits_ok.ensures ∙ c.if-not-is_unused_bits_ok.true))

pub returns-else-not-is_unused_bits_ok : goal.returns-else-not-is_unused_bits_ok
unfolding code_of
returns-else-not-is_unused_bits_ok c =
    let taken = taken_by _ _ c.if-d-id.false _ _ c.lookup_of.ensures c.takes_command.ensures (ap not c.if-not-takes_command.false) in
    let some = not_none _ c.is_empty.ensures c.if-is_empty.false in
    sym (code_of_value _ _ _ _ (here _ _ c.if-d-id.false) taken some (omega arith) (sym c.is_unused_bits_ok.ensures ∙ c.if-not-is_unused_bits_ok.false))
