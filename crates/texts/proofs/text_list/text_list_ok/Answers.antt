-- Each turn finds that no entry begins here, that its ID is too low, or one more entry; at the end no byte is left, or too few.
use Rattle.std.proofs.Common.{sym, ◌<◌, ◌≤◌, length, get_or, arith}
use Rattle.texts.proofs.ListLaws.{all_left, all_tested, too_short, broken, too_low, next_left, on_from, on_size}
use Rattle.texts.proofs.text_list.text_list_ok.Goals as goal
use Rattle.texts.proofs.text_list.text_list_ok.Goals.{then-size-gt-LONGEST_TEXT-via-then-size-gt-LONGEST_TEXT, then-size-gt-LONGEST_TEXT-via-else-size-gt-LONGEST_TEXT+then-behind-size, then-size-gt-LONGEST_TEXT-via-else-size-gt-LONGEST_TEXT+else-behind-size+then-id-least}

pub loop-rest-init : goal.loop-rest-init
loop-rest-init c = all_left c.args.list.now

pub returns-then-size-gt-LONGEST_TEXT : goal.returns-then-size-gt-LONGEST_TEXT
returns-then-size-gt-LONGEST_TEXT c =
    let h = c.loop-rest.invariant in
    let r = c.loop-rest.rest.now in
    let l = c.in-len3-up.len_at_least in
    elim c.then-size-gt-LONGEST_TEXT.branch [
      | then-size-gt-LONGEST_TEXT-via-then-size-gt-LONGEST_TEXT w ↦ sym (broken h (omega arith) (λ a b. omega arith))
      | then-size-gt-LONGEST_TEXT-via-else-size-gt-LONGEST_TEXT+then-behind-size w ↦
          let k : length (on_from 3 r) < get_or r 2 0 = w.if-behind-size.true in
          sym (broken h (omega arith) (λ a b. omega (arith, a, k, on_size 3 r)))
      | then-size-gt-LONGEST_TEXT-via-else-size-gt-LONGEST_TEXT+else-behind-size+then-id-least w ↦
          let k : get_or r 2 0 ≤ length (on_from 3 r) = w.if-behind-size.false in
          sym (too_low h (omega (arith, l, k, on_size 3 r)) (omega arith) w.if-id-least.true)
    ]

pub loop-rest-preserved : goal.loop-rest-preserved
loop-rest-preserved c =
    let r = c.loop-rest.rest.now in
    let k : get_or r 2 0 ≤ length (on_from 3 r) = c.if-behind-size.false in
    next_left c.loop-rest.invariant (omega (arith, c.in-len3-up.len_at_least, k, on_size 3 r)) (omega arith) c.if-id-least.false

pub returns-in_default : goal.returns-in_default
returns-in_default c = too_short c.loop-rest.invariant _ c.is_empty.ensures c.loop-rest-test.true c.in_default.len_below

pub returns : goal.returns
returns c = all_tested c.loop-rest.invariant _ c.is_empty.ensures c.loop-rest-test.false
