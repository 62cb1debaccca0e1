-- A law of PollLaws for each exit: something is outstanding; what is said is framed.
use Rattle.std.proofs.Common.{Bool, not, ap}
use borrow.Author.Tests.{eq-eqb, ne_eqb}
use Rattle.words.proofs.WordLaws.{true_T}
use Rattle.calls.proofs.PollLaws.{poll_waits, poll_says}
use Rattle.server.proofs.poll.on_poll.Goals as goal

pub returns-then-link-ne0 : goal.returns-then-link-ne0
returns-then-link-ne0 c =
    let k = c.args.link.now in
    poll_waits c.args.datapoints.now k c.args.out.now c.requires.1 c.requires.2 (true_T (ap not (ne_eqb k.held 0 c.if-link-ne0.true)))

pub returns : goal.returns
returns c =
    let k = c.args.link.now in
    rw (c.take_message.ensures.answer, c.take_message.ensures.buffer, c.take_message.ensures.link, c.indicate-end.ensures.table, c.indicate-end.ensures.ends, c.indicate-end.ensures.buffer)
    (poll_says c.args.datapoints.now k c.args.out.now c.requires.1 c.requires.2 (true_T (ap (λ (b : Bool). not (not b)) (eq-eqb k.held 0 c.if-link-ne0.false))))
