use Rattle.std.proofs.Common.{arith}
use Rattle.link.proofs.EventSteps.{heard_while_dropping, gathered, requested, damaged, ignored_or_repeated, acknowledged_or_reset, room}
use Rattle.link.proofs.events.host_byte.Goals as goal

pub returns-then-link-eq1 : goal.returns-then-link-eq1
returns-then-link-eq1 c = heard_while_dropping _ c.requires _ c.if-link-eq1.true

pub bounds-link-n : goal.bounds-link-n
bounds-link-n c = room _ _ _ _ _ c.case_of-heard.ensures c.in-Gathered.is c.judge_at.ensures.1

pub overflow_cast-link : goal.overflow_cast-link
overflow_cast-link c = omega (arith, room _ _ _ _ _ c.case_of-heard.ensures c.in-Gathered.is c.judge_at.ensures.1)

pub returns-in-Gathered : goal.returns-in-Gathered
returns-in-Gathered c =
    gathered _ _ _ _ _ c.requires c.if-link-eq1.false c.judge_at.ensures.0 c.case_of-heard.ensures c.bits_after-bits.ensures c.in-Gathered.is
    (room _ _ _ _ _ c.case_of-heard.ensures c.in-Gathered.is c.judge_at.ensures.1)

pub returns-in-Dropped : goal.returns-in-Dropped
returns-in-Dropped c =
    damaged _ _ _ _ _ c.requires c.if-link-eq1.false c.judge_at.ensures.0 c.case_of-heard.ensures c.bits_after-bits.ensures _ _ c.empty.ensures.zeros c.empty.ensures.none c.in-Dropped.is

pub returns-in-Ignored : goal.returns-in-Ignored
returns-in-Ignored c =
    ignored_or_repeated _ _ _ _ _ c.requires c.if-link-eq1.false c.judge_at.ensures.0 c.case_of-heard.ensures c.bits_after-bits.ensures _ _ c.empty-in-Ignored.ensures.zeros c.empty-in-Ignored.ensures.none c.in-Ignored.is

pub returns-in-Acknowledged : goal.returns-in-Acknowledged
returns-in-Acknowledged c =
    acknowledged_or_reset _ _ _ _ _ c.requires c.if-link-eq1.false c.judge_at.ensures.0 c.case_of-heard.ensures c.bits_after-bits.ensures _ _ c.empty-in-Acknowledged.ensures.zeros c.empty-in-Acknowledged.ensures.none _ _
    c.empty-in-Acknowledged-2.ensures.zeros c.empty-in-Acknowledged-2.ensures.none c.in-Acknowledged.is

pub returns-in-Request : goal.returns-in-Request
returns-in-Request c =
    requested _ _ _ _ _ c.requires c.if-link-eq1.false c.judge_at.ensures.0 c.case_of-heard.ensures c.bits_after-bits.ensures _ c.in-Request.is
