use Rattle.std.proofs.Common.{arith}
use Rattle.bursts.proofs.LoopLaws.{begins, acknowledgement_on, frame_on, room_left, ends_clean, ends_broken, refused_long, refused_short}
use Rattle.bursts.proofs.burst.read_burst.Goals as goal

pub returns-then-n-gt-LONGEST_BURST-clause-leaves : goal.returns-then-n-gt-LONGEST_BURST-clause-leaves
returns-then-n-gt-LONGEST_BURST-clause-leaves c = refused_long _ _ (omega arith)

pub returns-then-starts-lt-LEAST_PLACES-clause-leaves : goal.returns-then-starts-lt-LEAST_PLACES-clause-leaves
returns-then-starts-lt-LEAST_PLACES-clause-leaves c = refused_short _ _ (omega arith)

pub loop-at-init : goal.loop-at-init
loop-at-init c = begins _ _

pub loop-at-preserved-then-burst-at : goal.loop-at-preserved-then-burst-at
loop-at-preserved-then-burst-at c =
    let l = c.loop-at in
    acknowledgement_on _ _ (omega arith) (omega arith) _ _ _ _ l.invariant (omega arith) c.if-burst-at.true

pub returns-in_default-clause-leaves : goal.returns-in_default-clause-leaves
returns-in_default-clause-leaves c =
    let l = c.loop-at in
    ends_broken _ _ (omega arith) (omega arith) _ _ _ _ _ _ l.invariant (omega arith) c.in_default.ensures c.ending_in.ensures c.figures.ensures

pub overflow_add-at-then-burst-at-eq-DATA_START : goal.overflow_add-at-then-burst-at-eq-DATA_START
overflow_add-at-then-burst-at-eq-DATA_START c =
    let l = c.loop-at in
    omega (arith, c.in-Some.ensures, room_left _ _ (omega arith) (omega arith) _ _ _ _ l.invariant (omega arith))

pub loop-at-preserved-then-burst-at-eq-DATA_START : goal.loop-at-preserved-then-burst-at-eq-DATA_START
loop-at-preserved-then-burst-at-eq-DATA_START c =
    let l = c.loop-at in
    frame_on _ _ (omega arith) (omega arith) _ _ _ _ l.invariant (omega arith) _ c.in-Some.ensures c.if-burst-at.false

pub returns-in_default-fixed_size-clause-leaves : goal.returns-in_default-fixed_size-clause-leaves
returns-in_default-fixed_size-clause-leaves c =
    let l = c.loop-at in
    ends_broken _ _ (omega arith) (omega arith) _ _ _ _ _ _ l.invariant (omega arith) c.in_default-fixed_size.ensures c.ending_in-in_default-fixed_size.ensures c.figures-in_default-fixed_size.ensures

pub overflow_add-at-else-burst-at-eq-DATA_START : goal.overflow_add-at-else-burst-at-eq-DATA_START
overflow_add-at-else-burst-at-eq-DATA_START c =
    let l = c.loop-at in
    omega (arith, c.in-Some-fixed_size.ensures, room_left _ _ (omega arith) (omega arith) _ _ _ _ l.invariant (omega arith))

pub loop-at-preserved : goal.loop-at-preserved
loop-at-preserved c =
    let l = c.loop-at in
    frame_on _ _ (omega arith) (omega arith) _ _ _ _ l.invariant (omega arith) _ c.in-Some-fixed_size.ensures c.if-burst-at.false

pub returns-clause-leaves : goal.returns-clause-leaves
returns-clause-leaves c =
    let l = c.loop-at in
    ends_clean _ _ (omega arith) (omega arith) _ _ _ _ _ l.invariant (omega arith) c.figures-2.ensures
