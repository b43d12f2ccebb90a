use Rattle.std.proofs.Common.{arith}
use Rattle.multi_cycle_list.proofs.Marks.{step_none, step_meets, step_class, step_on, counted}
use Rattle.multi_cycle_list.proofs.whole.meets.Goals as goal

pub returns-in_default-linked : goal.returns-in_default-linked
returns-in_default-linked c =
    let half = step_on c.loop.invariant (omega arith) c.in-Some.ensures c.if-ahead-back.false c.if-ahead-classes.false in
    step_none half (omega arith) c.in_default-linked.ensures

pub returns-then-behind-ahead : goal.returns-then-behind-ahead
returns-then-behind-ahead c =
    let half = step_on c.loop.invariant (omega arith) c.in-Some.ensures c.if-ahead-back.false c.if-ahead-classes.false in
    step_meets half (omega arith) c.in-Some-linked.ensures c.if-behind-ahead.true

pub returns-then-behind-classes : goal.returns-then-behind-classes
returns-then-behind-classes c =
    let half = step_on c.loop.invariant (omega arith) c.in-Some.ensures c.if-ahead-back.false c.if-ahead-classes.false in
    step_class half (omega arith) c.in-Some-linked.ensures c.if-behind-ahead.false c.if-behind-classes.true

pub loop-preserved : goal.loop-preserved
loop-preserved c =
    let half = step_on c.loop.invariant (omega arith) c.in-Some.ensures c.if-ahead-back.false c.if-ahead-classes.false in
    counted (step_on half (omega arith) c.in-Some-linked.ensures c.if-behind-ahead.false c.if-behind-classes.false) (omega arith)
