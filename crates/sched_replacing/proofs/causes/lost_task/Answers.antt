use Rattle.std.proofs.Common.{◌∙◌, sym, arith}
use Rattle.sched_replacing.proofs.TaskLemmas.{lost_next, lost_none, lost_there}
use Rattle.sched_replacing.proofs.causes.lost_task.Goals as goal

pub loop-place-preserved : goal.loop-place-preserved
loop-place-preserved c =
    sym (lost_next c.args.old.now c.args.new.now c.loop-place.place c.task.result.now c.place.result c.is_none.result (omega (arith, c.len-place-end.ensures.len, c.loop-place-test.true)) c.task.ensures c.place.ensures c.is_none.ensures c.if-is_none.false)
    ∙ c.loop-place.invariant

pub returns-then-is_none : goal.returns-then-is_none
returns-then-is_none c a is =
    lost_there a c.args.old.now c.args.new.now c.loop-place.place c.task.result.now c.place.result c.is_none.result is (omega (arith, c.len-place-end.ensures.len, c.loop-place-test.true)) c.task.ensures c.place.ensures c.is_none.ensures c.if-is_none.true
    c.loop-place.invariant

pub returns : goal.returns
returns c a is = lost_none a c.args.old.now c.args.new.now c.loop-place.place is (omega (arith, c.len-place-end.ensures.len, c.loop-place-test.false)) c.loop-place.invariant
