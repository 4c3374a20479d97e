use Rattle.std.proofs.Common.{arith}
use Rattle.dag_check.specs.Graphs.{no_task}
use Rattle.sched_model.specs.Causes.{takes_another_number}
use Rattle.sched_replacing.proofs.ListLemmas.{map_over, map_pushed}
use Rattle.sched_replacing.proofs.causes.resized_places.Goals as goal

pub loop-place-preserved : goal.loop-place-preserved
loop-place-preserved c =
    map_pushed (takes_another_number c.args.new.now) c.args.old.now.tasks c.loop-place.place no_task c.task.result.now c.takes_another_number.result c.loop-place.marks.items _
    (omega (arith, c.len-place-end.ensures.len, c.loop-place-test.true)) c.task.ensures c.takes_another_number.ensures c.loop-place.invariant c.in_ok-push.ensures.items

pub returns : goal.returns
returns c = map_over (takes_another_number c.args.new.now) c.args.old.now.tasks c.loop-place.place c.loop-place.marks.items (omega (arith, c.len-place-end.ensures.len, c.loop-place-test.false)) c.loop-place.invariant
