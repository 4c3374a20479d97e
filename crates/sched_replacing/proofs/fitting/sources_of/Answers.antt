use Rattle.std.proofs.Common.{arith}
use Rattle.dag_check.specs.Graphs.{no_task}
use Rattle.sched_replacing.specs.Fitting.{old_place_of}
use Rattle.sched_replacing.proofs.ListLemmas.{map_over, map_pushed}
use Rattle.sched_replacing.proofs.fitting.sources_of.Goals as goal

pub loop-place-preserved : goal.loop-place-preserved
loop-place-preserved c =
    map_pushed (old_place_of c.args.old.now.tasks) c.args.new.now.tasks c.loop-place.place no_task c.task.result.now c.place.result c.loop-place.sources.items _
    (omega (arith, c.len-place-end.ensures.len, c.loop-place-test.true)) c.task.ensures c.place.ensures c.loop-place.invariant c.in_ok-push.ensures.items

pub returns : goal.returns
returns c = map_over (old_place_of c.args.old.now.tasks) c.args.new.now.tasks c.loop-place.place c.loop-place.sources.items (omega (arith, c.len-place-end.ensures.len, c.loop-place-test.false)) c.loop-place.invariant
