use Rattle.std.proofs.Common.{◌≡◌, map, take}
use Rattle.sched_model.specs.Causes.{takes_another_pool}
use Rattle.sched_replacing.proofs.causes.moved_places.Given as goal

abbrev pub invariant-loop-place : goal.invariant-loop-place
invariant-loop-place l = l.marks.items ≡ map (takes_another_pool l.new) (take l.place l.old.tasks)
