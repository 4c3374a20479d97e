use Rattle.std.proofs.Common.{◌≡◌, map, take}
use Rattle.sched_model.specs.Causes.{takes_another_number}
use Rattle.sched_replacing.proofs.causes.resized_places.Given as goal

abbrev pub invariant-loop-place : goal.invariant-loop-place
invariant-loop-place l = l.marks.items ≡ map (takes_another_number l.new) (take l.place l.old.tasks)
