use Rattle.std.proofs.Common.{◌≡◌, map, take, zip}
use Rattle.sched_model.specs.Replacing.{fitted}
use Rattle.sched_replacing.proofs.fitting.instances_from.Given as goal

abbrev pub invariant-loop-place : goal.invariant-loop-place
invariant-loop-place l = l.instances.items ≡ map (fitted l.run.phase (zip l.old.tasks l.run.instances)) (take l.place l.new.tasks)
