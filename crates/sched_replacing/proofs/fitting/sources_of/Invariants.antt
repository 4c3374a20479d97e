use Rattle.std.proofs.Common.{◌≡◌, map, take}
use Rattle.sched_replacing.specs.Fitting.{old_place_of}
use Rattle.sched_replacing.proofs.fitting.sources_of.Given as goal

abbrev pub invariant-loop-place : goal.invariant-loop-place
invariant-loop-place l = l.sources.items ≡ map (old_place_of l.old.tasks) (take l.place l.new.tasks)
