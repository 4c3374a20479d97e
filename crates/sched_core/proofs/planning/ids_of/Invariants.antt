use Rattle.std.proofs.Common.{◌≡◌, map, take}
use Rattle.sched_core.specs.Plans.{run_id}
use Rattle.sched_core.proofs.planning.ids_of.Given as goal

abbrev pub invariant-loop-run : goal.invariant-loop-run
invariant-loop-run l = l.ids.items ≡ map run_id (take l.run-index l.runs)
