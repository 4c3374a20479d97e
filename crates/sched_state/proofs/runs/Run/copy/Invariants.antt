use Rattle.std.proofs.Common.{◌≡◌, take}
use Rattle.sched_state.proofs.runs.Run.copy.Given as goal

abbrev pub invariant-loop-instance : goal.invariant-loop-instance
invariant-loop-instance l = l.instances.items ≡ take l.instance-index l.instance-items
