use Rattle.std.proofs.Common.{◌≡◌, false, take}
use Rattle.record_rules.specs.Faults.{has_task}
use Rattle.record_restoring.proofs.instance_rules.has_task_in.Given as goal

abbrev pub invariant-loop-place : goal.invariant-loop-place
invariant-loop-place l = has_task (take l.place l.graph.tasks) l.task_id ≡ false
