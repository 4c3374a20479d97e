use Rattle.std.proofs.Common.{◌≡◌, None, take, find}
use Rattle.graph_file.specs.declared.task_specs.TaskSpec.{TaskSpec}
use Rattle.sched_state.specs.Lists.{same}
use Rattle.record_restoring.proofs.finding.task_in.Given as goal

abbrev pub invariant-loop-place : goal.invariant-loop-place
invariant-loop-place l = find (λ (t : TaskSpec). same t.task_id l.task_id) (take l.place l.graph.tasks) ≡ None
