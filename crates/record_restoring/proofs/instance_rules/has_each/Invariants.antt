use Rattle.std.proofs.Common.{◌≡◌, true, take}
use Rattle.std.specs.List.{list_all, list_any}
use Rattle.graph_file.specs.declared.task_specs.TaskSpec.{TaskSpec}
use Rattle.record_rules.specs.Reading.{is_of}
use Rattle.record_restoring.proofs.instance_rules.has_each.Given as goal

abbrev pub invariant-loop-place : goal.invariant-loop-place
invariant-loop-place l = list_all (λ (t : TaskSpec). list_any (is_of l.dag_id l.logical t.task_id) l.rows) (take l.place l.graph.tasks) ≡ true
