use Rattle.std.proofs.Common.{◌≡◌, true, take, map}
use Rattle.std.specs.List.{list_all}
use Rattle.graph_file.specs.declared.task_specs.TaskSpec.{TaskSpec}
use Rattle.instance_machine.specs.Instances.{InstanceValue}
use Rattle.instance_machine.specs.States.{state_of}
use Rattle.trigger_rules.specs.States.{is_finished}
use Rattle.record_restoring.proofs.end_rules.are_finished.Given as goal

abbrev pub invariant-loop-place : goal.invariant-loop-place
invariant-loop-place l = (held : TaskSpec → InstanceValue) → l.run.instances ≡ map held l.graph.tasks → list_all (λ (t : TaskSpec). is_finished (state_of t (held t))) (take l.place l.graph.tasks) ≡ true
