use Rattle.std.proofs.Common.{◌≡◌, ◌&&◌, ◌==◌, find, flat_map, take, None}
use Rattle.instance_machine.specs.Instances.{InstanceValue}
use Rattle.sched_model.specs.States.{is_open}
use Rattle.sched_core.proofs.finding.open_in.Given as goal

abbrev pub invariant-loop-place : goal.invariant-loop-place
invariant-loop-place l = find (λ t. is_open t && t.serial == l.serial) (flat_map (λ (i : InstanceValue). i.tries) (take l.place l.instances)) ≡ None
