use Rattle.std.proofs.Common.{◌≡◌, take, sum_by, count_by}
use Rattle.instance_machine.specs.Instances.{InstanceValue}
use Rattle.sched_model.specs.States.{is_open}
use Rattle.sched_core.proofs.counting.open_in.Given as goal

abbrev pub invariant-loop-instance : goal.invariant-loop-instance
invariant-loop-instance l = l.count ≡ sum_by (λ (i : InstanceValue). count_by is_open i.tries) (take l.instance-index l.instances)
