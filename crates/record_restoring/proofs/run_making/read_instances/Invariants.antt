use Rattle.std.proofs.Common.{◌≡◌, take, map}
use Rattle.record_rules.specs.Reading.{instance_in}
use Rattle.record_restoring.proofs.run_making.read_instances.Given as goal

abbrev pub invariant-loop-place : goal.invariant-loop-place
invariant-loop-place l = l.instances.items ≡ map (instance_in l.rows l.row.dag_id l.row.logical) (take l.place l.graph.tasks)
