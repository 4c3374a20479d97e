use Rattle.std.proofs.Common.{◌≡◌, true, take}
use Rattle.std.specs.List.{list_all}
use Rattle.record_rules.specs.Faults.{has_all_instances}
use Rattle.record_restoring.proofs.instance_rules.have_all.Given as goal

abbrev pub invariant-loop-run : goal.invariant-loop-run
invariant-loop-run l = list_all (has_all_instances l.graphs l.rows) (take l.run-index l.runs) ≡ true
