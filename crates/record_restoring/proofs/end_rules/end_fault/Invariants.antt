use Rattle.std.proofs.Common.{◌≡◌, true, take}
use Rattle.std.specs.List.{list_all}
use Rattle.record_rules.specs.Faults.{is_end_of_run}
use Rattle.record_restoring.proofs.end_rules.end_fault.Given as goal

abbrev pub invariant-loop-position : goal.invariant-loop-position
invariant-loop-position l = list_all (is_end_of_run l.graphs l.rows) (take l.position l.run_rows) ≡ true
