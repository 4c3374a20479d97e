use Rattle.std.proofs.Common.{◌≡◌, true, take}
use Rattle.std.specs.List.{list_all}
use Rattle.record_rules.specs.Reading.{meta_of}
use Rattle.record_rules.specs.Faults.{is_attempt_row_right}
use Rattle.record_restoring.proofs.attempt_rules.attempt_fault.Given as goal

abbrev pub invariant-loop-position : goal.invariant-loop-position
invariant-loop-position l = list_all (is_attempt_row_right l.graphs (meta_of l.rows).next_serial l.rows) (take l.position l.attempts) ≡ true
