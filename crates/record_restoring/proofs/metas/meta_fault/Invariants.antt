use Rattle.std.proofs.Common.{◌≡◌, true, take}
use Rattle.std.specs.List.{list_all}
use Rattle.record_rules.specs.Faults.{is_meta_row_right}
use Rattle.record_restoring.proofs.metas.meta_fault.Given as goal

abbrev pub invariant-loop-position : goal.invariant-loop-position
invariant-loop-position l = list_all (is_meta_row_right l.limits) (take l.position l.rows) ≡ true
