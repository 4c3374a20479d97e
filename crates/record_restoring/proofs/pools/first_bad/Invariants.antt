use Rattle.std.proofs.Common.{◌≡◌, true, take}
use Rattle.std.specs.List.{list_all}
use Rattle.record_rules.specs.Faults.{is_pool_row_right}
use Rattle.record_restoring.proofs.pools.first_bad.Given as goal

abbrev pub invariant-loop-position : goal.invariant-loop-position
invariant-loop-position l = list_all is_pool_row_right (take l.position l.rows) ≡ true
