use Rattle.std.proofs.Common.{◌≡◌, take, map, slice_index}
use Rattle.dag_check.proofs.layouts.looked_up.Given as goal

abbrev pub invariant-loop-position : goal.invariant-loop-position
invariant-loop-position l = l.found.items ≡ map (slice_index l.table) (take l.position-index l.row)
