use Rattle.std.proofs.Common.{◌≡◌}
use Rattle.dag_check.specs.Searches.{marked, failing}
use Rattle.dag_check.proofs.cycles.first_open.Given as goal

abbrev pub invariant-loop-i : goal.invariant-loop-i
invariant-loop-i l = failing (marked l.marks) l.i ≡ 0
