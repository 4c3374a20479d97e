use Rattle.std.proofs.Common.{◌≡◌, ◌<◌, ℕ, false}
use Rattle.dag_check.specs.Orders.{may_come, edges_of}
use Rattle.dag_check.specs.Searches.{marked}
use Rattle.dag_check.proofs.orders.next_place.Given as goal

abbrev pub invariant-loop-i : goal.invariant-loop-i
invariant-loop-i l = (j : ℕ) → j < l.i → may_come (edges_of l.up) (marked l.placed) j ≡ false
