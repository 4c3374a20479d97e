use Rattle.std.proofs.Common.{length}
use Rattle.dag_check.specs.Orders.{is_in, edges_of}
use Rattle.dag_check.specs.Searches.{marked, failing}
use Rattle.dag_check.proofs.WalkLemmas.{IsWalk}
use Rattle.dag_check.proofs.cycles.cycle.Given as goal

abbrev pub invariant-steps : goal.invariant-steps
invariant-steps l = IsWalk (edges_of l.up) (marked l.placed) (length l.up) l.walk.items l.at

abbrev pub decreases-steps : goal.decreases-steps
decreases-steps l = failing (is_in l.walk.items) (length l.up)
