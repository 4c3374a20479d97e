use Rattle.dag_check.specs.Orders.{edges_of, repeated}
use Rattle.dag_check.specs.Names.{NoneBelow}
use Rattle.dag_check.proofs.positions.first_repeated.Given as goal

abbrev pub invariant-loop-i : goal.invariant-loop-i
invariant-loop-i l = NoneBelow (λ i. repeated (edges_of l.rows i)) l.i
