use Rattle.std.proofs.Common.{◌≡◌, take, map}
use Rattle.dag_check.specs.Names.{rows_of, NoneBelow, is_unknown}
use Rattle.dag_check.proofs.positions.rows.Given as goal

abbrev pub invariant-loop-i : goal.invariant-loop-i
invariant-loop-i l = record {
  rows : map (λ r. r.items) l.rows.items ≡ take l.i (rows_of l.tasks);
  none : NoneBelow (is_unknown l.tasks) l.i;
}
