use Rattle.std.proofs.Common.{◌≡◌, take}
use Rattle.dag_check.specs.Names.{ids_of, NoneBelow, is_double}
use Rattle.dag_check.proofs.positions.ids.Given as goal

abbrev pub invariant-loop-i : goal.invariant-loop-i
invariant-loop-i l = record {
  keys : l.ids.keys ≡ take l.i (ids_of l.tasks);
  none : NoneBelow (is_double l.tasks) l.i;
}
