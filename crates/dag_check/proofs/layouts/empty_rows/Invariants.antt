use Rattle.std.proofs.Common.{◌≡◌, ℕ, [], vec_len}
use Rattle.dag_check.specs.Orders.{edges_of}
use Rattle.dag_check.proofs.layouts.empty_rows.Given as goal

abbrev pub invariant-loop-row : goal.invariant-loop-row
invariant-loop-row l = record {
  long : vec_len l.rows ≡ l._row;
  rows : (j : ℕ) → edges_of l.rows.items j ≡ [];
}
