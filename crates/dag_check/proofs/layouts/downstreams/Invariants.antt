use Rattle.std.proofs.Common.{◌≡◌, ℕ, length, vec_len}
use Rattle.dag_check.specs.Orders.{edges_of}
use Rattle.dag_check.specs.Graphs.{downs_in}
use Rattle.dag_check.proofs.layouts.downstreams.Given as goal

abbrev pub invariant-loop-place : goal.invariant-loop-place
invariant-loop-place l = record {
  long : vec_len l.found ≡ length l.rows;
  rows : (j : ℕ) → edges_of l.found.items j ≡ downs_in (edges_of l.rows) l.place j;
}
