use Rattle.std.proofs.Common.{◌≡◌, ℕ, take, false, vec_len}
use Rattle.dag_check.specs.Orders.{is_in, repeated}
use Rattle.dag_check.specs.Searches.{marked}
use Rattle.dag_check.proofs.positions.is_repeated.Given as goal

abbrev pub invariant-loop-position : goal.invariant-loop-position
invariant-loop-position l = record {
  long : vec_len l.seen ≡ l.count;
  marks : (y : ℕ) → marked l.seen.items y ≡ is_in (take l.position-index l.row) y;
  once : repeated (take l.position-index l.row) ≡ false;
}
