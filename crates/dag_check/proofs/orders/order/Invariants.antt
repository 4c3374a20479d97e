use Rattle.std.proofs.Common.{◌≡◌, length, vec_len}
use Rattle.dag_check.specs.Orders.{edges_of}
use Rattle.dag_check.specs.Searches.{marked}
use Rattle.dag_check.proofs.OrderLemmas.{IsPartial}
use Rattle.dag_check.proofs.orders.order.Given as goal

abbrev pub invariant-places : goal.invariant-places
invariant-places l = record {
  long : vec_len l.placed ≡ length l.up;
  count : vec_len l.order ≡ l._place;
  partial : IsPartial (edges_of l.up) (length l.up) l.order.items (marked l.placed.items);
}
