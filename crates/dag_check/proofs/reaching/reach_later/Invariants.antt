use Rattle.std.proofs.Common.{◌≡◌, length, vec_len}
use Rattle.dag_check.specs.Orders.{edges_of}
use Rattle.dag_check.specs.Searches.{marked}
use Rattle.dag_check.proofs.ReachLemmas.{IsMarkingUp}
use Rattle.dag_check.proofs.reaching.reach_later.Given as goal

abbrev pub invariant-loop-place : goal.invariant-loop-place
invariant-loop-place l = record {
  long : vec_len l.marks ≡ length l.next;
  marking : IsMarkingUp (edges_of l.next) l.start l.place (marked l.marks.items);
}
