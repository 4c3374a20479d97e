use Rattle.std.proofs.Common.{◌≡◌, false, take}
use Rattle.dag_check.specs.Orders.{is_in}
use Rattle.dag_check.proofs.cycles.position_of.Given as goal

abbrev pub invariant-loop-k : goal.invariant-loop-k
invariant-loop-k l = is_in (take l.k l.walk) l.number ≡ false
