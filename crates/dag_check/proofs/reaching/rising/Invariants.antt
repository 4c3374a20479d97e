use Rattle.std.proofs.Common.{◌≡◌}
use Rattle.dag_check.specs.Searches.{marked}
use Rattle.dag_check.specs.Graphs.{passing}
use Rattle.dag_check.proofs.reaching.rising.Given as goal

abbrev pub invariant-loop-i : goal.invariant-loop-i
invariant-loop-i l = l.places.items ≡ passing (marked l.marks) l.i
