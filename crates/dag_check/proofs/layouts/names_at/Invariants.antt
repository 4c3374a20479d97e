use Rattle.std.proofs.Common.{◌≡◌, take, map}
use Rattle.dag_check.specs.Graphs.{id_at}
use Rattle.dag_check.proofs.layouts.names_at.Given as goal

abbrev pub invariant-loop-position : goal.invariant-loop-position
invariant-loop-position l = l.names.items ≡ map (id_at l.tasks) (take l.position-index l.walk)
