use Rattle.std.proofs.Common.{◌≡◌, true, take}
use Rattle.std.specs.List.{list_all}
use Rattle.dag_check.specs.Searches.{marked}
use Rattle.dag_check.proofs.cycles.open_upstream.Given as goal

abbrev pub invariant-loop-place : goal.invariant-loop-place
invariant-loop-place l = list_all (marked l.marks) (take l.place-index l.places) ≡ true
