use Rattle.std.proofs.Common.{◌≡◌, true, take}
use Rattle.std.specs.List.{list_all}
use Rattle.record_restoring.proofs.BodyLemmas.{has_pool_of}
use Rattle.record_restoring.proofs.dags.are_pools_there.Given as goal

abbrev pub invariant-loop-place : goal.invariant-loop-place
invariant-loop-place l = list_all (has_pool_of l.pools) (take l.place l.graph.tasks) ≡ true
