use Rattle.std.proofs.Common.{◌≡◌, map, take}
use Rattle.meta_store.specs.Upgraded as spec
use Rattle.meta_store.proofs.upgrading.old_limits.Given as goal

-- the rows so far were made
abbrev pub invariant-loop-dag : goal.invariant-loop-dag
invariant-loop-dag l = l.made.items ≡ map spec.old_limit (take l.dag-index l.dags)
