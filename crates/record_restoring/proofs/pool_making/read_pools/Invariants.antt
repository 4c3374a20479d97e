use Rattle.std.proofs.Common.{◌≡◌, take}
use Rattle.record_restoring.specs.Pools.{vacant_pools}
use Rattle.record_restoring.proofs.pool_making.read_pools.Given as goal

abbrev pub invariant-loop-row : goal.invariant-loop-row
invariant-loop-row l = l.pools.pools ≡ vacant_pools (take l.row-index l.rows)
