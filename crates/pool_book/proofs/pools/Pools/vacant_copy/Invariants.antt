use Rattle.std.proofs.Common.{◌≡◌, ◌++◌}
use Rattle.pool_book.specs.Pools.{vacated}
use Rattle.pool_book.proofs.pools.Pools.vacant_copy.Given as goal

abbrev pub invariant-loop-name : goal.invariant-loop-name
invariant-loop-name l = l.pools.entries ++ vacated l.name-iterator ≡ vacated l.self.pools
