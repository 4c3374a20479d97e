use Rattle.std.proofs.Common.{◌≡◌, ◌++◌}
use Rattle.pool_book.proofs.pools.Pools.copy.Given as goal

abbrev pub invariant-loop-name : goal.invariant-loop-name
invariant-loop-name l = l.pools.entries ++ l.name-iterator ≡ l.self.pools
