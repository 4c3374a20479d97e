use Rattle.std.proofs.Common.{◌≡◌, [], take}
use Rattle.pool_book.specs.Keys.{fitting}
use Rattle.pool_book.proofs.ready.Ready.best_fitting.Given as goal

abbrev pub invariant-loop-key : goal.invariant-loop-key
invariant-loop-key l = fitting l.pools.pools l.rooms (take l.key-index l.key-items) ≡ []
