use Rattle.std.proofs.Common.{◌≡◌, ◌++◌, map}
use Rattle.record_rules.specs.Between.{lacked}
use Rattle.record_rules.specs.Changes.{same_pool_row}
use Rattle.sched_draft.specs.Books.{pools_in}
use Rattle.sched_model.specs.Tables.{pool_row}
use Rattle.record_writing.proofs.pools.pools_lacked.Given as goal

abbrev pub invariant-loop-name : goal.invariant-loop-name
invariant-loop-name l =
    l.rows.items ++ lacked same_pool_row (map pool_row (pools_in l.before.pools)) (map pool_row (pools_in l.name-iterator)) ≡ lacked same_pool_row (map pool_row (pools_in l.before.pools)) (map pool_row (pools_in l.after.pools))
