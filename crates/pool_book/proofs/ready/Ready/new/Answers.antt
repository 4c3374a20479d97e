use Rattle.std.proofs.Common.{rules}
use Rattle.std.specs.List.Sorted.{IsStrictlySortedBy}
use Rattle.pool_book.proofs.ready.Ready.new.Goals as goal

pub invariant_of-result : goal.invariant_of-result
unfolding IsStrictlySortedBy
invariant_of-result c = search rules
