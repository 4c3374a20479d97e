use Rattle.std.proofs.Common.{◌≡◌, ◌≤◌, ◌++◌, length}
use Rattle.std.specs.Vec.Iter.{into_iter_items}
use Rattle.tiered_vec.proofs.tiers.TieredVec.of.Given as goal

abbrev pub invariant-loop-item : goal.invariant-loop-item
invariant-loop-item g l = (l.made.items ++ into_iter_items l.item-iterator ≡ l.fn.items.items) × (length (into_iter_items l.item-iterator) ≤ l.made.room)
