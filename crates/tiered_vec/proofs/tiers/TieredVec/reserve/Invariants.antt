use Rattle.std.proofs.Common.{◌≡◌, ◌*◌, ◌-◌, ◌^◌, ◌<◌, ◌≤◌, length}
use Rattle.tiered_vec.specs.Tiers.{AreTiers, items_of, tier_size}
use Rattle.tiered_vec.proofs.tiers.TieredVec.reserve.Given as goal

abbrev pub invariant-loop-alloc : goal.invariant-loop-alloc
invariant-loop-alloc g l =
    AreTiers l.self-inside.tiers.items
    × (items_of l.self-inside.tiers.items ≡ l.fn.self.items)
    × (l.self-inside.len ≡ length l.fn.self.items)
    × (length l.self-inside.tiers.items * tier_size < 2 ^ 62)
    × (length l.initial.self-inside.tiers.items ≤ length l.self-inside.tiers.items)

abbrev pub decreases-loop-alloc : goal.decreases-loop-alloc
decreases-loop-alloc g l = l.count - length l.self-inside.tiers.items
