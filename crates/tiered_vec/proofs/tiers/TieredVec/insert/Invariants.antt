use Rattle.std.proofs.Common.{◌≡◌, ◌+◌, ◌-◌, length}
use Rattle.std.specs.List.{insert}
use Rattle.tiered_vec.proofs.CarryLemmas.{Carries}
use Rattle.tiered_vec.proofs.tiers.TieredVec.insert.Given as goal

abbrev pub invariant-loop-carried : goal.invariant-loop-carried
invariant-loop-carried g l =
    Carries (insert l.fn.self.items l.fn.place l.fn.item) (l.at + 1) l.self-inside.tiers.items l.carried
    × (length l.self-inside.tiers.items ≡ length l.initial.self-inside.tiers.items)
    × (l.self-inside.len ≡ length l.fn.self.items)

abbrev pub decreases-loop-carried : goal.decreases-loop-carried
decreases-loop-carried g l = length l.self-inside.tiers.items - l.at
