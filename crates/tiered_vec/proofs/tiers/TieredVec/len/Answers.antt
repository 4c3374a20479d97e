use Rattle.std.proofs.Common.{arith}
use Rattle.tiered_vec.proofs.RoomLemmas.{few_items}
use Rattle.tiered_vec.proofs.tiers.TieredVec.len.Goals as goal

pub returns-clause-small : goal.returns-clause-small
returns-clause-small g c =
    let few = few_items c.self.inside.tiers.items c.self.invariant.0 in
    let count = c.self.invariant.1 in
    omega (arith, few, count)
