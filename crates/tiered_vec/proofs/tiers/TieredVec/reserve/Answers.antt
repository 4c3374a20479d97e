use Rattle.std.proofs.Common.{◌∙◌, arith}
use Rattle.tiered_vec.proofs.RoomLemmas.{items_more, long_more, tiers_more}
use Rattle.tiered_vec.proofs.tiers.TieredVec.reserve.Goals as goal

pub loop-alloc-preserved : goal.loop-alloc-preserved
loop-alloc-preserved g c =
    let ts = c.loop-alloc.self-inside.tiers.items in
    let long = long_more ts c.push.new.self.items c.in_ok-empty.field-0 c.in_ok-push.ensures.items in (
      tiers_more ts c.push.new.self.items c.in_ok-empty.field-0 c.loop-alloc.invariant.0 c.in_ok-push.ensures.items c.in_ok-empty.ensures,
      items_more ts c.push.new.self.items c.in_ok-empty.field-0 c.in_ok-push.ensures.items c.in_ok-empty.ensures ∙ c.loop-alloc.invariant.1,
      omega arith,
      omega (arith, long, c.in_ok-count.ensures.few),
      omega (arith, long),
    )
