use Rattle.std.proofs.Common.{◌+◌, ◌/◌, ◌%◌, ap, refl, length, arith}
use Rattle.std.proofs.lemmas.List.{length-set}
use Rattle.tiered_vec.proofs.CarryLemmas.{fits_tier, put_in, carried_on}
use Rattle.tiered_vec.proofs.tiers.TieredVec.insert.Goals as goal

pub insert-carried-requires-clause-within : goal.insert-carried-requires-clause-within
insert-carried-requires-clause-within g c =
    let all = ap (λ v. length v.items) c.self.view_is in
    let room = ap (λ v. v.room) c.self.view_is in
    fits_tier c.self.inside.tiers.items (c.args.place / 1024) (c.args.place % 1024) c.args.place _ c.self.invariant.0 (omega arith) (omega arith) (omega (arith, all)) (omega (arith, all, room)) c.index_mut.ensures.value

pub loop-carried-init : goal.loop-carried-init
loop-carried-init g c =
    let all = ap (λ v. length v.items) c.self.view_is in
    let room = ap (λ v. v.room) c.self.view_is in (
      put_in c.args.self.now.items c.self.inside.tiers.items (c.args.place / 1024) (c.args.place % 1024) c.args.place (c.args.place / 1024 + 1) c.index_mut.result.now c.insert-carried.new.self c.args.item c.insert-carried.result (ap (λ v. v.items) c.self.view_is) c.self.invariant.0 (omega arith) (omega arith) (omega arith) (omega (arith, all, room)) c.index_mut.ensures.value c.insert-carried.ensures.items c.insert-carried.ensures.leaves refl,
      refl,
      omega (arith, all),
    )

pub loop-carried-preserved : goal.loop-carried-preserved
loop-carried-preserved g c =
    let count = length-set c.loop-carried.self-inside.tiers.items (c.loop-carried.at + 1) c.push_front-carried.new.self in (
      carried_on _ (c.loop-carried.at + 1) (c.loop-carried.at + 1 + 1) c.loop-carried.self-inside.tiers.items c.index_mut-in-Some.result.now c.push_front-carried.new.self c.in-Some.last c.loop-carried.carried c.push_front-carried.result c.loop-carried.invariant.0 c.in-Some.is c.index_mut-in-Some.ensures.value c.push_front-carried.ensures.items c.push_front-carried.ensures.leaves refl,
      omega (arith, count),
      omega arith,
    )
