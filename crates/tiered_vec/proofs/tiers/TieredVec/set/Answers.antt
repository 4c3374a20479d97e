use Rattle.std.proofs.Common.{◌∙◌, ◌/◌, ◌%◌, ap, length, arith, set}
use Rattle.std.proofs.lemmas.List.{length-set}
use Rattle.tiered_vec.proofs.PlaceLemmas.{has_tier, within_tier, long_written, tiers_written, written}
use Rattle.tiered_vec.proofs.tiers.TieredVec.set.Goals as goal

pub index_mut-requires : goal.index_mut-requires
index_mut-requires g c =
    let all = ap (λ v. length v.items) c.self.view_is in
    let long = c.self.inside.tiers.ok in
    let there = has_tier c.self.inside.tiers.items (c.args.place / 1024) (c.args.place % 1024) c.args.place c.self.invariant.0 (omega arith) (omega (arith, all)) in
    omega (arith, there, long)

pub set-requires : goal.set-requires
set-requires g c =
    let all = ap (λ v. length v.items) c.self.view_is in
    within_tier c.self.inside.tiers.items (c.args.place / 1024) (c.args.place % 1024) c.args.place _ c.self.invariant.0 (omega arith) (omega arith) (omega (arith, all)) c.index_mut.ensures.value

pub invariant_of-self : goal.invariant_of-self
invariant_of-self g c =
    let ts = c.self.inside.tiers.items in
    let long = long_written ts (c.args.place / 1024) (c.args.place % 1024) _ c.args.item c.index_mut.ensures.value in
    let count = length-set ts (c.args.place / 1024) (set c.index_mut.result.now (c.args.place % 1024) c.args.item) in
    rw c.set.ensures (tiers_written ts (c.args.place / 1024) (c.args.place % 1024) _ c.args.item c.self.invariant.0 c.index_mut.ensures.value, omega (arith, long), omega (arith, count))

pub returns-clause-items : goal.returns-clause-items
returns-clause-items g c =
    let all = ap (λ v. length v.items) c.self.view_is in
    rw c.set.ensures
    (written c.self.inside.tiers.items (c.args.place / 1024) (c.args.place % 1024) c.args.place _ c.args.item c.self.invariant.0 (omega arith) (omega arith) (omega (arith, all)) c.index_mut.ensures.value
    ∙ ap (λ v. set v.items c.args.place c.args.item) c.self.view_is)

pub returns-clause-room : goal.returns-clause-room
returns-clause-room g c =
    let ts = c.self.inside.tiers.items in
    let was = ap (λ v. v.room) c.self.view_is in
    let long = long_written ts (c.args.place / 1024) (c.args.place % 1024) _ c.args.item c.index_mut.ensures.value in
    let count = length-set ts (c.args.place / 1024) (set c.index_mut.result.now (c.args.place % 1024) c.args.item) in
    rw c.set.ensures (omega (arith, was, long, count))
