use Rattle.std.proofs.Common.{◌∙◌, ◌/◌, ◌%◌, ap, sym, length, arith}
use Rattle.std.specs.Prelude.{slice_get}
use Rattle.tiered_vec.proofs.PlaceLemmas.{has_tier, within_tier, read}
use Rattle.tiered_vec.proofs.tiers.TieredVec.get.Goals as goal

pub index-requires : goal.index-requires
index-requires g c =
    let all = ap (λ v. length v.items) c.self.view_is in
    let long = c.self.inside.tiers.ok in
    let there = has_tier c.self.inside.tiers.items (c.args.place / 1024) (c.args.place % 1024) c.args.place c.self.invariant.0 (omega arith) (omega (arith, all)) in
    omega (arith, there, long)

pub get-requires : goal.get-requires
get-requires g c =
    let all = ap (λ v. length v.items) c.self.view_is in
    within_tier c.self.inside.tiers.items (c.args.place / 1024) (c.args.place % 1024) c.args.place _ c.self.invariant.0 (omega arith) (omega arith) (omega (arith, all)) c.index.ensures

pub returns : goal.returns
returns g c =
    let all = ap (λ v. length v.items) c.self.view_is in
    ap (λ v. slice_get v.items c.args.place) (sym c.self.view_is)
    ∙ read c.self.inside.tiers.items (c.args.place / 1024) (c.args.place % 1024) c.args.place _ c.self.invariant.0 (omega arith) (omega arith) (omega (arith, all)) c.index.ensures
    ∙ c.get.ensures
