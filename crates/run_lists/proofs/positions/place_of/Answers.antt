use Rattle.std.proofs.Common.{rules, nat_lt, ℕ}
use Rattle.std.proofs.lemmas.Fn.{always_returns_same}
use Rattle.run_lists.proofs.PlaceLemmas.{place_parted, positions_parted}
use Rattle.run_lists.proofs.positions.place_of.Goals as goal

pub returns-clause-place : goal.returns-clause-place
returns-clause-place c =
    place_parted c.args.position c.args.positions.now c.partition_point.result c.partition_point.ensures.bound
    (c.partition_point.ensures.partitioned (λ (x : ℕ). nat_lt x c.args.position) (always_returns_same _ _ _ (λ a r q k. search rules)) (positions_parted c.args.position c.args.positions.now c.requires))
