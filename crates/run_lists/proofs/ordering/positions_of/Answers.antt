use Rattle.std.proofs.Common.{◌≤◌, rules, arith}
use Rattle.std.proofs.lemmas.Fn.{always_returns_same}
use Rattle.run_lists.specs.Orders.{graph_below, graph_up_to, holds_at}
use Rattle.run_lists.proofs.GraphLemmas.{below_parted, up_to_parted, between_places, places_in_order}
use Rattle.run_lists.proofs.ordering.positions_of.Goals as goal

pub prove-unreachable-requires : goal.prove-unreachable-requires
prove-unreachable-requires c =
    let order : c.partition_point-first.result ≤ c.partition_point-end.result =
    places_in_order c.args.graph.now c.args.runs.now.runs c.args.positions.now c.partition_point-first.result c.partition_point-end.result c.partition_point-first.ensures.bound
    (c.partition_point-first.ensures.partitioned (holds_at (graph_below c.args.graph.now) c.args.runs.now.runs) (always_returns_same _ _ _ (λ a r q k. search rules)) (below_parted c.args.graph.now c.args.runs.now.runs c.args.positions.now c.requires.order c.requires.rising))
    (c.partition_point-end.ensures.partitioned (holds_at (graph_up_to c.args.graph.now) c.args.runs.now.runs) (always_returns_same _ _ _ (λ a r q k. search rules)) (up_to_parted c.args.graph.now c.args.runs.now.runs c.args.positions.now c.requires.order c.requires.rising)) in
    omega (arith, order, c.if-prove.true)

pub returns : goal.returns
returns c =
    between_places c.args.graph.now c.args.runs.now.runs c.args.positions.now c.partition_point-first.result c.partition_point-end.result c.partition_point-first.ensures.bound c.partition_point-end.ensures.bound
    (c.partition_point-first.ensures.partitioned (holds_at (graph_below c.args.graph.now) c.args.runs.now.runs) (always_returns_same _ _ _ (λ a r q k. search rules)) (below_parted c.args.graph.now c.args.runs.now.runs c.args.positions.now c.requires.order c.requires.rising))
    (c.partition_point-end.ensures.partitioned (holds_at (graph_up_to c.args.graph.now) c.args.runs.now.runs) (always_returns_same _ _ _ (λ a r q k. search rules)) (up_to_parted c.args.graph.now c.args.runs.now.runs c.args.positions.now c.requires.order c.requires.rising))
