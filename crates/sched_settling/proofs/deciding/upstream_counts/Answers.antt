use Rattle.std.proofs.Common.{arith, ap, length}
use Rattle.sched_laws.proofs.SaidLemmas.{graph_ups_short}
use Rattle.sched_settling.proofs.deciding.upstream_counts.Goals as goal

pub add-requires : goal.add-requires
add-requires c =
    let g = c.args.dag.now in
    let short = graph_ups_short g.spec g c.args.place c.spec-spec.ensures.graph in
    let few = c.len-count.ensures.dag.few in
    let long = ap length c.upstreams-upstream-items.ensures in
    let total = c.loop-upstream.invariant.total in
    omega (arith, short, few, long, total)
