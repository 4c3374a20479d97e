use Rattle.std.proofs.Common.{◌≡◌, ◌++◌, flat_map, take}
use Rattle.explain.specs.Inside.{upstream_if}
use Rattle.explain.proofs.graph_reasons.add_upstreams.Given as goal

abbrev pub invariant-loop-upstream : goal.invariant-loop-upstream
invariant-loop-upstream l = l.reasons.items ≡ l.initial.reasons.items ++ flat_map (upstream_if l.subject) (take l.upstream-index l.upstream-items)
