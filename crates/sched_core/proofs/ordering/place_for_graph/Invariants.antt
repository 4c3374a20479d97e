use Rattle.std.proofs.Common.{◌≡◌, false, take}
use Rattle.std.specs.List.{list_any}
use Rattle.sched_model.specs.Schedule.{graph_before}
use Rattle.sched_core.proofs.ordering.place_for_graph.Given as goal

abbrev pub invariant-loop-place : goal.invariant-loop-place
invariant-loop-place l = list_any (graph_before l.graph) (take l.place l.graphs) ≡ false
