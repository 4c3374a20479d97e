use Rattle.std.proofs.Common.{◌<◌, IfSome, length}
use Rattle.sched_handout.proofs.guessing.likely_graph.Given as goal

abbrev pub invariant-loop-graph : goal.invariant-loop-graph
invariant-loop-graph l = IfSome l.likely (λ k. k.graph < length l.shelves)
