use Rattle.std.proofs.Common.{◌≡◌}
use Rattle.graph_file.proofs.WriteLemmas.{written}
use Rattle.sched_model.specs.Changes.{pause_graph}
use Rattle.sched_core.proofs.pausing.set_paused.Given as goal

abbrev pub invariant-loop-place : goal.invariant-loop-place
invariant-loop-place l = l.graphs.items ≡ written (pause_graph l.id l.paused) l.initial.graphs.items l.place
