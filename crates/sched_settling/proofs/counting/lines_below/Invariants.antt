use Rattle.std.proofs.Common.{◌≡◌, ◌<◌, ℕ, true, Some, slice_get}
use Rattle.sched_state.specs.declared.graphs.LoadedGraph.{LoadedGraph}
use Rattle.sched_model.specs.Lists.{rises}
use Rattle.sched_settling.specs.Marks.{has_line, id_before, ids_of}
use Rattle.sched_settling.specs.Touched.{AreFresh, over_runs}
use Rattle.sched_settling.proofs.counting.lines_below.Given as goal

abbrev pub invariant-loop-graph : goal.invariant-loop-graph
invariant-loop-graph l = record {
  rising : rises id_before (ids_of l.lines.items) ≡ true;
  fresh : AreFresh (over_runs l.draft.content l.draft.base.runs) l.lines.items;
  all : (n : ℕ) (g : LoadedGraph) → n < l.graph → slice_get l.draft.content.graphs n ≡ Some g → has_line l.lines.items g.dag.spec.dag_id ≡ true;
}
