use Rattle.std.proofs.Common.{◌≡◌, ℕ, vec_len, Some, slice_get}
use Rattle.run_planner.specs.Index.{Index}
use Rattle.sched_state.specs.declared.graphs.LoadedGraph.{LoadedGraph}
use Rattle.sched_creation.specs.Dates.{HasDates}
use Rattle.sched_creation.proofs.dates.dates_of_all.Given as goal

abbrev pub invariant-loop-position : goal.invariant-loop-position
invariant-loop-position l = record {
  long : vec_len l.all ≡ l.position;
  each : (n : ℕ) (g : LoadedGraph) (index : Index) → slice_get l.draft.content.graphs n ≡ Some g → slice_get l.all.items n ≡ Some index → HasDates g.dag.spec.dag_id l.draft.content.runs index;
}
