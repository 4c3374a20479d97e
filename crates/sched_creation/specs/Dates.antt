-- The dates of the runs of graphs, by position.
use Rattle.std.specs.Prelude.{◌≡◌, ℕ, List, length, Some, slice_get}
use Rattle.std.specs.List.{list_any}
use Rattle.run_planner.specs.Index.{Index, has_date}
use Rattle.sched_state.specs.declared.graphs.LoadedGraph.{LoadedGraph}
use Rattle.sched_state.specs.declared.runs.Run.{Run}
use Rattle.sched_model.specs.Schedule.{is_at}

-- the index has a date exactly if one of the runs is of the graph and has this date
abbrev pub HasDates : List ℕ → List Run → Index → Type 0
HasDates id rs index = (d : ℕ) → has_date index.dates d ≡ list_any (is_at id d) rs

-- there is one for each graph, and it has the dates of that graph's runs
pub record HaveDates (gs : List LoadedGraph) (rs : List Run) (all : List Index) : Type 0 where
  pub long : length all ≡ length gs
  pub each : (n : ℕ) (g : LoadedGraph) (index : Index) → slice_get gs n ≡ Some g → slice_get all n ≡ Some index → HasDates g.dag.spec.dag_id rs index
