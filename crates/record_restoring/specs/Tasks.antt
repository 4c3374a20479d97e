-- Tasks of the graphs that rows say.
use Rattle.std.specs.Prelude.{◌≡◌, ℕ, ℤ, Bool, List, Some, slice_get}
use Rattle.graph_file.specs.declared.task_specs.TaskSpec.{TaskSpec}
use Rattle.record_rows.specs.Rows.{Rows}
use Rattle.sched_state.specs.Limits.{Bounds}
use Rattle.sched_model.specs.Schedule.{dag_among}
use Rattle.record_rules.specs.Reading.{reads, graphs_of}
use Rattle.record_rules.specs.Faults.{has_instance_row}

-- the task stands at a place of the graph with this id
pub record IsTaskOf (l : Bounds) (rows : Rows) (graph : List ℕ) (t : TaskSpec) : Type 0 where
  pub at : ℕ
  pub there : slice_get (dag_among (graphs_of (reads l) rows) graph).tasks at ≡ Some t

-- there is a row of the task's instance in the run of this graph and date
abbrev pub has_row_of : Rows → List ℕ → ℤ → TaskSpec → Bool
has_row_of rows graph date t = has_instance_row rows graph date t.task_id
