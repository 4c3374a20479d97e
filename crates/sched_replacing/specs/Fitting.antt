-- One run whose graph is another one now, by places.
use Rattle.std.specs.Prelude.{ℕ, List, map, Option, option_and_then, slice_get}
use Rattle.std.specs.List.{position, zip}
use Rattle.graph_file.specs.declared.task_specs.TaskSpec.{TaskSpec}
use Rattle.dag_check.specs.Graphs.{Dag}
use Rattle.instance_machine.specs.Instances.{InstanceValue}
use Rattle.sched_state.specs.Lists.{same}
use Rattle.sched_state.specs.declared.runs.Run.{Run}
use Rattle.sched_model.specs.Replacing.{fitted, fitted_if}

-- the place of the old task with the id of a new one
abbrev pub old_place_of : List TaskSpec → TaskSpec → Option ℕ
old_place_of old new = position (λ (t : TaskSpec). same t.task_id new.task_id) old

-- and of each of them
abbrev pub sources_of : List TaskSpec → List TaskSpec → List (Option ℕ)
sources_of old new = map (old_place_of old) new

-- the instance that a task gets of those of a run, where its old task stands at this place
abbrev pub instance_from : Run → List TaskSpec → Option ℕ → TaskSpec → InstanceValue
instance_from r old source new = fitted_if r.phase (option_and_then (slice_get (zip old r.instances)) source) new

-- a run with the instances of the new tasks, of those that it has by the old ones
abbrev pub with_fitted_from : Dag → Dag → Run → Run
with_fitted_from old new r = record r { instances = map (fitted r.phase (zip old.tasks r.instances)) new.tasks }
