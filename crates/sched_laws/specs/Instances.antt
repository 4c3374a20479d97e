-- A task instance of a schedule, by its graph, its logical date and its task.
use Rattle.std.specs.Prelude.{◌≡◌, ◌⊎◌, ℕ, List, Option, Some, option_map, option_and_then}
use Rattle.graph_file.specs.declared.task_specs.TaskSpec.{TaskSpec}
use Rattle.sched_model.specs.instance_machine.Instances.{InstanceValue}
use Rattle.sched_model.specs.instance_machine.States.{state_of}
use Rattle.sched_model.specs.trigger_rules.declared.states.State.{State}
use Rattle.sched_model.specs.trigger_rules.declared.states.State.TheVariants as state
use Rattle.sched_model.specs.sched_state.declared.runs.Run.{Run}
use Rattle.sched_model.specs.Schedule.{Schedule}
use Rattle.sched_model.specs.Clearing.{pairs_of}
use Rattle.sched_model.specs.Replacing.{pair_of}
use Rattle.sched_laws.specs.Tries.{run_at}

-- the instance of a task, beside the task, in the run of a graph with this logical date, if there is one
abbrev pub instance_of : Schedule → List ℕ → ℕ → List ℕ → Option (TaskSpec × InstanceValue)
instance_of a id date task = option_and_then (λ (r : Run). pair_of task (pairs_of a r)) (run_at id date a.runs)

-- its state
abbrev pub state_of_task : Schedule → List ℕ → ℕ → List ℕ → Option State
state_of_task a id date task = option_map (λ (e : TaskSpec × InstanceValue). state_of e.0 e.1) (instance_of a id date task)

-- what has finished so has still finished: it is as it was, or failed then and is upstream_failed now
abbrev pub IsStillFinished : State → Option State → Type 0
IsStillFinished s o = (o ≡ Some s) ⊎ ((s ≡ state.Failed) × (o ≡ Some state.UpstreamFailed))
