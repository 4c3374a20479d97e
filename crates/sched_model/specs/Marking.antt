-- Marking: an operator passes a task of one run over, as where its source never comes. Airflow 2, where a task instance's state is set to
-- skipped (`DAG.set_task_instance_state`): what failed downstream of it is cleared, so that trigger rules decide there anew. That the run
-- is queued again where it had finished is this project's own profile.
use Rattle.std.specs.Prelude.{ℕ, Bool, true, false, List, Some}
use Rattle.sched_state.specs.trigger_rules.declared.verdicts.Verdict.TheVariants as verdict
use Rattle.sched_state.specs.instance_machine.Instances.{InstanceValue}
use Rattle.sched_state.specs.declared.clearings.Clearing.{Clearing}
use Rattle.sched_model.specs.Schedule.{Schedule}
use Rattle.sched_model.specs.Clearing.{cleared_by, clear, set_to, set_named}

-- a clear that names the instance of a task in the run of a date
abbrev pub one_of : List ℕ → ℕ → List ℕ → Clearing
one_of id date task = record { graph = id; from = date; to = date; task = Some task; upstream = false; downstream = false; only_failed = false }

-- a clear that names what is failed or upstream_failed of that instance and of what depends on the task, directly or not
abbrev pub failed_after : List ℕ → ℕ → List ℕ → Clearing
failed_after id date task = record { graph = id; from = date; to = date; task = Some task; upstream = false; downstream = true; only_failed = true }

-- an instance that is passed over: it is skipped, and none of its tries counts
abbrev pub passed_over : InstanceValue → InstanceValue
passed_over i = set_to (Some verdict.Skip) i

-- the instance is passed over
abbrev pub pass_over : List ℕ → ℕ → List ℕ → Schedule → Schedule
pass_over id date task a = set_named (Some verdict.Skip) (cleared_by a (one_of id date task)) a

-- and what failed after it is set back
abbrev pub mark : List ℕ → ℕ → List ℕ → Schedule → Schedule
mark id date task a =
    let b : Schedule = pass_over id date task a in
    clear (cleared_by b (failed_after id date task)) b
