-- A graph that has runs takes another text: its instances go on by the new tasks, each by that of its own id, and what has finished stays
-- finished. Airflow 2, 'DAGs', where a DAG's file may change while it has runs. Which of them are tried again, and which tasks a text may
-- change, is this project's own profile.
use Rattle.std.specs.Prelude.{ℕ, ◌+◌, ◌-◌, Bool, not, ◌&&◌, cond, if◌then◌else◌, List, map, find, length, Option, Some, None, max}
use Rattle.sched_state.specs.graph_file.declared.task_specs.TaskSpec.{TaskSpec}
use Rattle.sched_state.specs.dag_check.Graphs.{Dag}
use Rattle.sched_state.specs.trigger_rules.States.{is_failed}
use Rattle.sched_state.specs.trigger_rules.declared.verdicts.Verdict.{Verdict}
use Rattle.sched_state.specs.trigger_rules.declared.verdicts.Verdict.TheVariants as verdict
use Rattle.sched_state.specs.instance_machine.Instances.{InstanceValue, new_instance}
use Rattle.sched_state.specs.instance_machine.States.{state_of}
use Rattle.sched_state.specs.Lists.{same}
use Rattle.sched_state.specs.declared.runs.Run.{Run}
use Rattle.sched_state.specs.declared.runs.RunPhase.{RunPhase}
use Rattle.sched_state.specs.declared.runs.RunPhase.TheVariants as phase
use Rattle.sched_model.specs.Schedule.{Schedule}
use Rattle.sched_model.specs.Changes.{with_graph}
use Rattle.sched_model.specs.Clearing.{pairs_of, set_to}

-- ---- an instance
-- no more of its tries count than a task with so many retries may have: those before them count as those before a clearing
abbrev pub bounded_to : ℕ → InstanceValue → InstanceValue
bounded_to retries i = record i { since = max i.since (length i.tries - (1 + retries)) }

-- none of its tries counts, and it is not tried again unless it is cleared
abbrev pub set_aside : InstanceValue → InstanceValue
set_aside i = set_to (Some verdict.UpstreamFailed) i

-- it failed for good by its task as it was, and would be tried again by its task as it is now
abbrev pub would_wake : TaskSpec → TaskSpec → InstanceValue → Bool
would_wake old new i = is_failed (state_of old i) && not (is_failed (state_of new (bounded_to new.retries i)))

-- an instance of a task that is changed: one that would be tried again is set aside
abbrev pub kept_as : TaskSpec → TaskSpec → InstanceValue → InstanceValue
kept_as old new i = cond (would_wake old new i) (set_aside i) (bounded_to new.retries i)

-- the verdict of a task that is new: none, or where the run has finished one with which it stays so. In a run that has failed it is that of
-- what comes after a failure, so that a clear of what failed names it too
abbrev pub new_verdict : RunPhase → Option Verdict
new_verdict phase.Queued = None
new_verdict phase.Running = None
new_verdict phase.Success = Some verdict.Skip
new_verdict phase.Failed = Some verdict.UpstreamFailed

-- the instance of a task that is new
abbrev pub newcomer : RunPhase → InstanceValue
newcomer ph = record new_instance { verdict = new_verdict ph }

-- ---- a run
-- the instance, beside its task, of the task with this id
abbrev pub pair_of : List ℕ → List (TaskSpec × InstanceValue) → Option (TaskSpec × InstanceValue)
pair_of id es = find (λ (e : TaskSpec × InstanceValue). same e.0.task_id id) es

-- the instance that a task of the new text gets, of those of the run
abbrev pub fitted_if : RunPhase → Option (TaskSpec × InstanceValue) → TaskSpec → InstanceValue
fitted_if ph None new = newcomer ph
fitted_if ph (Some e) new = kept_as e.0 new e.1

abbrev pub fitted : RunPhase → List (TaskSpec × InstanceValue) → TaskSpec → InstanceValue
fitted ph es new = fitted_if ph (pair_of new.task_id es) new

-- a run of the graph has one instance for each task of the new text, by its places
abbrev pub with_fitted : Schedule → Dag → Run → Run
with_fitted a dag r = record r { instances = map (fitted r.phase (pairs_of a r)) dag.tasks }

abbrev pub refitted : Schedule → Dag → Run → Run
refitted a dag r = if same r.graph dag.spec.dag_id then with_fitted a dag r else r

-- ---- the schedule
-- the graph takes the text in, and its runs go on by it
abbrev pub replace_graph : List ℕ → Dag → Schedule → Schedule
replace_graph text dag a = record a { graphs = with_graph text dag a.graphs; runs = map (refitted a dag) a.runs }
