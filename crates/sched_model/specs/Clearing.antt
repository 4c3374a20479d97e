-- Clearing: named instances are set back to none, their tries are kept. Airflow 2, 'DAG Runs' (re-run tasks) and 'Tasks'.
use Rattle.std.specs.Prelude.{ℕ, Bool, true, false, not, ◌&&◌, ◌||◌, ◌==◌, cond, List, [], ◌∷◌, length, map, filter, flat_map, count_by, Option, Some, None, nat_le}
use Rattle.std.specs.List.{zip, enumerate_from, position_from}
use Rattle.sched_state.specs.graph_file.declared.task_specs.TaskSpec.{TaskSpec}
use Rattle.sched_state.specs.dag_check.Graphs.{Dag}
use Rattle.sched_state.specs.dag_check.Orders.{is_in}
use Rattle.sched_state.specs.dag_check.Reach.{reach_of}
use Rattle.sched_state.specs.dag_check.declared.graphs.Direction.TheVariants as to
use Rattle.run_planner.specs.Index.{has_date}
use Rattle.sched_state.specs.trigger_rules.States.{is_bad}
use Rattle.sched_state.specs.trigger_rules.declared.states.State.{State}
use Rattle.sched_state.specs.trigger_rules.declared.states.State.TheVariants as state
use Rattle.sched_state.specs.trigger_rules.declared.verdicts.Verdict.{Verdict}
use Rattle.sched_state.specs.instance_machine.Instances.{InstanceValue}
use Rattle.sched_state.specs.instance_machine.States.{state_of}
use Rattle.sched_state.specs.Lists.{same}
use Rattle.sched_state.specs.declared.clearings.Clearing.{Clearing}
use Rattle.sched_state.specs.declared.runs.RunPhase.{RunPhase}
use Rattle.sched_state.specs.declared.runs.RunPhase.TheVariants as phase
use Rattle.sched_model.specs.Lists.{map_places}
use Rattle.sched_model.specs.Schedule.{Schedule, dag_named, tasks_of}
use Rattle.sched_state.specs.declared.runs.Run.{Run}

-- ---- which instances are named
-- a test of a run, of a place in it, and of the task and the instance there
abbrev pub Selection : Type 0
Selection = Run → ℕ → TaskSpec × InstanceValue → Bool

-- a clear asks for the runs of a graph in a span of dates, and of them all tasks, or one with what it reaches upstream or downstream;
-- of these all instances, or only the failed and upstream_failed ones
abbrev pub in_span : Clearing → Run → Bool
in_span c r = same r.graph c.graph && (nat_le c.from r.logical && nat_le r.logical c.to)

-- the place of the task with this id
abbrev pub place_of : List TaskSpec → List ℕ → Option ℕ
place_of tasks id = position_from (λ (t : TaskSpec). same t.task_id id) 0 tasks

-- the place q itself, and what it reaches in the directions that are asked for
abbrev pub around : Clearing → Dag → Option ℕ → ℕ → Bool
around c g None p = false
around c g (Some q) p =
    p == q || (c.upstream && is_in (reach_of g to.Upstream q) p || c.downstream && is_in (reach_of g to.Downstream q) p)

abbrev pub names_place : Clearing → Dag → Option (List ℕ) → ℕ → Bool
names_place c g None p = true
names_place c g (Some id) p = around c g (place_of g.tasks id) p

-- the instances that a clear names
abbrev pub cleared_by : Schedule → Clearing → Selection
cleared_by a c r p e =
    in_span c r && (names_place c (dag_named a r.graph) c.task p && (not c.only_failed || is_bad (state_of e.0 e.1)))

-- the instances that the reset of a backfill names: all of the graph's runs with these dates
-- restates: Airflow 2, 'DAG Runs': backfill
abbrev pub reset_by : List ℕ → List ℕ → Selection
reset_by id dates r p e = same r.graph id && has_date dates r.logical

-- ---- setting: named instances get a verdict, or none
-- an instance with this verdict, or with none, of whose tries none counts
abbrev pub set_to : Option Verdict → InstanceValue → InstanceValue
set_to v i = record { verdict = v; since = length i.tries; tries = i.tries }

abbrev pub set_pair : Option Verdict → (ℕ → TaskSpec × InstanceValue → Bool) → ℕ → TaskSpec × InstanceValue → InstanceValue
set_pair v named p e = cond (named p e) (set_to v e.1) e.1

-- the pairs of a run, each of a task and its instance, and those that are named
abbrev pub pairs_of : Schedule → Run → List (TaskSpec × InstanceValue)
pairs_of a r = zip (tasks_of a r) r.instances

abbrev pub named_in : Schedule → Selection → Run → List (TaskSpec × InstanceValue)
named_in a named r = map (λ (e : ℕ × (TaskSpec × InstanceValue)). e.1) (filter (λ (e : ℕ × (TaskSpec × InstanceValue)). named r e.0 e.1) (enumerate_from 0 (pairs_of a r)))

-- a finished run is queued again
abbrev pub requeued : RunPhase → RunPhase
requeued phase.Queued = phase.Queued
requeued phase.Running = phase.Running
requeued phase.Success = phase.Queued
requeued phase.Failed = phase.Queued

abbrev pub with_set : Option Verdict → Schedule → Selection → Run → Run
with_set v a named r = record r { phase = requeued r.phase; instances = map_places (set_pair v (named r)) 0 (pairs_of a r) }

-- a run in which no instance is named stays as it is
abbrev pub set_if : Option Verdict → Schedule → Selection → Run → List (TaskSpec × InstanceValue) → Run
set_if v a named r [] = r
set_if v a named r (e ∷ es) = with_set v a named r

abbrev pub set_run : Option Verdict → Schedule → Selection → Run → Run
set_run v a named r = set_if v a named r (named_in a named r)

-- named instances are set
abbrev pub set_named : Option Verdict → Selection → Schedule → Schedule
set_named v named a = record a { runs = map (set_run v a named) a.runs }

-- ---- clearing
-- an instance set back: it has no verdict, and none of its tries counts
abbrev pub cleared : InstanceValue → InstanceValue
cleared i = set_to None i

-- named instances are set back
abbrev pub clear : Selection → Schedule → Schedule
clear named a = set_named None named a

-- ---- what a clear answers
-- the named instances, each beside its task
-- restates: this project's own profile
abbrev pub named_pairs : Schedule → Selection → List (TaskSpec × InstanceValue)
named_pairs a named = flat_map (named_in a named) a.runs

-- restates: this project's own profile
abbrev pub is_none_state : State → Bool
is_none_state state.None = true
is_none_state _ = false

-- how many named instances were not none
-- restates: this project's own profile
abbrev pub count_cleared : Schedule → Selection → ℕ
count_cleared a named = count_by (λ (e : TaskSpec × InstanceValue). not (is_none_state (state_of e.0 e.1))) (named_pairs a named)
