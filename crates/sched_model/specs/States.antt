-- What is recomputed from a schedule: the states of instances, what came before a run, and the slots that are taken.
use Rattle.std.specs.Prelude.{ℕ, Bool, not, ◌&&◌, ◌||◌, cond, List, length, map, filter, flat_map, sum_by, count_by, Option, option_map, unwrap_or, slice_get, nat_lt, is_none}
use Rattle.std.specs.List.{zip}
use Rattle.sched_state.specs.graph_file.declared.task_specs.TaskSpec.{TaskSpec}
use Rattle.sched_state.specs.trigger_rules.declared.states.State.{State}
use Rattle.sched_state.specs.trigger_rules.declared.states.State.TheVariants as state
use Rattle.sched_state.specs.instance_machine.Instances.{InstanceValue}
use Rattle.sched_state.specs.instance_machine.States.{state_of, opens_gate}
use Rattle.sched_state.specs.instance_machine.declared.tries.Try.{Try}
use Rattle.sched_state.specs.Lists.{same}
use Rattle.sched_model.specs.Lists.{zip_with, last_passing}
use Rattle.sched_model.specs.Schedule.{Schedule, tasks_of, is_running}
use Rattle.sched_state.specs.declared.runs.Run.{Run}

-- the states of a run's instances, by place (Airflow 2, 'Tasks': task instances)
abbrev pub states : Schedule → Run → List State
states a r = zip_with state_of (tasks_of a r) r.instances

-- the state at a place: none where there is no such place
-- restates: Airflow 2, 'Tasks': task instances
abbrev pub state_at : Schedule → Run → ℕ → State
state_at a r p = unwrap_or (slice_get (states a r) p) state.None

-- ---- the past (Airflow 2, 'DAGs': depends on past)
-- q is a run of r's graph with a smaller logical date
abbrev pub is_earlier : Run → Run → Bool
is_earlier r q = same q.graph r.graph && nat_lt q.logical r.logical

-- the run before r: of the earlier runs of its graph that with the greatest date, which stands last
abbrev pub previous : Schedule → Run → Option Run
previous a r = last_passing (is_earlier r) a.runs

-- the past does not hold a task back: it does not depend on it, or there is no run before, or the task was a success or
-- skipped there
abbrev pub past_is_open : Schedule → Run → TaskSpec → ℕ → Bool
past_is_open a r t p = not t.depends_on_past || opens_gate (option_map (λ q. state_at a q p) (previous a r))

-- ---- counts
-- how many runs of a graph are running
-- restates: Airflow 2, `max_active_runs`
abbrev pub active_runs : Schedule → List ℕ → ℕ
active_runs a id = count_by (λ (r : Run). same r.graph id && is_running r.phase) a.runs

-- the try has no end
-- restates: Airflow 2, 'Pools'
abbrev pub is_open : Try → Bool
is_open t = is_none t.ended

-- a try without an end, with the graph of its run and the pool of its task
-- restates: Airflow 2, 'Pools'
pub record OpenTry : Type 0 where
  pub graph : List ℕ
  pub pool : List ℕ
  pub one : Try

-- restates: Airflow 2, 'Pools'
abbrev pub opened : List ℕ → TaskSpec → Try → OpenTry
opened id t x = record { graph = id; pool = t.pool; one = x }

-- the tries of an instance without an end, each with its graph and its pool
-- restates: Airflow 2, 'Pools'
abbrev pub open_of : List ℕ → TaskSpec × InstanceValue → List OpenTry
open_of id e = map (opened id e.0) (filter is_open e.1.tries)

-- the tries without an end
-- restates: Airflow 2, 'Pools'
abbrev pub open_tries : Schedule → List OpenTry
open_tries a = flat_map (λ (r : Run). flat_map (open_of r.graph) (zip (tasks_of a r) r.instances)) a.runs

-- the slots that tries without an end take of a pool (Airflow 2, 'Pools')
abbrev pub slots_in : List ℕ → OpenTry → ℕ
slots_in p e = cond (same e.pool p) e.one.slots 0

-- the slots that tries without an end take of a pool
-- restates: Airflow 2, 'Pools'
abbrev pub occupied : Schedule → List ℕ → ℕ
occupied a p = sum_by (slots_in p) (open_tries a)

-- how many tries are without an end
-- restates: Airflow 2, 'Pools'
abbrev pub in_flight : Schedule → ℕ
in_flight a = length (open_tries a)

-- how many tries of a graph are without an end, over all its runs
-- restates: Airflow 2, the class `DAG`: `max_active_tasks`
abbrev pub is_of : List ℕ → OpenTry → Bool
is_of id e = same e.graph id

-- how many tries of a graph are without an end
-- restates: Airflow 2, the class `DAG`: `max_active_tasks`
abbrev pub active_tries : Schedule → List ℕ → ℕ
active_tries a id = count_by (is_of id) (open_tries a)
