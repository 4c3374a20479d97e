-- Why an event may be refused, each cause by itself: this project's own profile. Their order comes with the events.
use Rattle.std.specs.Prelude.{ℕ, ◌+◌, Bool, false, not, ◌&&◌, ◌==◌, List, [], ◌∷◌, length, map, flat_map, find, filter, Option, Some, None, option_and_then, option_map, is_none, nat_lt, nat_le, max}
use Rattle.sched_state.specs.instance_machine.Instances.{InstanceValue}
use Rattle.sched_state.specs.instance_machine.Reports.{report_try}
use Rattle.sched_state.specs.graph_file.declared.task_specs.TaskSpec.{TaskSpec}
use Rattle.sched_state.specs.instance_machine.declared.tries.Try.{Try}
use Rattle.sched_state.specs.instance_machine.declared.tries.Stage.{Stage}
use Rattle.sched_state.specs.graph_file.declared.graph_specs.GraphSpec.{GraphSpec}
use Rattle.sched_state.specs.graph_file.Lists.{when, holds_at}
use Rattle.sched_state.specs.dag_check.Graphs.{Dag}
use Rattle.sched_state.specs.Lists.{same}
use Rattle.run_planner.specs.Anew.{wanted_anew}
use Rattle.sched_model.specs.Lists.{least}
use Rattle.sched_model.specs.Schedule.{Schedule, dag_named, dates_of, graph_named, has_pool}
use Rattle.sched_state.specs.declared.runs.Run.{Run}
use Rattle.sched_model.specs.States.{is_open}
use Rattle.sched_state.specs.declared.clearings.Clearing.{Clearing}
use Rattle.sched_model.specs.Clearing.{Selection, named_pairs, pairs_of, place_of}
use Rattle.sched_model.specs.NamedRuns.{NamedRun}

-- ---- a report
-- all tries of a schedule
abbrev pub tries_of : Schedule → List Try
tries_of a = flat_map (λ (r : Run). flat_map (λ (i : InstanceValue). i.tries) r.instances) a.runs

-- the try without an end that has this serial
abbrev pub open_try : Schedule → ℕ → Option Try
open_try a serial = find (λ t. is_open t && t.serial == serial) (tries_of a)

-- there is none
abbrev pub is_not_in_flight : Schedule → ℕ → Bool
is_not_in_flight a serial = is_none (open_try a serial)

-- there is one, which may not report this now
abbrev pub is_out_of_turn : Schedule → ℕ → Stage → Bool
is_out_of_turn a serial stage = not (is_not_in_flight a serial) && is_none (option_and_then (report_try stage a.now) (open_try a serial))

-- ---- a restart
abbrev pub has_too_many_lanes : Schedule → ℕ → Bool
has_too_many_lanes a lanes = nat_lt a.limits.lanes lanes

-- ---- a clear
abbrev pub is_unknown_graph : Schedule → List ℕ → Bool
is_unknown_graph a id = is_none (graph_named a id)

abbrev pub has_no_place : Schedule → List ℕ → Option (List ℕ) → Bool
has_no_place a graph None = false
has_no_place a graph (Some id) = is_none (place_of (dag_named a graph).tasks id)

abbrev pub is_unknown_task : Schedule → Clearing → Bool
is_unknown_task a c = has_no_place a c.graph c.task

abbrev pub is_bad_span : ℕ → ℕ → Bool
is_bad_span low high = nat_lt high low

-- the least serial among the tries without an end of the named instances, if there is one
abbrev pub open_serials : List Try → List ℕ
open_serials ts = map (λ (t : Try). t.serial) (filter is_open ts)

abbrev pub least_in_flight : Schedule → Selection → Option ℕ
least_in_flight a named = least (open_serials (flat_map (λ (e : TaskSpec × InstanceValue). e.1.tries) (named_pairs a named)))

-- ---- what is added past a limit: a graph, a pool, runs
abbrev pub has_too_many_graphs : Schedule → List ℕ → Bool
has_too_many_graphs a id = is_unknown_graph a id && nat_le a.limits.graphs (length a.graphs)

abbrev pub has_too_many_pools : Schedule → List ℕ → Bool
has_too_many_pools a name = not (has_pool a name) && nat_le a.limits.pools (length a.pools)

abbrev pub is_full_with : Schedule → List NamedRun → Bool
is_full_with a ns = nat_lt a.limits.runs (length a.runs + length ns)

-- ---- another text for a graph that has runs
-- the runs of a graph, and of all of them the pairs, each of a task and its instance
abbrev pub runs_of : Schedule → List ℕ → List Run
runs_of a id = filter (λ (r : Run). same r.graph id) a.runs

abbrev pub pairs_named : Schedule → List ℕ → List (TaskSpec × InstanceValue)
pairs_named a id = flat_map (pairs_of a) (runs_of a id)

-- the task of this id
abbrev pub task_named : List TaskSpec → List ℕ → Option TaskSpec
task_named tasks id = find (λ (t : TaskSpec). same t.task_id id) tasks

-- the new graph has the task with the id of this one, and it takes another number of slots
abbrev pub takes_another_number : Dag → TaskSpec → Bool
takes_another_number dag t = holds_at (λ (u : TaskSpec). not (u.pool_slots == t.pool_slots)) (task_named dag.tasks t.task_id)

-- the same, and it takes those of another pool
abbrev pub takes_another_pool : Dag → TaskSpec → Bool
takes_another_pool dag t = holds_at (λ (u : TaskSpec). not (same u.pool t.pool)) (task_named dag.tasks t.task_id)

-- the instances of the graph's runs whose task would take slots of another pool
abbrev pub moved_by : Dag → Selection
moved_by dag r p e = same r.graph dag.spec.dag_id && takes_another_pool dag e.0

-- the least serial among their tries without an end, if there is one
abbrev pub least_moved : Schedule → Dag → Option ℕ
least_moved a dag = least_in_flight a (moved_by dag)

-- the first task of the graph, by place, that the new graph lacks
abbrev pub lost_task : Schedule → Dag → Option (List ℕ)
lost_task a dag = option_map (λ (t : TaskSpec). t.task_id) (find (λ (t : TaskSpec). is_none (task_named dag.tasks t.task_id)) (dag_named a dag.spec.dag_id).tasks)

-- the first task, by runs and places, that has a try and would take another number of slots: each try takes the slots of its task
abbrev pub resized_task : Schedule → Dag → Option (List ℕ)
resized_task a dag = option_map (λ (e : TaskSpec × InstanceValue). e.0.task_id) (find (λ (e : TaskSpec × InstanceValue). nat_lt 0 (length e.1.tries) && takes_another_number dag e.0) (pairs_named a dag.spec.dag_id))

-- up to where the runs of a graph reach: the greatest end of their intervals, 0 where there are none
abbrev pub greatest : List ℕ → ℕ
greatest [] = 0
greatest (x ∷ xs) = max x (greatest xs)

abbrev pub reached : Schedule → List ℕ → ℕ
reached a id = greatest (map (λ (r : Run). r.interval.end) (runs_of a id))

-- the moment up to which the runs of the graph reach, where a tick at it would make a run by the new file that it would not make by the file
-- as it is
abbrev pub redone : Schedule → GraphSpec → Option ℕ
redone a spec =
    let old : GraphSpec = (dag_named a spec.dag_id).spec in
    let anew = wanted_anew old spec (reached a spec.dag_id) (dates_of a spec.dag_id) in
    when (nat_lt 0 (length anew)) (reached a spec.dag_id)
