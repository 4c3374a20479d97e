-- The causes for which an event is refused.
-- restates: this project's own profile
use Rattle.std.specs.Prelude.{ℕ, not, ◌&&◌, ◌||◌, Bool, List, [], cond, None, ◌∷◌, length, sum_by, find, nat_lt, Option, Some, option_map, option_and_then, Result, Ok, Err}
use Rattle.graph_file.specs.Graphs.{graph_of}
use Rattle.graph_file.specs.Lists.{when, first_some, holds_at}
use Rattle.graph_file.specs.declared.faults.GraphFault.{GraphFault}
use Rattle.graph_file.specs.declared.faults.GraphFault.TheVariants.{TooMany}
use Rattle.graph_file.specs.declared.graph_specs.GraphSpec.{GraphSpec}
use Rattle.graph_file.specs.declared.task_specs.TaskSpec.{TaskSpec}
use Rattle.dag_check.specs.Graphs.{Dag, dag_of}
use Rattle.dag_check.specs.Faults.{first_fault}
use Rattle.pool_book.specs.declared.pools.PoolFault.TheVariants.{TooManyPools}
use Rattle.sched_state.specs.Limits.{Bounds}
use Rattle.sched_state.specs.Lists.{same}
use Rattle.sched_state.specs.declared.graphs.LoadedGraph.{LoadedGraph}
use Rattle.sched_laws.specs.sched_model.Schedule.{Schedule, graph_named, has_pool, has_runs, has_run_at}
use Rattle.sched_laws.specs.sched_model.Clearing.{cleared_by}
use Rattle.sched_laws.specs.sched_model.Marking.{one_of}
use Rattle.sched_laws.specs.sched_model.NamedRuns.{named_by_tick, named_by_hand, named_by_backfill}
use Rattle.sched_laws.specs.sched_model.Sound.{is_empty}
use Rattle.sched_laws.specs.sched_model.Causes.{is_not_in_flight, is_out_of_turn, is_unknown_graph, is_unknown_task, is_bad_span, least_in_flight, has_too_many_graphs, has_too_many_pools, has_too_many_lanes, is_full_with, least_moved, lost_task, resized_task, redone}
use Rattle.sched_events.specs.Events.{set_back_by}
use Rattle.sched_events.specs.declared.events.Event.{Event}
use Rattle.sched_events.specs.declared.events.Event.TheVariants.{Load, Tick, Trigger, Backfill, Clear, Pause, Unpause, Resize, Report, Restart, Replace, Mark}
use Rattle.sched_events.specs.declared.refusals.Refusal.{Refusal}
use Rattle.sched_events.specs.declared.refusals.Refusal.TheVariants as refusal

-- how many upstream names the tasks have in all
abbrev pub edge_count : List TaskSpec → ℕ
edge_count tasks = sum_by (λ (t : TaskSpec). length t.upstream) tasks

-- the graph has more tasks than the bound, or more edges
abbrev pub exceeds : Bounds → GraphSpec → Bool
exceeds bounds spec = nat_lt bounds.tasks (length spec.tasks) || nat_lt bounds.edges (edge_count spec.tasks)

-- the pool of the first task in the file whose pool is not there
abbrev pub unknown_pool : Schedule → GraphSpec → Option (List ℕ)
unknown_pool a spec = option_map (λ (t : TaskSpec). t.pool) (find (λ (t : TaskSpec). not (has_pool a t.pool)) spec.tasks)

-- the graph is there, with another text, and has runs
abbrev pub differs : Schedule → List ℕ → GraphSpec → Bool
differs a text spec = holds_at (λ (g : LoadedGraph). not (same g.text text)) (graph_named a spec.dag_id) && has_runs a spec.dag_id

-- the first cause against a file that does not lie in the graphs that are there. A cycle stands there without its names: which of several is
-- shown is open
abbrev pub unfit : Schedule → GraphSpec → Option Refusal
unfit a spec = first_some (
    when (exceeds a.limits spec) (refusal.GraphFault TooMany)
    ∷ option_map refusal.DagFault (first_fault spec.tasks)
    ∷ option_map refusal.UnknownPool (unknown_pool a spec)
    ∷ [])

-- the first cause against a text
abbrev pub refused_text : Schedule → List ℕ → Result GraphSpec GraphFault → Option Refusal
refused_text a text (Err fault) = Some (refusal.GraphFault fault)
refused_text a text (Ok spec) = first_some (
    unfit a spec
    ∷ when (has_too_many_graphs a spec.dag_id) refusal.TooManyGraphs
    ∷ when (differs a text spec) refusal.GraphDiffers
    ∷ [])

-- the first cause that lies in the runs of the graph, against another text for it
abbrev pub disturbed : Schedule → Dag → Option Refusal
disturbed a dag = first_some (
    option_map refusal.InFlight (least_moved a dag)
    ∷ option_map refusal.OtherTasks (lost_task a dag)
    ∷ option_map refusal.OtherSlots (resized_task a dag)
    ∷ option_map refusal.Redoes (redone a dag.spec)
    ∷ [])

-- the first cause against another text for a graph that is there
abbrev pub refused_change : Schedule → List ℕ → Result GraphSpec GraphFault → Option Refusal
refused_change a text (Err fault) = Some (refusal.GraphFault fault)
refused_change a text (Ok spec) = first_some (
    unfit a spec
    ∷ when (is_unknown_graph a spec.dag_id) refusal.UnknownGraph
    ∷ cond (differs a text spec) (disturbed a (dag_of spec)) None
    ∷ [])

-- a run by hand of the graph has no interval: none of its timetable has ended
abbrev pub has_no_interval : Schedule → List ℕ → Bool
has_no_interval a id = is_empty (named_by_hand a id)

-- of the instances that an event sets back one has a try without an end, and this is the least serial of such tries
abbrev pub in_flight : Schedule → Event → Option Refusal
in_flight a e = option_map refusal.InFlight (option_and_then (least_in_flight a) (set_back_by e a))

-- the first cause against an event, in the order of the refusals; want of memory is none of them
abbrev pub refused : Schedule → Event → Option Refusal
refused a (Load text) = refused_text a text (graph_of text)
refused a (Tick t) = first_some (when (nat_lt t a.now) (refusal.ClockBack a.now) ∷ when (is_full_with a (named_by_tick a t)) refusal.RecordFull ∷ [])
refused a (Trigger id) = first_some (
    when (is_unknown_graph a id) refusal.UnknownGraph
    ∷ when (has_run_at a id a.now) refusal.RunExists
    ∷ when (has_no_interval a id) refusal.NoInterval
    ∷ when (is_full_with a (named_by_hand a id)) refusal.RecordFull
    ∷ [])
refused a (Backfill id from to reset) = first_some (
    when (is_unknown_graph a id) refusal.UnknownGraph
    ∷ when (is_bad_span from to) refusal.BadSpan
    ∷ in_flight a (Backfill id from to reset)
    ∷ when (is_full_with a (named_by_backfill a id from to)) refusal.RecordFull
    ∷ [])
refused a (Clear c) = first_some (
    when (is_unknown_graph a c.graph) refusal.UnknownGraph
    ∷ when (is_unknown_task a c) refusal.UnknownTask
    ∷ when (is_bad_span c.from c.to) refusal.BadSpan
    ∷ in_flight a (Clear c)
    ∷ [])
refused a (Pause id) = when (is_unknown_graph a id) refusal.UnknownGraph
refused a (Unpause id) = when (is_unknown_graph a id) refusal.UnknownGraph
refused a (Resize name size) = when (has_too_many_pools a name) (refusal.PoolFault TooManyPools)
refused a (Report serial stage) = first_some (when (is_not_in_flight a serial) (refusal.NotInFlight serial) ∷ when (is_out_of_turn a serial stage) (refusal.OutOfTurn serial) ∷ [])
refused a (Restart lanes) = when (has_too_many_lanes a lanes) refusal.LanesTooMany
refused a (Replace text) = refused_change a text (graph_of text)
refused a (Mark id date task) = first_some (
    when (is_unknown_graph a id) refusal.UnknownGraph
    ∷ when (is_unknown_task a (one_of id date task)) refusal.UnknownTask
    ∷ option_map refusal.InFlight (least_in_flight a (cleared_by a (one_of id date task)))
    ∷ when (not (has_run_at a id date)) refusal.UnknownRun
    ∷ [])
