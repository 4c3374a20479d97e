-- The runs that a tick, a trigger by hand and a backfill name, and how named runs are added. Airflow 2, 'DAG Runs'.
use Rattle.std.specs.Prelude.{ℕ, Bool, true, false, ◌&&◌, ◌==◌, List, [], ◌∷◌, length, take, map, replicate, nat_lt}
use Rattle.std.specs.List.{list_any, flat_map}
use Rattle.sched_state.specs.cron_timetable.declared.timetables.Interval.{Interval}
use Rattle.run_planner.specs.Due.{wanted_intervals, without_runs}
use Rattle.run_planner.specs.ByHand.{manual_intervals}
use Rattle.run_planner.specs.Spans.{span_intervals, with_runs, starts}
use Rattle.sched_state.specs.instance_machine.Instances.{new_instance}
use Rattle.sched_state.specs.Lists.{same, insert_by}
use Rattle.sched_state.specs.declared.graphs.LoadedGraph.{LoadedGraph}
use Rattle.sched_state.specs.declared.runs.RunKind.{RunKind}
use Rattle.sched_state.specs.declared.runs.RunKind.TheVariants.{Scheduled, Manual, Backfill}
use Rattle.sched_state.specs.declared.runs.RunPhase.TheVariants.{Queued}
use Rattle.sched_model.specs.Schedule.{Schedule, dag_named, dates_of, run_before}
use Rattle.sched_state.specs.declared.runs.Run.{Run}

-- a run that an event names
pub record NamedRun : Type 0 where
  pub graph : List ℕ
  pub logical : ℕ
  pub interval : Interval
  pub kind : RunKind

-- the run is of this graph and has this logical date
abbrev pub is_for : List ℕ → ℕ → NamedRun → Bool
is_for id date n = same n.graph id && n.logical == date

-- a run whose logical date is the start of its interval
abbrev pub run_from : RunKind → List ℕ → Interval → NamedRun
run_from kind id i = record { graph = id; logical = i.start; interval = i; kind = kind }

-- ---- by a tick
-- the most runs of one graph that one tick makes: this project's own profile
-- restates: this project's own profile
abbrev pub runs_per_tick : ℕ
runs_per_tick = 10

-- the intervals for which a tick at t wants a run of a graph, beside the runs that are there; a paused graph wants none
-- restates: this project's own profile
abbrev pub wanted_by : Schedule → ℕ → LoadedGraph → List Interval
wanted_by a t g = elim g.paused [
  | true ↦ []
  | false ↦ wanted_intervals g.dag.spec t (dates_of a g.dag.spec.dag_id)
]

-- restates: this project's own profile
abbrev pub named_of : Schedule → ℕ → LoadedGraph → List NamedRun
named_of a t g = map (run_from Scheduled g.dag.spec.dag_id) (take runs_per_tick (wanted_by a t g))

-- the runs that a tick at t names, by graph and date
-- restates: this project's own profile
abbrev pub named_by_tick : Schedule → ℕ → List NamedRun
named_by_tick a t = flat_map (named_of a t) a.graphs

-- whether a tick at t leaves some runs of a graph for the next one
-- restates: this project's own profile
abbrev pub leaves_some : Schedule → ℕ → LoadedGraph → Bool
leaves_some a t g = nat_lt runs_per_tick (length (wanted_by a t g))

-- whether a tick leaves some runs
-- restates: this project's own profile
abbrev pub leaves_more : Schedule → ℕ → Bool
leaves_more a t = list_any (leaves_some a t) a.graphs

-- ---- by hand
-- a run by hand has the schedule's clock as its logical date
-- restates: Airflow 2, 'DAG Runs': external triggers
abbrev pub manual_run : Schedule → List ℕ → Interval → NamedRun
manual_run a id i = record { graph = id; logical = a.now; interval = i; kind = Manual }

-- the run that a user asks for by hand
-- restates: Airflow 2, 'DAG Runs': external triggers
abbrev pub named_by_hand : Schedule → List ℕ → List NamedRun
named_by_hand a id = map (manual_run a id) (manual_intervals (dag_named a id).spec.schedule a.now)

-- ---- by a backfill
-- the intervals of a graph that start within a span and have ended at the schedule's clock
-- restates: Airflow 2, 'DAG Runs': backfill
abbrev pub spanned : Schedule → List ℕ → ℕ → ℕ → List Interval
spanned a id low high = span_intervals (dag_named a id).spec low high a.now

-- those without a run get one
-- restates: Airflow 2, 'DAG Runs': backfill
abbrev pub named_by_backfill : Schedule → List ℕ → ℕ → ℕ → List NamedRun
named_by_backfill a id low high = map (run_from Backfill id) (without_runs (dates_of a id) (spanned a id low high))

-- the dates of those that have a run
-- restates: Airflow 2, 'DAG Runs': backfill
abbrev pub present_in : Schedule → List ℕ → ℕ → ℕ → List ℕ
present_in a id low high = starts (with_runs (dates_of a id) (spanned a id low high))

-- ---- adding
-- a named run is made as queued, and none of its instances is decided
abbrev pub queued_run : Schedule → NamedRun → Run
queued_run a n = record {
  graph = n.graph;
  logical = n.logical;
  interval = n.interval;
  kind = n.kind;
  phase = Queued;
  instances = replicate (length (dag_named a n.graph).tasks) new_instance;
}

-- each at its place in the order
abbrev pub insert_runs : List Run → List Run → List Run
insert_runs [] rs = rs
insert_runs (n ∷ ns) rs = insert_by run_before n (insert_runs ns rs)

-- named runs are made as queued
abbrev pub add_runs : List NamedRun → Schedule → Schedule
add_runs ns a = record a { runs = insert_runs (map (queued_run a) ns) a.runs }
