-- What an event does: the runs that it names, and its own change.
use Rattle.std.specs.Prelude.{ℕ, Bool, true, false, List, [], Option, Some, None, Result, Ok, Err, IsTrue}
use Rattle.graph_file.specs.Graphs.{graph_of}
use Rattle.graph_file.specs.declared.faults.GraphFault.{GraphFault}
use Rattle.graph_file.specs.declared.graph_specs.GraphSpec.{GraphSpec}
use Rattle.dag_check.specs.Graphs.{dag_of}
use Rattle.dag_check.specs.Faults.{first_fault}
use Rattle.sched_laws.specs.sched_model.Schedule.{Schedule}
use Rattle.sched_laws.specs.sched_model.NamedRuns.{NamedRun, named_by_tick, named_by_hand, named_by_backfill, present_in, leaves_more}
use Rattle.sched_laws.specs.sched_model.Clearing.{Selection, cleared_by, reset_by, clear, count_cleared}
use Rattle.sched_laws.specs.sched_model.Changes.{load_graph, set_now, set_paused, new_pool, resize, report, restart}
use Rattle.sched_laws.specs.sched_model.Marking.{mark}
use Rattle.sched_laws.specs.sched_model.Replacing.{replace_graph}
use Rattle.sched_laws.specs.sched_model.Sound.{is_moment, is_sound_pool}
use Rattle.sched_events.specs.declared.events.Event.{Event}
use Rattle.sched_events.specs.declared.events.Event.TheVariants.{Load, Tick, Trigger, Backfill, Clear, Pause, Unpause, Resize, Report, Restart, Replace, Mark}

-- the runs that an event names
abbrev pub named_by : Event → Schedule → List NamedRun
named_by (Load text) a = []
named_by (Tick t) a = named_by_tick a t
named_by (Trigger id) a = named_by_hand a id
named_by (Backfill id from to reset) a = named_by_backfill a id from to
named_by (Clear c) a = []
named_by (Pause id) a = []
named_by (Unpause id) a = []
named_by (Resize name size) a = []
named_by (Report serial stage) a = []
named_by (Restart lanes) a = []
named_by (Replace text) a = []
named_by (Mark id date task) a = []

-- whether it leaves some for the next event of its kind
abbrev pub leaves_more_by : Event → Schedule → Bool
leaves_more_by (Tick t) a = leaves_more a t
leaves_more_by _ a = false

-- the instances that it sets back, where it is an event that does: those that a clear names, or all instances of the runs that a
-- backfill finds in its span, if they are to be reset
-- restates: Airflow 2, 'DAG Runs'
abbrev pub set_back_by : Event → Schedule → Option Selection
set_back_by (Backfill id from to true) a = Some (reset_by id (present_in a id from to))
set_back_by (Clear c) a = Some (cleared_by a c)
set_back_by _ a = None

-- restates: Airflow 2, 'DAG Runs'
abbrev pub set_back : Option Selection → Schedule → Schedule
set_back None a = a
set_back (Some named) a = clear named a

-- how many of them were not none
-- restates: Airflow 2, 'DAG Runs'
abbrev pub count_in : Option Selection → Schedule → ℕ
count_in None a = 0
count_in (Some named) a = count_cleared a named

-- a text that says a graph without faults is taken in
abbrev pub load_result : List ℕ → Result GraphSpec GraphFault → Schedule → Schedule
load_result text (Ok spec) a = elim (first_fault spec.tasks) [ None ↦ load_graph text (dag_of spec) a | Some fault ↦ a ]
load_result text (Err fault) a = a

-- and so is another one for a graph that is there, whose runs go on by it
abbrev pub replace_result : List ℕ → Result GraphSpec GraphFault → Schedule → Schedule
replace_result text (Ok spec) a = elim (first_fault spec.tasks) [ None ↦ replace_graph text (dag_of spec) a | Some fault ↦ a ]
replace_result text (Err fault) a = a

-- the event's own change
abbrev pub change_by : Event → Schedule → Schedule
change_by (Load text) a = load_result text (graph_of text) a
change_by (Tick t) a = set_now t a
change_by (Trigger id) a = a
change_by (Backfill id from to reset) a = set_back (set_back_by (Backfill id from to reset) a) a
change_by (Clear c) a = set_back (set_back_by (Clear c) a) a
change_by (Pause id) a = set_paused id true a
change_by (Unpause id) a = set_paused id false a
change_by (Resize name size) a = resize name size a
change_by (Report serial stage) a = report serial stage a
change_by (Restart lanes) a = restart lanes a
change_by (Replace text) a = replace_result text (graph_of text) a
change_by (Mark id date task) a = mark id date task a

-- the moment of a tick is one, and the pool of a resize: it has a name, and no more slots than a pool may have
abbrev pub IsInRange : Event → Type 0
IsInRange (Load text) = Unit {0}
IsInRange (Tick t) = IsTrue (is_moment t)
IsInRange (Trigger id) = Unit {0}
IsInRange (Backfill id from to reset) = Unit {0}
IsInRange (Clear c) = Unit {0}
IsInRange (Pause id) = Unit {0}
IsInRange (Unpause id) = Unit {0}
IsInRange (Resize name size) = IsTrue (is_sound_pool (new_pool name size))
IsInRange (Report serial stage) = Unit {0}
IsInRange (Restart lanes) = Unit {0}
IsInRange (Replace text) = Unit {0}
IsInRange (Mark id date task) = Unit {0}
