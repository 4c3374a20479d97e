-- What the core's own functions say of each other.
use Rattle.std.specs.Prelude.{◌≡◌, ℕ, ◌-ℤ◌, pos, ◌<◌, ◌≤◌, Bool, true, false, cond, List, [], ◌∷◌, length, map, take, sum_by, count_by, Option, MatchOption, Some, None, slice_get, Result, Ok, Err, ◌⊎◌}
use Rattle.graph_file.specs.Graphs.{graph_of}
use Rattle.graph_file.specs.declared.faults.GraphFault.{GraphFault}
use Rattle.graph_file.specs.declared.graph_specs.GraphSpec.{GraphSpec}
use Rattle.dag_check.specs.Graphs.{Dag, IsGraphOf}
use Rattle.dag_check.specs.Faults.{Stands, first_fault, without_names}
use Rattle.dag_check.specs.declared.faults.DagFault.{DagFault}
use Rattle.pool_book.specs.Pools.{Entries, PoolUse}
use Rattle.sched_model.specs.Sound.{Says}
use Rattle.sched_draft.specs.Books.{pools_in}
use Rattle.sched_draft.specs.Drafts.{DraftValue}
use Rattle.sched_draft.specs.Parts.{with_other, with_pause}
use Rattle.sched_core.specs.declared.changes.GraphChange.{GraphChange}
use Rattle.sched_core.specs.declared.changes.GraphChange.TheVariants as graphs
use Rattle.sched_events.specs.Causes.{exceeds, unfit, unknown_pool}
use Rattle.sched_events.specs.Outcomes.{unnamed, IsShown}
use Rattle.sched_events.specs.declared.events.Event.TheVariants.{Load}
use Rattle.std.specs.List.{list_any}
use Rattle.instance_machine.specs.Instances.{InstanceValue}
use Rattle.sched_state.specs.Lists.{same}
use Rattle.sched_state.specs.declared.graphs.LoadedGraph.{LoadedGraph}
use Rattle.sched_state.specs.declared.runs.Run.{Run}
use Rattle.sched_model.specs.Schedule.{Schedule, has_runs}
use Rattle.sched_model.specs.Changes.{pause_graph, load_graph, new_graph, with_text}
use Rattle.sched_model.specs.States.{is_open}
use Rattle.sched_events.specs.Rows.{Row, PoolLine}
use Rattle.sched_events.specs.declared.refusals.Refusal.{Refusal}
use Rattle.sched_events.specs.declared.refusals.Refusal.TheVariants as refusal
use Rattle.sched_core.specs.Views.{row_before, follows}

-- a graph of this id stands at the place
pub record StandsAt (id : List ℕ) (graphs : List LoadedGraph) (place : ℕ) : Type 0 where
  pub below : place < length graphs
  pub graph : LoadedGraph
  pub there : slice_get graphs place ≡ Some graph
  pub named : same graph.dag.spec.dag_id id ≡ true

-- the place of a graph of this id, or none where there is none
abbrev pub IsPlaceOf : List ℕ → List LoadedGraph → Option ℕ → Type 0
IsPlaceOf id graphs place = MatchOption place (list_any (λ (g : LoadedGraph). same g.dag.spec.dag_id id) graphs ≡ false) (StandsAt id graphs)

-- the place at which x is put into a list: before the first element that it stands before
pub record IsPlaceFor {X : Type 0} (before : X → X → Bool) (x : X) (xs : List X) (place : ℕ) : Type 0 where
  pub within : place ≤ length xs
  pub passed : list_any (before x) (take place xs) ≡ false
  pub reached : (y : X) → slice_get xs place ≡ Some y → before x y ≡ true

-- the text says this file
abbrev pub IsRead : List ℕ → GraphSpec → Type 0
IsRead text spec = graph_of text ≡ Ok spec

-- the text says this graph, and no cause against it lies in the text, the bounds and the pools
pub record IsTaken (a : Schedule) (text : List ℕ) (dag : Dag) : Type 0 where
  pub says : Says text dag
  pub fits : exceeds a.limits dag.spec ≡ false
  pub pools : unknown_pool a dag.spec ≡ None

-- the first cause against a text that does not lie in the graphs that are there
abbrev pub unfit_text : Schedule → Result GraphSpec GraphFault → Option Refusal
unfit_text a (Err fault) = Some (refusal.GraphFault fault)
unfit_text a (Ok spec) = unfit a spec

-- this is that cause, and a fault of the graph stands in the file, with the cycle that it shows
pub record IsFirstUnfit (a : Schedule) (text : List ℕ) (r : Refusal) : Type 0 where
  pub first : unfit_text a (graph_of text) ≡ Some (unnamed r)
  pub shown : IsShown (Load text) r

-- memory ran out, or this is the cause
abbrev pub IsUnfit : Schedule → List ℕ → Refusal → Type 0
IsUnfit a text r = (r ≡ refusal.Memory) ⊎ IsFirstUnfit a text r

-- the graph of the file
pub record IsChecked (spec : GraphSpec) (dag : Dag) : Type 0 where
  pub spec_is : dag.spec ≡ spec
  pub graph : IsGraphOf spec dag

-- memory ran out, or the file has this fault, and it is the first
pub record IsFirstFault (spec : GraphSpec) (fault : DagFault) : Type 0 where
  pub stands : Stands spec.tasks fault
  pub first : first_fault spec.tasks ≡ Some (without_names fault)

abbrev pub IsCheckFault : GraphSpec → Refusal → Type 0
IsCheckFault spec r = (r ≡ refusal.Memory) ⊎ ((fault : DagFault) × (r ≡ refusal.DagFault fault) × IsFirstFault spec fault)

-- memory ran out, or the text has this fault
abbrev pub IsReadFault : List ℕ → Refusal → Type 0
IsReadFault text r = (r ≡ refusal.Memory) ⊎ ((fault : GraphFault) × (r ≡ refusal.GraphFault fault) × (graph_of text ≡ Err fault))

-- the graphs of a draft: a pause is made before it is settled, and so is another graph; a text is taken in after it
abbrev pub drafted : GraphChange → List LoadedGraph → List LoadedGraph
drafted graphs.Same gs = gs
drafted (graphs.Load text dag shelf dates) gs = gs
drafted (graphs.Pause id paused) gs = map (pause_graph id paused) gs
drafted (graphs.Replace graph shelves) gs = with_other (Some graph) gs

-- the draft is over the same limits, and over these graphs
pub record IsOver (g : GraphChange) (a b : Schedule) : Type 0 where
  pub limits : b.limits ≡ a.limits
  pub graphs : b.graphs ≡ drafted g a.graphs

-- the schedule as a draft over itself, in which the graph that is named is paused or not as is said
abbrev pub drafted_as : Option (List ℕ) → Bool → Schedule → DraftValue
drafted_as named paused a = record { base = a; content = record a { graphs = with_pause named paused a.graphs }; touched = [] }

-- what a settled draft is made into
abbrev pub completed : GraphChange → Schedule → Schedule
completed graphs.Same b = b
completed (graphs.Load text dag shelf dates) b = load_graph text dag b
completed (graphs.Pause id paused) b = b
completed (graphs.Replace graph shelves) b = b

-- a text that is taken in after the draft takes in a graph without runs
abbrev pub IsLast : GraphChange → Schedule → Type 0
IsLast graphs.Same b = Unit {0}
IsLast (graphs.Load text dag shelf dates) b = has_runs b dag.spec.dag_id ≡ false
IsLast (graphs.Pause id paused) b = Unit {0}
IsLast (graphs.Replace graph shelves) b = Unit {0}

-- the tasks and edges of each graph that has runs stay
abbrev pub LeavesDags : GraphChange → Type 0
LeavesDags graphs.Same = Unit {0}
LeavesDags (graphs.Load text dag shelf dates) = Unit {0}
LeavesDags (graphs.Pause id paused) = Unit {0}
LeavesDags (graphs.Replace graph shelves) = ⊥

-- the schedule over the pools of a book
abbrev pub over : Entries → Schedule → Schedule
over es a = record a { pools = pools_in es }

-- the graph that a text was taken in by, where there was one, or the new one
abbrev pub taken_among : List ℕ → Dag → Option LoadedGraph → LoadedGraph
taken_among text dag o = elim o [ Some g ↦ with_text text dag g | None ↦ new_graph text dag ]

-- how many tries of a run are without an end
abbrev pub open_in : Run → ℕ
open_in r = sum_by (λ (i : InstanceValue). count_by is_open i.tries) r.instances

-- the same, where the run is of a graph
abbrev pub open_for : List ℕ → Run → ℕ
open_for id r = cond (same r.graph id) (open_in r) 0

-- ---- the search for the next row
-- the first of two
abbrev pub put_first : Row → Option Row → Row
put_first w None = w
put_first w (Some v) = cond (row_before w v) w v

-- the row, where it comes after the task, or the first that was chosen of those after it
abbrev pub sooner : Option (List ℕ) → Row → Option Row → Option Row
sooner last w o = cond (follows last w) (Some (put_first w o)) o

abbrev pub first_after : Option (List ℕ) → List Row → Option Row
first_after last [] = None
first_after last (w ∷ ws) = sooner last w (first_after last ws)

-- ---- pools
-- the row of a pool in a book
abbrev pub row_in : List ℕ × PoolUse → PoolLine
row_in e = record { name = e.0; size = e.1.size; occupied = e.1.occupied; open_slots = pos e.1.size -ℤ pos e.1.occupied }
