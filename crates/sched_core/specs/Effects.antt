-- What the effect of a change makes of a schedule, and of what is occupied in it.
use Rattle.std.specs.Prelude.{◌≡◌, ℕ, Bool, true, false, List, [], Option, Some, None, map}
use Rattle.sched_state.specs.declared.graphs.LoadedGraph.{LoadedGraph}
use Rattle.run_lists.specs.Edits.{AreEditsOf, edited}
use Rattle.sched_model.specs.Schedule.{Schedule, has_runs}
use Rattle.sched_model.specs.Changes.{with_graph, pause_graph}
use Rattle.sched_draft.specs.Books.{pools_in}
use Rattle.sched_draft.specs.Drafts.{DraftValue}
use Rattle.sched_draft.specs.Parts.{with_other}
use Rattle.sched_ready.specs.Held.{AreShelvesOf, FitsShelf}
use Rattle.sched_ready.specs.Patched.{patched}
use Rattle.sched_ready.specs.Shelves.{ShelfValue}
use Rattle.sched_handout.specs.declared.occupied.Occupied.{Occupied}
use Rattle.record_rows.specs.Rows.{Rows}
use Rattle.record_writing.specs.record_rules.Changes.{rows_between}
use Rattle.sched_core.specs.Books.{IsHeldWith}
use Rattle.sched_core.specs.Inside.{IsLast}
use Rattle.sched_core.specs.declared.changes.Effect.{Effect}
use Rattle.sched_core.specs.declared.changes.GraphChange.{GraphChange}
use Rattle.sched_core.specs.declared.changes.GraphChange.TheVariants as graphs
use Rattle.sched_state.specs.declared.runs.Run.{Run}
use Rattle.sched_core.specs.declared.changes.Rest.{Rest}

-- what a change makes of the graphs
abbrev pub changed : GraphChange → List LoadedGraph → List LoadedGraph
changed graphs.Same gs = gs
changed (graphs.Load text dag shelf dates) gs = with_graph text dag gs
changed (graphs.Pause id paused) gs = map (pause_graph id paused) gs
changed (graphs.Replace graph shelves) gs = with_other (Some graph) gs

-- and of a schedule
abbrev pub with_change : GraphChange → Schedule → Schedule
with_change g a = record a { graphs = changed g a.graphs }

-- the rest, where it is another
abbrev pub with_rest : Option Rest → Schedule → Schedule
with_rest None a = a
with_rest (Some n) a = record a { pools = pools_in n.occupied.pools.pools; now = n.clock; lanes = n.lanes; next = n.serial; runs = edited n.edits a.runs }

-- what a draft leaves, with these numbers: its edits are of the runs that were there, and with its limits and its graphs it is what the draft has
pub record IsRestOf (d : DraftValue) (t : Occupied) (n : Rest) : Type 0 where
  pub numbers : n.occupied ≡ t
  pub edits : AreEditsOf d.base.runs n.edits
  pub made : with_rest (Some n) (record d.base { limits = d.content.limits; graphs = d.content.graphs }) ≡ d.content

-- its edits are of the runs that are there
abbrev pub AreOfRuns : Option Rest → Schedule → Type 0
AreOfRuns None a = Unit {0}
AreOfRuns (Some n) a = AreEditsOf a.runs n.edits

abbrev pub applied : Effect → Schedule → Schedule
applied e a = with_rest e.rest (with_change e.graphs a)

-- the numbers after it: its own, or those of before
abbrev pub numbers_after : Option Rest → Occupied → Occupied
numbers_after None t = t
numbers_after (Some n) t = n.occupied

-- with whatever numbers the schedule is held, settled or not, after the effect it is settled, and held with the numbers of then
abbrev pub KeepsHold : Effect → Schedule → Type 0
KeepsHold e a = (t : Occupied) (is_settled : Bool) → IsHeldWith is_settled a t → IsHeldWith true (applied e a) (numbers_after e.rest t)

-- a text that is taken in brings a shelf that fits its graph, and no date
abbrev pub IsFitted : GraphChange → Type 0
IsFitted graphs.Same = Unit {0}
IsFitted (graphs.Load text dag shelf dates) = FitsShelf dag shelf × (dates.dates ≡ [])
IsFitted (graphs.Pause id paused) = Unit {0}
IsFitted (graphs.Replace graph shelves) = Unit {0}

-- the shelves hold what is due once the change is made: where another graph is put in, those that come with it
abbrev pub HoldsAfter : GraphChange → ℕ → List LoadedGraph → List Run → List ShelfValue → Type 0
HoldsAfter graphs.Same now gs rs ss = AreShelvesOf now gs rs ss
HoldsAfter (graphs.Load text dag shelf dates) now gs rs ss = AreShelvesOf now gs rs ss
HoldsAfter (graphs.Pause id paused) now gs rs ss = AreShelvesOf now gs rs ss
HoldsAfter (graphs.Replace graph shelves) now gs rs ss = AreShelvesOf now (with_other (Some graph) gs) rs shelves.items

-- whatever shelves hold what is due in the schedule, with the patches they hold what is due after the effect
abbrev pub KeepsShelves : Effect → Schedule → Type 0
KeepsShelves e a = (ss : List ShelfValue) → AreShelvesOf a.now a.graphs a.runs ss → HoldsAfter e.graphs (applied e a).now a.graphs (applied e a).runs (patched e.patches.items ss)

-- so it keeps the hold and the shelves, brings a shelf with a text, which is of a graph without runs or of the one whose runs go on by it, its edits are of the schedule's runs, and these are the rows that the schedule lacks after it
pub record IsEffect (e : Effect) (rows : Rows) (a : Schedule) : Type 0 where
  pub keeps : KeepsHold e a
  pub shelves : KeepsShelves e a
  pub fitted : IsFitted e.graphs
  pub last : IsLast e.graphs (applied e a)
  pub edits : AreOfRuns e.rest a
  pub rows_are : rows ≡ rows_between a (applied e a)

-- the change enables nothing in a schedule: a text takes in a graph without runs, or a graph is paused
abbrev pub IsQuiet : GraphChange → Schedule → Type 0
IsQuiet graphs.Same a = Unit {0}
IsQuiet (graphs.Load text dag shelf dates) a = has_runs a dag.spec.dag_id ≡ false
IsQuiet (graphs.Pause id paused) a = paused ≡ true
IsQuiet (graphs.Replace graph shelves) a = ⊥
