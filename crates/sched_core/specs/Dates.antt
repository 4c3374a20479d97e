-- The dates of graphs' runs beside the edits that add some.
use Rattle.std.specs.Prelude.{◌≡◌, ℕ, ◌+◌, ◌≤◌, Bool, true, cond, ◌&&◌, ◌||◌, List, length, count_by, take, Option, Some, None, slice_get}
use Rattle.std.specs.List.{list_any}
use Rattle.run_planner.specs.Index.{Index, has_date}
use Rattle.run_lists.specs.declared.edits.Edit.{Edit}
use Rattle.run_lists.specs.Edits.{adds}
use Rattle.sched_state.specs.Lists.{same}
use Rattle.sched_state.specs.declared.graphs.LoadedGraph.{LoadedGraph}
use Rattle.sched_core.specs.declared.changes.Rest.{Rest}

-- an edit adds a run of the graph; how many of the edits do
abbrev pub is_of : List ℕ → Edit → Bool
is_of id e = e.is_new && same e.run.graph id

abbrev pub added_of : List ℕ → List Edit → ℕ
added_of id es = count_by (is_of id) es

-- y has the dates of x, and those of the runs of the graph that the edits add
abbrev pub IsNoted : List ℕ → List Edit → Index → Index → Type 0
IsNoted id es x y = (d : ℕ) → has_date y.dates d ≡ (list_any (adds id d) es || has_date x.dates d)

-- so have those of each graph
pub record AreNoted (gs : List LoadedGraph) (es : List Edit) (xs ys : List Index) : Type 0 where
  pub long : length ys ≡ length xs
  pub each : (n : ℕ) (g : LoadedGraph) (x y : Index) → slice_get gs n ≡ Some g → slice_get xs n ≡ Some x → slice_get ys n ≡ Some y → IsNoted g.dag.spec.dag_id es x y

-- there is room for the dates of the runs that the edits add
abbrev pub HaveRoom : List LoadedGraph → List Edit → List Index → Type 0
HaveRoom gs es xs = (n : ℕ) (g : LoadedGraph) (x : Index) → slice_get gs n ≡ Some g → slice_get xs n ≡ Some x → added_of g.dag.spec.dag_id es ≤ x.room

-- the same, of each graph to which one of the first k edits adds a run
abbrev pub HaveRoomTo : List LoadedGraph → List Edit → ℕ → List Index → Type 0
HaveRoomTo gs es k xs = (n : ℕ) (g : LoadedGraph) (x : Index) → slice_get gs n ≡ Some g → slice_get xs n ≡ Some x → list_any (is_of g.dag.spec.dag_id) (take k es) ≡ true → added_of g.dag.spec.dag_id es ≤ x.room

-- y has the dates of x, and that of the run of the graph that the edit adds, where it adds one, which takes no more room than for one date
pub record IsNotedOne (id : List ℕ) (e : Edit) (x y : Index) : Type 0 where
  pub dates : (d : ℕ) → has_date y.dates d ≡ (adds id d e || has_date x.dates d)
  pub room : x.room ≤ y.room + cond (is_of id e) 1 0

-- so it is of each graph, with the edit at the place
pub record AreNotedAt (gs : List LoadedGraph) (es : List Edit) (k : ℕ) (xs ys : List Index) : Type 0 where
  pub long : length ys ≡ length xs
  pub each : (n : ℕ) (g : LoadedGraph) (e : Edit) (x y : Index) → slice_get gs n ≡ Some g → slice_get es k ≡ Some e → slice_get xs n ≡ Some x → slice_get ys n ≡ Some y → IsNotedOne g.dag.spec.dag_id e x y

-- there is room for the date of the run that the edit at the place adds
abbrev pub CanNoteAt : List LoadedGraph → List Edit → ℕ → List Index → Type 0
CanNoteAt gs es k xs = (n : ℕ) (g : LoadedGraph) (e : Edit) (x : Index) → slice_get gs n ≡ Some g → slice_get es k ≡ Some e → slice_get xs n ≡ Some x → cond (is_of g.dag.spec.dag_id e) 1 0 ≤ x.room

-- the same of the rest of a change, where there is one: otherwise nothing is added
abbrev pub AreNotedWith : List LoadedGraph → Option Rest → List Index → List Index → Type 0
AreNotedWith gs None xs ys = ys ≡ xs
AreNotedWith gs (Some n) xs ys = AreNoted gs n.edits xs ys

-- there is room for the dates of the runs that the rest of a change adds, where there is one
abbrev pub HaveRoomWith : List LoadedGraph → Option Rest → List Index → Type 0
HaveRoomWith gs None xs = Unit {0}
HaveRoomWith gs (Some n) xs = HaveRoom gs n.edits xs
