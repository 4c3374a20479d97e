-- How patches are made, one run after another.
use Rattle.std.specs.Prelude.{◌≡◌, ◌≢◌, ℕ, ◌<◌, ◌≤◌, ◌++◌, ◌==◌, ◌⊎◌, Bool, true, false, ◌||◌, List, [], ◌∷◌, length, Option, None, Some, slice_get}
use Rattle.graph_file.specs.declared.task_specs.TaskSpec.{TaskSpec}
use Rattle.dag_check.specs.Graphs.{Dag}
use Rattle.dag_check.specs.Orders.{is_in}
use Rattle.sched_model.specs.Schedule.{Schedule, is_at}
use Rattle.sched_model.specs.sched_state.Lists.{same}
use Rattle.sched_model.specs.sched_state.declared.graphs.LoadedGraph.{LoadedGraph}
use Rattle.sched_model.specs.sched_state.declared.runs.Run.{Run}
use Rattle.sched_ready.specs.Due.{due_at, is_kept}
use Rattle.sched_ready.specs.Held.{AreShelvesOf, IsLater}
use Rattle.sched_ready.specs.Leading.{moments_of}
use Rattle.sched_ready.specs.Patched.{WasDue}
use Rattle.sched_ready.specs.Shelves.{ShelfValue}
use Rattle.sched_ready.specs.declared.patches.Patch.{Patch}
use Rattle.sched_ready.specs.declared.queues.Queue.{Queue}

-- ---- one queue
-- each of these dates is one of those
abbrev pub HasAll : List ℕ → List ℕ → Type 0
HasAll these those = (d : ℕ) → is_in these d ≡ true → is_in those d ≡ true

-- no moment that waits has come
abbrev pub IsAhead : ℕ → Queue → Type 0
IsAhead now q = (m : ℕ) → is_in (moments_of q) m ≡ true → now < m

-- what was kept is kept, also where the clock has gone on
abbrev pub KeepsAll : ℕ → Queue → Queue → Type 0
KeepsAll now old new = (before d m : ℕ) → before ≤ now → is_kept before old d m ≡ true → is_kept now new d m ≡ true

-- a queue in which all is kept; none where no moment that waits has come
abbrev pub IsMoved : ℕ → Queue → Option Queue → Type 0
IsMoved now old None = IsAhead now old
IsMoved now old (Some new) = KeepsAll now old new

-- so it is of each of them
abbrev pub AreAhead : ℕ → List Queue → Type 0
AreAhead now qs = (p : ℕ) (q : Queue) → slice_get qs p ≡ Some q → IsAhead now q

pub record AreMoved (now : ℕ) (old : List Queue) (new : List (Option Queue)) : Type 0 where
  pub long : length new ≡ length old
  pub each : (p : ℕ) (q : Queue) (o : Option Queue) → slice_get old p ≡ Some q → slice_get new p ≡ Some o → IsMoved now q o

-- what was kept of other dates is kept, and so is this date where it is due
pub record IsTurned (now : ℕ) (due : Option ℕ) (date : ℕ) (old new : Queue) : Type 0 where
  pub kept : (d m : ℕ) → d ≢ date → is_kept now old d m ≡ true → is_kept now new d m ≡ true
  pub now_due : (m : ℕ) → due ≡ Some m → is_kept now new date m ≡ true

-- which queue is to change: the new one so far, or one that keeps what the old one does; none where the date is due as it was
abbrev pub IsChanging : ℕ → Queue → Option ℕ → Option ℕ → Option Queue → Option Queue → Type 0
IsChanging now old was due (Some new) None = ⊥
IsChanging now old was due (Some new) (Some q) = q ≡ new
IsChanging now old was due None None = was ≡ due
IsChanging now old was due None (Some q) = KeepsAll now old q

-- the new queue of a place after a date that was due at one moment and is due at another; none where there was none, and it is due as it was
abbrev pub IsPlacePatched : ℕ → Queue → Option ℕ → Option ℕ → ℕ → Option Queue → Option Queue → Type 0
IsPlacePatched now old was due date slot None = (slot ≡ None) × (was ≡ due)
IsPlacePatched now old was due date slot (Some new) = (q : Queue) × (IsChanging now old was due slot (Some q) × IsTurned now due date q new)

-- ---- the places of a graph
-- the same of a run that may have been there
abbrev pub due_before : Option Run → TaskSpec → ℕ → Option ℕ
due_before None t p = None
due_before (Some r) t p = due_at r t p

-- so it is at each place, by when the instance was due in the run before, and is due in the run
pub record ArePlacesPatched (now : ℕ) (g : Dag) (s : ShelfValue) (before : Option Run) (r : Run) (old new : List (Option Queue)) : Type 0 where
  pub long : length new ≡ length old
  pub each : (p : ℕ) (t : TaskSpec) (q : Queue) (o n : Option Queue) → slice_get g.tasks p ≡ Some t → slice_get s.queues p ≡ Some q → slice_get old p ≡ Some o → slice_get new p ≡ Some n
      → IsPlacePatched now q (due_before before t p) (due_at r t p) r.logical o n

-- at each place the same is due in the run as in the run before
abbrev pub IsDueAsBefore : Dag → Option Run → Run → Type 0
IsDueAsBefore g before r = (p : ℕ) (t : TaskSpec) → slice_get g.tasks p ≡ Some t → due_before before t p ≡ due_at r t p

-- ---- the patches
-- a patch is of the graph at the position
abbrev pub is_of : ℕ → Patch → Bool
is_of n x = x.graph == n

-- there is one, and it is of it
abbrev pub is_of_if : ℕ → Option Patch → Bool
is_of_if n None = false
is_of_if n (Some x) = is_of n x

-- none of them is of it
abbrev pub AreOfOthers : ℕ → List Patch → Type 0
AreOfOthers n ps = (k : ℕ) (x : Patch) → slice_get ps k ≡ Some x → x.graph ≢ n

-- the one at the index is of it
abbrev pub IsOfGraph : ℕ → List Patch → ℕ → Type 0
IsOfGraph n ps k = (x : Patch) × ((slice_get ps k ≡ Some x) × (x.graph ≡ n))

-- there is no new queue
abbrev pub AreNone : List (Option Queue) → Type 0
AreNone os = (p : ℕ) (o : Option Queue) → slice_get os p ≡ Some o → o ≡ None

-- there is one patch for a graph, or none; in each of them all is kept, and of graphs without one no moment that waits has come
pub record AreFirstPatches (now : ℕ) (ss : List ShelfValue) (ps : List Patch) : Type 0 where
  pub once : (k l : ℕ) (x y : Patch) → slice_get ps k ≡ Some x → slice_get ps l ≡ Some y → x.graph ≡ y.graph → k ≡ l
  pub each : (k : ℕ) (x : Patch) (s : ShelfValue) → slice_get ps k ≡ Some x → slice_get ss x.graph ≡ Some s → AreMoved now s.queues x.queues.items
  pub rest : (n : ℕ) (s : ShelfValue) → AreOfOthers n ps → slice_get ss n ≡ Some s → AreAhead now s.queues

-- where the patch of the graph stands among the new ones: among the old ones too, or behind them, with no queue at as many places
pub record IsPatchOf (graph places : ℕ) (old new : List Patch) (index : ℕ) : Type 0 where
  pub patch : Patch
  pub there : slice_get new index ≡ Some patch
  pub graph_is : patch.graph ≡ graph
  pub from : (new ≡ old) ⊎ (AreOfOthers graph old × ((new ≡ old ++ patch ∷ []) × ((length patch.queues.items ≡ places) × AreNone patch.queues.items)))

-- what is due of the graph at the place in the runs of which P holds is kept in the queue
abbrev pub HoldsOn : (ℕ → Bool) → Schedule → List ℕ → TaskSpec → ℕ → Queue → Type 0
HoldsOn P b id t p q = (n m : ℕ) (r : Run) → P n ≡ true → slice_get b.runs n ≡ Some r → same r.graph id ≡ true → due_at r t p ≡ Some m → is_kept b.now q r.logical m ≡ true

-- what is due in them was due before, and no moment that waits in the queue has come
pub record IsStillOn (P : ℕ → Bool) (a b : Schedule) (id : List ℕ) (t : TaskSpec) (p : ℕ) (q : Queue) : Type 0 where
  pub due : (n m : ℕ) (r : Run) → P n ≡ true → slice_get b.runs n ≡ Some r → same r.graph id ≡ true → due_at r t p ≡ Some m → WasDue a r.graph r.logical t p m
  pub ahead : IsAhead b.now q

-- the new queue holds it, or the old one is as good
abbrev pub IsPlaceOn : (ℕ → Bool) → Schedule → Schedule → List ℕ → TaskSpec → ℕ → Queue → Option Queue → Type 0
IsPlaceOn P a b id t p old None = IsStillOn P a b id t p old
IsPlaceOn P a b id t p old (Some new) = HoldsOn P b id t p new

-- so it is at each place of a graph
pub record IsTableOn (P : ℕ → Bool) (a b : Schedule) (g : Dag) (s : ShelfValue) (os : List (Option Queue)) : Type 0 where
  pub long : length os ≡ length g.tasks
  pub each : (p : ℕ) (t : TaskSpec) (q : Queue) (o : Option Queue) → slice_get g.tasks p ≡ Some t → slice_get s.queues p ≡ Some q → slice_get os p ≡ Some o → IsPlaceOn P a b g.spec.dag_id t p q o

-- the old queues of a graph are as good
abbrev pub IsGraphStillOn : (ℕ → Bool) → Schedule → Schedule → Dag → ShelfValue → Type 0
IsGraphStillOn P a b g s = (p : ℕ) (t : TaskSpec) (q : Queue) → slice_get g.tasks p ≡ Some t → slice_get s.queues p ≡ Some q → IsStillOn P a b g.spec.dag_id t p q

-- there is one patch for a graph, or none; and so it is in each
pub record ArePatchesOn (P : ℕ → Bool) (a b : Schedule) (ss : List ShelfValue) (ps : List Patch) : Type 0 where
  pub once : (k l : ℕ) (x y : Patch) → slice_get ps k ≡ Some x → slice_get ps l ≡ Some y → x.graph ≡ y.graph → k ≡ l
  pub each : (k : ℕ) (x : Patch) (g : LoadedGraph) (s : ShelfValue) → slice_get ps k ≡ Some x → slice_get b.graphs x.graph ≡ Some g → slice_get ss x.graph ≡ Some s → IsTableOn P a b g.dag s x.queues.items
  pub rest : (n : ℕ) (g : LoadedGraph) (s : ShelfValue) → AreOfOthers n ps → slice_get b.graphs n ≡ Some g → slice_get ss n ≡ Some s → IsGraphStillOn P a b g.dag s

-- these runs, and the one at the position
abbrev pub and_run : (ℕ → Bool) → ℕ → ℕ → Bool
and_run P j n = P n || n == j

-- the run was there with this key
abbrev pub IsBefore : Schedule → Run → Option Run → Type 0
IsBefore a r before = (q : Run) → before ≡ Some q → (k : ℕ) × ((slice_get a.runs k ≡ Some q) × (is_at r.graph r.logical q ≡ true))

-- the shelves hold what is due in the earlier of two schedules
pub record AreShelvesBefore (a b : Schedule) (ss : List ShelfValue) : Type 0 where
  pub shelves : AreShelvesOf a.now a.graphs a.runs ss
  pub later : IsLater a b

-- the patches hold what is due in the run at the position too, if they hold what is due in these
abbrev pub TakesIn : Schedule → List ShelfValue → ℕ → Run → Option Run → List Patch → List Patch → Type 0
TakesIn b ss j r before old new = (P : ℕ → Bool) (a : Schedule) → AreShelvesBefore a b ss → IsBefore a r before → ArePatchesOn P a b ss old → ArePatchesOn (and_run P j) a b ss new
