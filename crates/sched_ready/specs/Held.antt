-- Shelves that hold what is due in a schedule.
use Rattle.std.specs.Prelude.{◌≡◌, ℕ, ◌<◌, ◌≤◌, true, List, length, Some, slice_get, slice_index}
use Rattle.graph_file.specs.declared.task_specs.TaskSpec.{TaskSpec}
use Rattle.dag_check.specs.Graphs.{Dag}
use Rattle.priority_weights.specs.Weights.{effective_weight}
use Rattle.sched_model.specs.Schedule.{Schedule}
use Rattle.sched_model.specs.sched_state.Lists.{same}
use Rattle.sched_model.specs.sched_state.declared.graphs.LoadedGraph.{LoadedGraph}
use Rattle.sched_model.specs.sched_state.declared.runs.Run.{Run}
use Rattle.sched_ready.specs.Due.{due_at, is_kept}
use Rattle.sched_ready.specs.Shelves.{ShelfValue}
use Rattle.sched_ready.specs.declared.queues.Queue.{Queue}

-- the effective weights of a graph's tasks, by place
pub record WeighTasks (g : Dag) (weights : List ℕ) : Type 0 where
  pub long : length weights ≡ length g.tasks
  pub each : (k : ℕ) → k < length g.tasks → slice_index weights k ≡ effective_weight g k

-- the task at the place is of the pool and the slots of the sample of its kind
pub record HasKind (g : Dag) (s : ShelfValue) (p : ℕ) (t : TaskSpec) : Type 0 where
  pub kind : ℕ
  pub place : ℕ
  pub sample : TaskSpec
  pub kind_is : slice_get s.kinds p ≡ Some kind
  pub place_is : slice_get s.samples kind ≡ Some place
  pub sample_is : slice_get g.tasks place ≡ Some sample
  pub pool : sample.pool ≡ t.pool
  pub slots : sample.pool_slots ≡ t.pool_slots

-- the shelf has the graph's weights, a queue for each of its tasks, and its kinds
pub record FitsShelf (g : Dag) (s : ShelfValue) : Type 0 where
  pub weights : WeighTasks g s.weights
  pub long : length s.queues ≡ length g.tasks
  pub kinds : (p : ℕ) (t : TaskSpec) → slice_get g.tasks p ≡ Some t → HasKind g s p t
  pub samples : (k p : ℕ) → slice_get s.samples k ≡ Some p → p < length g.tasks

-- what is due of the graph at the place, in its running runs, is kept in the queue
abbrev pub HoldsPlace : ℕ → List Run → List ℕ → TaskSpec → ℕ → Queue → Type 0
HoldsPlace now rs id t p q =
    (n m : ℕ) (r : Run) → slice_get rs n ≡ Some r → same r.graph id ≡ true → due_at r t p ≡ Some m → is_kept now q r.logical m ≡ true

-- each graph has a shelf that fits it, at its position
pub record FitShelves (gs : List LoadedGraph) (ss : List ShelfValue) : Type 0 where
  pub long : length ss ≡ length gs
  pub fits : (n : ℕ) (g : LoadedGraph) (s : ShelfValue) → slice_get gs n ≡ Some g → slice_get ss n ≡ Some s → FitsShelf g.dag s

-- the shelves of the graphs, by position: what is due in the runs is kept in them
pub record AreShelvesOf (now : ℕ) (gs : List LoadedGraph) (rs : List Run) (ss : List ShelfValue) : Type 0 where
  pub fit : FitShelves gs ss
  pub held : (n p : ℕ) (g : LoadedGraph) (s : ShelfValue) (t : TaskSpec) (q : Queue) → slice_get gs n ≡ Some g → slice_get ss n ≡ Some s → slice_get g.dag.tasks p ≡ Some t → slice_get s.queues p ≡ Some q
      → HoldsPlace now rs g.dag.spec.dag_id t p q

-- the clock of b is not before that of a, and its graphs are those of a but for pauses, by position
pub record IsLater (a b : Schedule) : Type 0 where
  pub clock : a.now ≤ b.now
  pub long : length b.graphs ≡ length a.graphs
  pub graphs : (n : ℕ) (g h : LoadedGraph) → slice_get a.graphs n ≡ Some g → slice_get b.graphs n ≡ Some h → h.dag ≡ g.dag
