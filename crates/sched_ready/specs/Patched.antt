-- Patches of shelves.
use Rattle.std.specs.Prelude.{◌≡◌, ℕ, ◌==◌, Bool, true, false, ◌&&◌, ◌||◌, List, [], ◌∷◌, Option, None, Some, is_some, nat_le, slice_get, slice_set, unwrap_or}
use Rattle.graph_file.specs.declared.task_specs.TaskSpec.{TaskSpec}
use Rattle.sched_model.specs.Lists.{at}
use Rattle.sched_model.specs.Schedule.{Schedule, is_at}
use Rattle.sched_model.specs.sched_state.Lists.{same}
use Rattle.sched_model.specs.sched_state.declared.graphs.LoadedGraph.{LoadedGraph}
use Rattle.sched_model.specs.sched_state.declared.runs.Run.{Run}
use Rattle.sched_ready.specs.Due.{due_at}
use Rattle.sched_ready.specs.Held.{HoldsPlace}
use Rattle.sched_ready.specs.Shelves.{ShelfValue}
use Rattle.sched_ready.specs.declared.patches.Patch.{Patch}
use Rattle.sched_ready.specs.declared.queues.Queue.{Queue}

-- the queues, by place, and those that are put in the place of some of them
abbrev pub put_queues : List (Option Queue) → List Queue → List Queue
put_queues [] qs = qs
put_queues (o ∷ os) [] = []
put_queues (o ∷ os) (q ∷ qs) = unwrap_or o q ∷ put_queues os qs

-- one of them is put at a place
abbrev pub put_at : ℕ → Option Queue → List Queue → List Queue
put_at p None qs = qs
put_at p (Some q) qs = slice_set qs p q

abbrev pub with_queues : List (Option Queue) → ShelfValue → ShelfValue
with_queues os s = record s { queues = put_queues os s.queues }

-- the shelves with the queues of the patches, one patch after another
abbrev pub patched : List Patch → List ShelfValue → List ShelfValue
patched [] ss = ss
patched (x ∷ ps) ss = patched ps (at (with_queues x.queues.items) x.graph ss)

-- there is a queue
abbrev pub is_put : Option (Option Queue) → Bool
is_put None = false
is_put (Some o) = is_some o

-- a patch has a queue for the place of the graph at the position
abbrev pub is_patched : ℕ → ℕ → List Patch → Bool
is_patched n p [] = false
is_patched n p (x ∷ ps) = (x.graph == n && is_put (slice_get x.queues.items p)) || is_patched n p ps

-- in a run of a with this key the instance at the place was due at the moment
pub record WasDue (a : Schedule) (id : List ℕ) (date : ℕ) (t : TaskSpec) (p m : ℕ) : Type 0 where
  pub position : ℕ
  pub run : Run
  pub run_is : slice_get a.runs position ≡ Some run
  pub key : is_at id date run ≡ true
  pub due : due_at run t p ≡ Some m

-- a queue that is put holds all that is due at its place in b; at each other place what is due in b was due in a, on the same side of the clock
pub record ArePatches (a b : Schedule) (ps : List Patch) : Type 0 where
  pub each : (k p : ℕ) (x : Patch) (g : LoadedGraph) (t : TaskSpec) (q : Queue) → slice_get ps k ≡ Some x → slice_get b.graphs x.graph ≡ Some g → slice_get g.dag.tasks p ≡ Some t → slice_get x.queues.items p ≡ Some (Some q)
      → HoldsPlace b.now b.runs g.dag.spec.dag_id t p q
  pub others : (n p j m : ℕ) (g : LoadedGraph) (t : TaskSpec) (r : Run) → slice_get b.graphs n ≡ Some g → slice_get g.dag.tasks p ≡ Some t → is_patched n p ps ≡ false
      → slice_get b.runs j ≡ Some r → same r.graph g.dag.spec.dag_id ≡ true → due_at r t p ≡ Some m
      → WasDue a r.graph r.logical t p m × (nat_le m a.now ≡ nat_le m b.now)
