-- A schedule that is being made over one that is there.
use Rattle.std.specs.Prelude.{◌≡◌, ℕ, List, true, Some, slice_get}
use Rattle.dag_check.specs.Orders.{is_in}
use Rattle.sched_state.specs.declared.graphs.LoadedGraph.{LoadedGraph}
use Rattle.sched_state.specs.declared.runs.Run.{Run}
use Rattle.run_lists.specs.sched_model.Schedule.{Schedule, dag_among}

-- the schedule that is there, the one that is made of it, and the positions of the runs that were changed or added, which may be changed
pub record DraftValue : Type 0 where
  pub base : Schedule
  pub content : Schedule
  pub touched : List ℕ

-- the run at the position may be changed
abbrev pub IsOwn : ℕ → DraftValue → Type 0
IsOwn n d = is_in d.touched n ≡ true

-- the tasks and edges of each run's graph are the same among both
abbrev pub HaveSameDags : List LoadedGraph → List LoadedGraph → List Run → Type 0
HaveSameDags gs hs rs = (n : ℕ) (r : Run) → slice_get rs n ≡ Some r → dag_among hs r.graph ≡ dag_among gs r.graph

-- and in both schedules, of each run of the second
abbrev pub SameDags : Schedule → Schedule → Type 0
SameDags a b = HaveSameDags a.graphs b.graphs b.runs
