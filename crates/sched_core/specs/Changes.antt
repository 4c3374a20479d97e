-- What a schedule shows, and what a planned change is.
use Rattle.std.specs.Prelude.{◌≡◌, ℕ, ◌+◌, ◌≤◌, List, length, count_by, Some, slice_get}
use Rattle.sched_state.specs.Lists.{same}
use Rattle.sched_state.specs.declared.graphs.LoadedGraph.{LoadedGraph}
use Rattle.sched_state.specs.declared.runs.Run.{Run}
use Rattle.sched_model.specs.Schedule.{Schedule}
use Rattle.sched_events.specs.declared.answers.Answer.{Answer}

-- how many graphs and runs can be added without memory, and how many runs of each graph, by its position
pub record Room : Type 0 where
  pub graphs : ℕ
  pub runs : ℕ
  pub dates : List ℕ

-- how many runs of a graph there are
abbrev pub count_of : List ℕ → List Run → ℕ
count_of id rs = count_by (λ (r : Run). same r.graph id) rs

-- a schedule in memory: what it holds, and the room for more
pub record ScheduleValue : Type 0 where
  pub content : Schedule
  pub room : Room

-- a planned change: the schedule that it was planned for, the one that it leads to, and its answer
pub record Planned : Type 0 where
  pub before : Schedule
  pub after : Schedule
  pub answer : Answer

-- there is room for what a change adds
pub record HasRoom (c : Planned) (h : ScheduleValue) : Type 0 where
  pub graphs : length c.after.graphs ≤ length c.before.graphs + h.room.graphs
  pub runs : length c.after.runs ≤ length c.before.runs + h.room.runs
  pub dates : (n : ℕ) (g : LoadedGraph) (room : ℕ) → slice_get h.content.graphs n ≡ Some g → slice_get h.room.dates n ≡ Some room
      → count_of g.dag.spec.dag_id c.after.runs ≤ count_of g.dag.spec.dag_id c.before.runs + room
