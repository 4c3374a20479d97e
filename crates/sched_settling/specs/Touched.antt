-- Runs that are kept, changed or added.
use Rattle.std.specs.Prelude.{◌≡◌, ℕ, zero, suc, ◌+◌, ◌-◌, ◌&&◌, ◌||◌, Bool, true, false, cond, List, [], ◌∷◌, ◌++◌, length, map, filter, find, count_by, Option, Some, None, option_and_then, slice_get}
use Rattle.std.specs.Option.{option_to_list}
use Rattle.dag_check.specs.Orders.{is_in}
use Rattle.sched_state.specs.Lists.{same}
use Rattle.sched_state.specs.declared.graphs.LoadedGraph.{LoadedGraph}
use Rattle.sched_state.specs.declared.runs.Run.{Run}
use Rattle.sched_model.specs.Lists.{rises}
use Rattle.sched_model.specs.Schedule.{Schedule, is_at, is_queued, is_running}
use Rattle.sched_model.specs.Settle.{move}
use Rattle.sched_laws.specs.Stages.{IsOrdered}
use Rattle.sched_draft.specs.Drafts.{SameDags}
use Rattle.sched_settling.specs.Marks.{DatesRise, HasLineOf, IsLine, has_line, id_before, ids_of, with_next, is_waiting, is_queued_at, date_at}
use Rattle.sched_settling.specs.declared.lines.GraphRuns.{GraphRuns}

pub data Mark : Type 0 where
  Kept : Mark
  Changed : Mark
  Added : Mark

-- b is a, in which the runs at the marks are changed, each under its key, and others are added
abbrev pub Over : List Mark → List Run → List Run → Type 0
Over [] [] [] = Unit {0}
Over [] [] (s ∷ b) = ⊥
Over [] (r ∷ a) b = ⊥
Over (Kept ∷ ms) [] b = ⊥
Over (Kept ∷ ms) (r ∷ a) [] = ⊥
Over (Kept ∷ ms) (r ∷ a) (s ∷ b) = (s ≡ r) × Over ms a b
Over (Changed ∷ ms) [] b = ⊥
Over (Changed ∷ ms) (r ∷ a) [] = ⊥
Over (Changed ∷ ms) (r ∷ a) (s ∷ b) = (s.graph ≡ r.graph) × ((s.logical ≡ r.logical) × Over ms a b)
Over (Added ∷ ms) a [] = ⊥
Over (Added ∷ ms) a (s ∷ b) = Over ms a b

-- whether the run at the position is changed or added
abbrev pub is_marked : List Mark → ℕ → Bool
is_marked [] n = false
is_marked (Kept ∷ ms) zero = false
is_marked (Changed ∷ ms) zero = true
is_marked (Added ∷ ms) zero = true
is_marked (m ∷ ms) (suc n) = is_marked ms n

-- the touched runs as they are now, and as they were
abbrev pub touched_of : List Mark → List Run → List Run
touched_of [] b = []
touched_of (m ∷ ms) [] = []
touched_of (Kept ∷ ms) (s ∷ b) = touched_of ms b
touched_of (Changed ∷ ms) (s ∷ b) = s ∷ touched_of ms b
touched_of (Added ∷ ms) (s ∷ b) = s ∷ touched_of ms b

abbrev pub replaced_of : List Mark → List Run → List Run
replaced_of [] a = []
replaced_of (Added ∷ ms) a = replaced_of ms a
replaced_of (Kept ∷ ms) [] = []
replaced_of (Kept ∷ ms) (r ∷ a) = replaced_of ms a
replaced_of (Changed ∷ ms) [] = []
replaced_of (Changed ∷ ms) (r ∷ a) = r ∷ replaced_of ms a

abbrev pub is_active : List ℕ → Run → Bool
is_active id r = same r.graph id && is_running r.phase

-- the dates of the queued runs of the graph
abbrev pub dates_queued : List ℕ → List Run → List ℕ
dates_queued id rs = map (λ (r : Run). r.logical) (filter (λ (r : Run). same r.graph id && is_queued r.phase) rs)

-- m is l after the touch: it counts what is touched anew, has all its dates, and those of touched queued runs
pub record IsCarried (a b : Schedule) (ms : List Mark) (id : List ℕ) (l m : GraphRuns) : Type 0 where
  pub active : m.active + count_by (is_active id) (replaced_of ms a.runs) ≡ l.active + count_by (is_active id) (touched_of ms b.runs)
  pub rise : DatesRise m
  pub kept : (d : ℕ) → is_waiting l d ≡ true → is_waiting m d ≡ true
  pub touched : (n : ℕ) → is_marked ms n ≡ true → is_queued_at b id n ≡ true → is_in m.touched.items (date_at b n) ≡ true

-- the position is marked, or that before it is
abbrev pub is_near : (ℕ → Bool) → ℕ → Bool
is_near marked zero = marked zero
is_near marked (suc n) = marked (suc n) || marked n

-- the positions and those that follow them, of n runs
abbrev pub near_marks : ℕ → List ℕ → List ℕ
near_marks n [] = []
near_marks n (p ∷ ps) = p ∷ with_next n (p + 1) (near_marks n ps)

-- ---- touched runs by position
abbrev pub positions_of : List Mark → List ℕ
positions_of [] = []
positions_of (Kept ∷ ms) = map suc (positions_of ms)
positions_of (Changed ∷ ms) = 0 ∷ map suc (positions_of ms)
positions_of (Added ∷ ms) = 0 ∷ map suc (positions_of ms)

-- the runs at the positions, and those of a with their keys
abbrev pub runs_at : List Run → List ℕ → List Run
runs_at b [] = []
runs_at b (p ∷ ps) = option_to_list (slice_get b p) ++ runs_at b ps

abbrev pub with_key : List Run → Run → Option Run
with_key a s = find (is_at s.graph s.logical) a

abbrev pub bases_at : List Run → List Run → List ℕ → List Run
bases_at a b [] = []
bases_at a b (p ∷ ps) = option_to_list (option_and_then (with_key a) (slice_get b p)) ++ bases_at a b ps

-- ---- lines, with the touched runs counted anew
-- m is l with the run counted in
pub record IsCountedIn (id : List ℕ) (rs : List Run) (l m : GraphRuns) : Type 0 where
  pub active : m.active ≡ l.active + count_by (is_active id) rs
  pub runs : m.runs ≡ l.runs
  pub kept : m.kept ≡ l.kept
  pub from : m.from ≡ l.from
  pub touched : m.touched.items ≡ l.touched.items ++ dates_queued id rs

-- of each line, by the id of its graph
abbrev pub EachLine : (List ℕ → GraphRuns → GraphRuns → Type 0) → List GraphRuns → List GraphRuns → Type 0
EachLine P ls ms = (ids_of ms ≡ ids_of ls) × ((n : ℕ) (m : GraphRuns) → slice_get ms n ≡ Some m → (l : GraphRuns) × ((slice_get ls n ≡ Some l) × ((m.id.now ≡ l.id.now) × P l.id.now l m)))

-- m is l with so many runs of the graph counted off
pub record IsCountedOff (id : List ℕ) (rs : List Run) (l m : GraphRuns) : Type 0 where
  pub active : m.active ≡ l.active - count_by (is_active id) rs
  pub runs : m.runs ≡ l.runs
  pub kept : m.kept ≡ l.kept
  pub from : m.from ≡ l.from
  pub touched : m.touched.items ≡ l.touched.items

-- m is l with this run counted in, which is of its graph
pub record IsRunCounted (r : Run) (l m : GraphRuns) : Type 0 where
  pub id : m.id.now ≡ l.id.now
  pub active : m.active ≡ l.active + cond (is_running r.phase) 1 0
  pub runs : m.runs ≡ l.runs
  pub kept : m.kept ≡ l.kept
  pub from : m.from ≡ l.from
  pub touched : m.touched.items ≡ l.touched.items ++ cond (is_queued r.phase) (r.logical ∷ []) []

-- the schedule with other runs
abbrev pub over_runs : Schedule → List Run → Schedule
over_runs b rs = record b { runs = rs }

-- they are lines of this schedule, and have no dates of touched runs
abbrev pub AreFresh : Schedule → List GraphRuns → Type 0
AreFresh a ls = (n : ℕ) (l : GraphRuns) → slice_get ls n ≡ Some l → IsLine a l.id.now l × (l.touched.items ≡ [])

-- ms are ls with a line of the graph, in their order, where there was none: one of these runs alone
pub record IsLineAdded (rs : List Run) (id : List ℕ) (ls ms : List GraphRuns) : Type 0 where
  pub rising : rises id_before (ids_of ms) ≡ true
  pub has : (i : List ℕ) → has_line ms i ≡ (same id i || has_line ls i)
  pub fresh : (a : Schedule) → rs ≡ a.runs → AreFresh a ls → AreFresh a ms

-- the same of a graph of the schedule: what there was stays, and then there is a line of it, if it is one of the schedule's
pub record IsLineOffered (a : Schedule) (rs : List Run) (id : List ℕ) (ls ms : List GraphRuns) : Type 0 where
  pub rising : rises id_before (ids_of ms) ≡ true
  pub fresh : AreFresh (over_runs a rs) ls → AreFresh (over_runs a rs) ms
  pub kept : (i : List ℕ) → has_line ls i ≡ true → has_line ms i ≡ true
  pub there : HasLineOf a id ms

-- there is a line of each graph
abbrev pub HaveLinesOfAll : List LoadedGraph → List GraphRuns → Type 0
HaveLinesOfAll gs ls = (n : ℕ) (g : LoadedGraph) → slice_get gs n ≡ Some g → has_line ls g.dag.spec.dag_id ≡ true

-- and of each run's graph, where that is a graph of the schedule
abbrev pub HaveLinesOf : Schedule → List Run → List GraphRuns → Type 0
HaveLinesOf a rs ls = (n : ℕ) (r : Run) → slice_get rs n ≡ Some r → HasLineOf a r.graph ls

-- ms are lines of the schedule, of the graphs that ls are of
pub record AreRecounted (a : Schedule) (ls ms : List GraphRuns) : Type 0 where
  pub ids : ids_of ms ≡ ids_of ls
  pub each : (n : ℕ) (m : GraphRuns) → slice_get ms n ≡ Some m → IsLine a m.id.now m

-- the schedule is one in which no move is possible, in which the runs at the positions are changed, each under its key, and others are added there
pub record IsTouched (rs : List Run) (ps : List ℕ) (b : Schedule) : Type 0 where
  pub base : Schedule
  pub marks : List Mark
  pub runs : base.runs ≡ rs
  pub still : move base ≡ None
  pub ordered : IsOrdered base
  pub positions : ps ≡ positions_of marks
  pub over : Over marks rs b.runs
  pub dags : SameDags base b
