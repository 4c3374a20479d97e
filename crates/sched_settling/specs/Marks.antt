-- Marked runs, and what is known of the runs of each graph.
use Rattle.std.specs.Prelude.{◌≡◌, ℕ, zero, suc, ◌+◌, ◌-◌, ◌<◌, ◌≤◌, ◌&&◌, ◌||◌, Bool, true, false, cond, ◌==◌, List, [], ◌∷◌, length, map, drop, Option, Some, None, option_map, unwrap_or, slice_get, nat_lt, nat_eq}
use Rattle.std.specs.List.{insert, list_all, list_any}
use Rattle.graph_file.specs.Lists.{when}
use Rattle.dag_check.specs.Graphs.{Dag}
use Rattle.dag_check.specs.Orders.{is_in}
use Rattle.instance_machine.specs.Instances.{InstanceValue}
use Rattle.sched_state.specs.Lists.{is_less, name_cmp, same}
use Rattle.sched_state.specs.declared.graphs.LoadedGraph.{LoadedGraph}
use Rattle.sched_state.specs.declared.runs.Run.{Run}
use Rattle.sched_state.specs.declared.runs.RunPhase.TheVariants as phase
use Rattle.sched_model.specs.Lists.{rises}
use Rattle.sched_model.specs.Schedule.{Schedule, graph_before, graph_named, is_queued, is_at, dag_named}
use Rattle.sched_model.specs.Settle.{finish_run, can_start}
use Rattle.sched_model.specs.States.{active_runs}
use Rattle.sched_laws.specs.Sweep.{decision}
use Rattle.sched_laws.specs.Stages.{IsOrdered, CoversEnds, CoversStarts, finish_every, phase_at}
use Rattle.sched_settling.specs.declared.lines.GraphRuns.{GraphRuns}

-- the runs stand in the order of their keys, the graphs in that of their ids, and each edge of a graph leads from a lower place to a higher one
pub record IsKeyed (a : Schedule) : Type 0 where
  pub ordered : IsOrdered a
  pub graphs : rises graph_before a.graphs ≡ true

-- ---- marks
-- each run in which a decision is possible is marked
abbrev pub CoversRuns : (ℕ → Bool) → Schedule → Type 0
CoversRuns marked a = (n p : ℕ) (j : InstanceValue) → decision a n p ≡ Some j → marked n ≡ true

-- they are positions of runs
abbrev pub are_within : ℕ → List ℕ → Bool
are_within n marks = list_all (λ m. nat_lt m n) marks

-- the positions rise, and each run that can be decided or can end is among them
pub record IsCovered (marks : List ℕ) (a : Schedule) : Type 0 where
  pub rising : rises nat_lt marks ≡ true
  pub within : are_within (length a.runs) marks ≡ true
  pub decisions : CoversRuns (is_in marks) a
  pub endings : CoversEnds (is_in marks) a

-- the marks with this one before them, unless they begin with it
abbrev pub with_first : ℕ → List ℕ → List ℕ
with_first k [] = k ∷ []
with_first k (x ∷ xs) = cond (x == k) (x ∷ xs) (k ∷ x ∷ xs)

-- the same, where it is the position of one of n runs
abbrev pub with_next : ℕ → ℕ → List ℕ → List ℕ
with_next n k marks = cond (nat_lt k n) (with_first k marks) marks

-- b is a, in which the run at the position has ended, if it can
pub record IsEndedAt (n : ℕ) (a b : Schedule) : Type 0 where
  pub same : finish_every b ≡ finish_every a
  pub keyed : IsKeyed b
  pub long : length b.runs ≡ length a.runs
  pub endings : (m : ℕ) (r q : Run) → slice_get b.runs m ≡ Some r → finish_run b r ≡ Some q → (nat_eq m n ≡ false) × ((finish_run a r ≡ Some q) × (slice_get a.runs m ≡ Some r))

-- ---- lines
-- a queued run of the graph stands at the position
abbrev pub is_queued_run : List ℕ → Option Run → Bool
is_queued_run id None = false
is_queued_run id (Some r) = same r.graph id && is_queued r.phase

abbrev pub is_queued_at : Schedule → List ℕ → ℕ → Bool
is_queued_at a id n = is_queued_run id (slice_get a.runs n)

-- the logical date of the run at the position
abbrev pub date_in : List Run → ℕ → ℕ
date_in rs n = unwrap_or (option_map (λ (r : Run). r.logical) (slice_get rs n)) 0

abbrev pub date_at : Schedule → ℕ → ℕ
date_at a n = date_in a.runs n

-- the dates of the runs at the kept positions from this place on, and those that are left
abbrev pub dates_from : GraphRuns → ℕ → List ℕ
dates_from l n = map (date_in l.runs.now.runs) (drop n l.kept.now)

abbrev pub kept_dates : GraphRuns → List ℕ
kept_dates l = dates_from l l.from

-- the date is one of those that are left
abbrev pub is_waiting : GraphRuns → ℕ → Bool
is_waiting l d = is_in (kept_dates l) d || is_in l.touched.items d

abbrev pub dates_left : GraphRuns → ℕ
dates_left l = length (drop l.from l.kept.now) + length l.touched.items

-- the kept positions that are left are those of runs, and the dates of both kinds rise
pub record DatesRise (l : GraphRuns) : Type 0 where
  pub within : are_within (length l.runs.now.runs) (drop l.from l.kept.now) ≡ true
  pub kept : rises nat_lt (kept_dates l) ≡ true
  pub touched : rises nat_lt l.touched.items ≡ true

abbrev pub comes_first : ℕ → List ℕ → Bool
comes_first d [] = true
comes_first d (x ∷ xs) = nat_lt d x

abbrev pub before_kept : List ℕ → List ℕ → Bool
before_kept ks [] = false
before_kept ks (t ∷ ts) = comes_first t ks

abbrev pub KeptComesFirst : GraphRuns → Type 0
KeptComesFirst l = before_kept (kept_dates l) l.touched.items ≡ false

pub record IsTouchedFirst (l : GraphRuns) (d : ℕ) : Type 0 where
  pub rest : List ℕ
  pub touched : l.touched.items ≡ d ∷ rest
  pub first : comes_first d (kept_dates l) ≡ true

abbrev pub NoDate : GraphRuns → Type 0
NoDate l = (d : ℕ) → is_waiting l d ≡ false

-- no date that is left comes before this one, and all others stay
pub record IsNextDate (l m : GraphRuns) (d : ℕ) : Type 0 where
  pub first : (e : ℕ) → is_waiting l e ≡ true → d ≤ e
  pub others : (e : ℕ) → nat_eq e d ≡ false → is_waiting l e ≡ true → is_waiting m e ≡ true

-- the queued runs of the graph stand at dates that are left
pub record IsQueue (a : Schedule) (id : List ℕ) (l : GraphRuns) : Type 0 where
  pub rise : DatesRise l
  pub queued : (n : ℕ) → is_queued_at a id n ≡ true → is_waiting l (date_at a n) ≡ true

-- so many runs of the graph are running, and its queued ones stand at these dates
pub record IsLine (a : Schedule) (id : List ℕ) (l : GraphRuns) : Type 0 where
  pub active : l.active ≡ active_runs a id
  pub queue : IsQueue a id l

-- ids in their order
abbrev pub id_before : List ℕ → List ℕ → Bool
id_before i j = is_less (name_cmp i j)

-- the ids of the lines' graphs
abbrev pub ids_of : List GraphRuns → List (List ℕ)
ids_of ls = map (λ (l : GraphRuns). l.id.now) ls

-- one of the lines is of the graph with this id
abbrev pub has_line : List GraphRuns → List ℕ → Bool
has_line ls id = list_any (λ (i : List ℕ). same i id) (ids_of ls)

-- lines by the ids of their graphs, one for each graph of which a run can start
pub record AreLines (ls : List GraphRuns) (a : Schedule) : Type 0 where
  pub rising : rises id_before (ids_of ls) ≡ true
  pub each : (n : ℕ) (l : GraphRuns) → slice_get ls n ≡ Some l → IsLine a l.id.now l
  pub startings : CoversStarts (has_line ls) a

-- the line of the graph with this id stands at the place
pub record IsLineAt (ls : List GraphRuns) (id : List ℕ) (n : ℕ) : Type 0 where
  pub line : GraphRuns
  pub there : slice_get ls n ≡ Some line
  pub named : line.id.now ≡ id

-- none is of that graph, and at the place one of it would stand in the order
pub record IsGapFor (ls : List GraphRuns) (id : List ℕ) (n : ℕ) : Type 0 where
  pub within : n ≤ length ls
  pub none : has_line ls id ≡ false
  pub rising : rises id_before (insert (ids_of ls) n id) ≡ true

-- there is a line of the graph with this id, where that is a graph of the schedule
abbrev pub HasLineOf : Schedule → List ℕ → List GraphRuns → Type 0
HasLineOf a id ls = (g : LoadedGraph) → graph_named a id ≡ Some g → has_line ls id ≡ true

-- the line of the graph, if it is there, counts one running run fewer
abbrev pub one_fewer : GraphRuns → GraphRuns
one_fewer l = record l { active = l.active - 1 }

pub record IsCountedDown (id : List ℕ) (ls ms : List GraphRuns) : Type 0 where
  pub ids : ids_of ms ≡ ids_of ls
  pub each : (n : ℕ) (m : GraphRuns) → slice_get ms n ≡ Some m
      → (l : GraphRuns) × ((slice_get ls n ≡ Some l) × (m ≡ cond (same id l.id.now) (one_fewer l) l))

-- ---- starts
abbrev pub NoneQueued : Schedule → List ℕ → Type 0
NoneQueued a id = (n : ℕ) → is_queued_at a id n ≡ false

-- the graph's run with this date stands at the position
pub record IsRunAt (a : Schedule) (id : List ℕ) (d n : ℕ) : Type 0 where
  pub run : Run
  pub run_is : slice_get a.runs n ≡ Some run
  pub at : is_at id d run ≡ true

abbrev pub NoneQueuedOn : Schedule → List ℕ → ℕ → Type 0
NoneQueuedOn a id d = (n : ℕ) → is_queued_at a id n ≡ true → nat_eq (date_at a n) d ≡ false

pub record IsQueuedOn (a : Schedule) (id : List ℕ) (d n : ℕ) : Type 0 where
  pub queued : is_queued_at a id n ≡ true
  pub date : date_at a n ≡ d

-- the graph's first queued run stands at the position, and the others at dates that are left
pub record IsFirstQueued (a : Schedule) (id : List ℕ) (l : GraphRuns) (n : ℕ) : Type 0 where
  pub here : is_queued_at a id n ≡ true
  pub before : (k : ℕ) → k < n → is_queued_at a id k ≡ false
  pub others : (k : ℕ) → nat_eq k n ≡ false → is_queued_at a id k ≡ true → is_waiting l (date_at a k) ≡ true

-- no run of the graph before the position can start
abbrev pub NoneBefore : Schedule → List ℕ → ℕ → Type 0
NoneBefore a id n = (k : ℕ) (r : Run) → k < n → slice_get a.runs k ≡ Some r → same r.graph id ≡ true → can_start a r ≡ false

-- no run of the graph can start, and nothing has changed
pub record NoStartIn (id : List ℕ) (l : GraphRuns) (a b : Schedule) : Type 0 where
  pub none : NoneBefore a id (length a.runs)
  pub same : b ≡ a
  pub line : IsLine a id l

-- the first run of the graph that can start has started
pub record IsStartIn (id : List ℕ) (l : GraphRuns) (a b : Schedule) (n : ℕ) : Type 0 where
  pub run : Run
  pub run_is : slice_get a.runs n ≡ Some run
  pub of : same run.graph id ≡ true
  pub can : can_start a run ≡ true
  pub before : NoneBefore a id n
  pub after : b ≡ phase_at phase.Running n a
  pub line : IsLine b id l

-- the run at the position has started
pub record IsStartAt (a b : Schedule) (n : ℕ) : Type 0 where
  pub inside : n < length a.runs
  pub after : b ≡ phase_at phase.Running n a

-- ---- the run before
abbrev pub before_in : Run → Option Run → Option Run
before_in r None = None
before_in r (Some q) = when (same q.graph r.graph) q

-- what stands before the position, if it is of the same graph as r
abbrev pub before_at : List Run → ℕ → Run → Option Run
before_at rs zero r = None
before_at rs (suc k) r = before_in r (slice_get rs k)

-- the tasks and edges of the graph of the run at the position
abbrev pub dag_at : ℕ → Schedule → Option Dag
dag_at n a = option_map (λ (r : Run). dag_named a r.graph) (slice_get a.runs n)
