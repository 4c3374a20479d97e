-- Deciding by position: a run's position in the list, and a place in it.
use Rattle.dag_check.specs.Graphs.{ups}
use Rattle.sched_model.specs.States.{is_earlier}
use Rattle.std.specs.Prelude.{◌≡◌, ℕ, ◌+◌, ◌<◌, ◌⊎◌, zero, suc, Bool, true, false, not, ◌&&◌, ◌||◌, cond, List, [], ◌∷◌, length, Option, Some, None, option_map, option_and_then, slice_get, nat_eq}
use Rattle.sched_model.specs.sched_state.Lists.{first_change, repeat}
use Rattle.sched_model.specs.Lists.{at}
use Rattle.dag_check.specs.Orders.{is_in}
use Rattle.graph_file.specs.declared.task_specs.TaskSpec.{TaskSpec}
use Rattle.sched_model.specs.instance_machine.Instances.{InstanceValue}
use Rattle.sched_model.specs.Schedule.{Schedule, tasks_of, is_running, dag_named}
use Rattle.sched_model.specs.sched_state.declared.runs.Run.{Run}
use Rattle.sched_model.specs.Settle.{decide_instance, decide_run, moves_left, with_runs}
use Rattle.sched_model.specs.Handout.{in_instance}

-- the first decision alone, and decisions until none is possible
abbrev pub decide_one : Schedule → Option Schedule
decide_one a = option_map (with_runs a) (first_change (decide_run a) a.runs)

abbrev pub decide_all : Schedule → Schedule
decide_all a = repeat (moves_left a) decide_one a

abbrev pub decision_in : Schedule → ℕ → Run → Option InstanceValue
decision_in a p r = elim (is_running r.phase) [
  | true ↦ option_and_then (decide_instance a r p) (slice_get r.instances p)
  | false ↦ None
]

-- what the instance at the position would be decided to
abbrev pub decision : Schedule → ℕ → ℕ → Option InstanceValue
decision a n p = option_and_then (decision_in a p) (slice_get a.runs n)

-- the instance at the position is changed
abbrev pub change_at : (InstanceValue → InstanceValue) → ℕ → ℕ → Schedule → Schedule
change_at g n p a = record a { runs = at (in_instance g p) n a.runs }

abbrev pub put : InstanceValue → ℕ → ℕ → Schedule → Schedule
put j n p a = change_at (λ i. j) n p a

-- the instance at the position is decided, where it can be
abbrev pub decide_at : ℕ → ℕ → Schedule → Schedule
decide_at n p a = elim (decision a n p) [ Some j ↦ put j n p a | None ↦ a ]

-- ---- which decisions look at which instances

-- the position of the last element that passes
abbrev pub last_place : {X : Type 0} → (X → Bool) → ℕ → List X → Option ℕ
last_place test i [] = None
last_place test i (x ∷ xs) = elim (last_place test (i + 1) xs) [ Some k ↦ Some k | None ↦ cond (test x) (Some i) None ]

-- the position of the run before r in its graph
abbrev pub previous_at : Schedule → Run → Option ℕ
previous_at a r = last_place (is_earlier r) 0 a.runs

abbrev pub is_place : ℕ → Option ℕ → Bool
is_place n None = false
is_place n (Some k) = nat_eq k n

abbrev pub looks_from : Schedule → ℕ → ℕ → ℕ → ℕ → Run → Option TaskSpec → Bool
looks_from a m q n p r None = false
looks_from a m q n p r (Some t) =
    (nat_eq m n && is_in (ups (dag_named a r.graph) q) p) || (t.depends_on_past && (nat_eq q p && is_place n (previous_at a r)))

abbrev pub looks_in : Schedule → ℕ → ℕ → ℕ → ℕ → Option Run → Bool
looks_in a m q n p None = false
looks_in a m q n p (Some r) = looks_from a m q n p r (slice_get (tasks_of a r) q)

-- the decision at run m and place q looks at the state at run n and place p: it is an upstream's in the same run, or the
-- same task's in the run before, where the task depends on its past
abbrev pub looks : Schedule → ℕ → ℕ → ℕ → ℕ → Bool
looks a m q n p = looks_in a m q n p (slice_get a.runs m)

-- run m and place q stand before run n and place p
abbrev pub Before : ℕ → ℕ → ℕ → ℕ → Type 0
Before m q n p = (m < n) ⊎ ((m ≡ n) × (q < p))

-- no decision is possible before run n and place p
abbrev pub IsClean : ℕ → ℕ → Schedule → Type 0
IsClean n p a = (m q : ℕ) → Before m q n p → decision a m q ≡ None

-- each position at which a decision is possible is dirty
abbrev pub Covers : (ℕ → ℕ → Bool) → Schedule → Type 0
Covers dirty a = (m q : ℕ) (j : InstanceValue) → decision a m q ≡ Some j → dirty m q ≡ true

-- no position before run n and place p is dirty
abbrev pub NoneBefore : (ℕ → ℕ → Bool) → ℕ → ℕ → Type 0
NoneBefore dirty n p = (m q : ℕ) → Before m q n p → dirty m q ≡ false

abbrev pub is_position : ℕ → ℕ → ℕ → ℕ → Bool
is_position n p m q = nat_eq m n && nat_eq q p

-- the dirty positions, without this one
abbrev pub without : ℕ → ℕ → (ℕ → ℕ → Bool) → ℕ → ℕ → Bool
without n p dirty m q = dirty m q && not (is_position n p m q)

-- the dirty positions, without this one and with those that look at it
abbrev pub marked : Schedule → ℕ → ℕ → (ℕ → ℕ → Bool) → ℕ → ℕ → Bool
marked a n p dirty m q = without n p dirty m q || looks a m q n p

-- the dirty positions, with this one and those that look at it
abbrev pub touched : Schedule → ℕ → ℕ → (ℕ → ℕ → Bool) → ℕ → ℕ → Bool
touched a n p dirty m q = dirty m q || (is_position n p m q || looks a m q n p)

-- ---- one sweep

-- k places of run n from place p on are decided, each where it can be
abbrev pub sweep_places : ℕ → ℕ → ℕ → Schedule → Schedule
sweep_places zero n p a = a
sweep_places (suc k) n p a = sweep_places k n (p + 1) (decide_at n p a)

abbrev pub sweep_runs : List Run → ℕ → Schedule → Schedule
sweep_runs [] n a = a
sweep_runs (r ∷ rs) n a = sweep_runs rs (n + 1) (sweep_places (length r.instances) n 0 a)

-- each position is visited once, from left to right
abbrev pub sweep : Schedule → Schedule
sweep a = sweep_runs a.runs 0 a
