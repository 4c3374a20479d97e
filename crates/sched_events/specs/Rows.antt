-- Task instances and pools as rows.
use Rattle.std.specs.Prelude.{ℕ, ℤ, List}
use Rattle.trigger_rules.specs.declared.states.State.{State}
use Rattle.sched_state.specs.declared.runs.RunKind.{RunKind}

-- a task instance, as it is shown: its run's graph, logical date and kind, its task, its state and how many tries it has
pub record Row : Type 0 where
  pub graph : List ℕ
  pub logical : ℕ
  pub kind : RunKind
  pub task : List ℕ
  pub state : State
  pub tries : ℕ

-- a pool, as it is shown: its name, its size, how many slots are taken of it, and how many are open, which are fewer than none where
-- more are taken than it has
-- restates: Airflow 2, 'Pools'
pub record PoolLine : Type 0 where
  pub name : List ℕ
  pub size : ℕ
  pub occupied : ℕ
  pub open_slots : ℤ
