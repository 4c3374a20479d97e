-- What the search for an order, and for a cycle where there is none, holds on its way.
use Rattle.std.specs.Prelude.{◌≡◌, ℕ, zero, suc, if◌then◌else◌, ◌+◌, ◌-◌, ◌<◌, ◌≤◌, Bool, false, List, length, slice_index, slice_index_or}
use Rattle.dag_check.specs.declared.orders.Stuck.{Stuck}
use Rattle.dag_check.specs.declared.orders.Stuck.TheVariants.{Cycle, Memory}
use Rattle.dag_check.specs.Orders.{IsCycle}

-- the test of marks
abbrev pub marked : List Bool → ℕ → Bool
marked marks i = slice_index_or marks i false

-- how many numbers below n fail
abbrev pub failing : (ℕ → Bool) → ℕ → ℕ
failing p zero = 0
failing p (suc n) = failing p n + (if p n then 0 else 1)

-- a walk against the edges, cut at `from`, turned round so that it goes with them and starts at `start`, its least
pub record IsTurned (walk : List ℕ) (from : ℕ) (turned : List ℕ) : Type 0 where
  pub start : ℕ
  pub above : from ≤ start
  pub inside : start < length walk
  pub least : (k : ℕ) → from ≤ k → k < length walk → slice_index walk start ≤ slice_index walk k
  pub long : length turned + from ≡ length walk
  pub before : (k : ℕ) → from + k ≤ start → slice_index turned k ≡ slice_index walk (start - k)
  pub after : (k : ℕ) → start < from + k → from + k < length walk → slice_index turned k ≡ slice_index walk (start + (length walk - from) - k)

-- what an answer without an order says
abbrev pub IsStuck : (ℕ → List ℕ) → ℕ → Stuck → Type 0
IsStuck up n (Cycle walk) = IsCycle up n walk.items
IsStuck up n Memory = Unit {0}
