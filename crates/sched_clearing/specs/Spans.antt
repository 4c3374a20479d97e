-- Where the runs of a graph stand.
use Rattle.std.specs.Prelude.{◌≡◌, ℕ, ◌≤◌, ◌&&◌, List, length, Some, slice_get, nat_le, nat_lt}
use Rattle.sched_state.specs.Lists.{same}
use Rattle.sched_state.specs.declared.runs.Run.{Run}

-- the runs of the graph stand from one position on and before another, and no others do
pub record AreRunsOf (id : List ℕ) (rs : List Run) (low high : ℕ) : Type 0 where
  pub within : high ≤ length rs
  pub inside : (n : ℕ) (r : Run) → slice_get rs n ≡ Some r → same r.graph id ≡ (nat_le low n && nat_lt n high)
