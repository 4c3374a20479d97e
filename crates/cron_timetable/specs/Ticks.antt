-- The ticks of a cron expression, and which of them a search finds.
use Rattle.std.specs.Prelude.{◌≡◌, ℕ, ◌+◌, ◌<◌, ◌≤◌, true, false, Option, MatchOption}
use Rattle.moment_core.specs.Moments.{seconds_end}
use Rattle.cron_timetable.specs.Fields.{Fields, fires}

-- the ticks are the moments that fire
-- restates: Airflow 2, 'Timetables'
abbrev pub IsTick : Fields → ℕ → Type 0
IsTick c m = (m < seconds_end) × (fires c m ≡ true)

-- nothing fires from `low` up to below `high`
abbrev pub NoneBetween : Fields → ℕ → ℕ → Type 0
NoneBetween c low high = (k : ℕ) → low ≤ k → k < high → fires c k ≡ false

-- the least tick at or after t
pub record IsLeastTickFrom (c : Fields) (t m : ℕ) : Type 0 where
  pub from : t ≤ m
  pub tick : IsTick c m
  pub least : NoneBetween c t m

-- the greatest tick below t
pub record IsGreatestTickBelow (c : Fields) (t m : ℕ) : Type 0 where
  pub below : m < t
  pub tick : IsTick c m
  pub greatest : NoneBetween c (m + 1) t

-- the least tick at or after t, or none where there is none
abbrev pub IsNextTick : Fields → ℕ → Option ℕ → Type 0
IsNextTick c t r = MatchOption r (NoneBetween c t seconds_end) (IsLeastTickFrom c t)

-- the greatest tick below t, or none where there is none
abbrev pub IsLastTick : Fields → ℕ → Option ℕ → Type 0
IsLastTick c t r = MatchOption r (NoneBetween c 0 t) (IsGreatestTickBelow c t)
