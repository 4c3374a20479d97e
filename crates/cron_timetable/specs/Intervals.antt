-- The data intervals of a timetable, as Airflow 2's page 'Timetables' has them for a cron expression: from one tick to the
-- next, start included and end excluded; a run by hand has the last one that has ended. Those of a trigger timetable are empty, as
-- of that page's `CronTriggerTimetable` without its argument `interval`: one at each tick, and of a run by hand the one at its moment.
use Rattle.std.specs.Prelude.{◌≡◌, ℕ, ◌+◌, ◌<◌, ◌≤◌, Option, None, Some, MatchOption}
use Rattle.moment_core.specs.Moments.{seconds_end}
use Rattle.cron_timetable.specs.Fields.{Fields}
use Rattle.cron_timetable.specs.Ticks.{IsTick, NoneBetween, IsLeastTickFrom}
use Rattle.cron_timetable.specs.declared.timetables.Interval.{Interval}
use Rattle.cron_timetable.specs.declared.timetables.Timetable.{Timetable}
use Rattle.cron_timetable.specs.declared.timetables.Timetable.TheVariants.{Cron, Trigger, Once, Never}

-- a pair of neighbouring ticks
pub record IsInterval (c : Fields) (a b : ℕ) : Type 0 where
  pub start : IsTick c a
  pub end : IsTick c b
  pub rising : a < b
  pub between : NoneBetween c (a + 1) b

-- the first interval whose start is at or after t: no tick stands between t and its start
pub record IsFirstIntervalFrom (c : Fields) (t : ℕ) (i : Interval) : Type 0 where
  pub interval : IsInterval c i.start i.end
  pub from : t ≤ i.start
  pub first : NoneBetween c t i.start

-- the interval whose end is the greatest tick at or before t
pub record IsLastIntervalTo (c : Fields) (t : ℕ) (i : Interval) : Type 0 where
  pub interval : IsInterval c i.start i.end
  pub to : i.end ≤ t
  pub last : NoneBetween c (i.end + 1) (t + 1)

-- the empty interval at a moment
abbrev pub empty_at : ℕ → Interval
empty_at t = record { start = t; end = t }

-- the empty interval at the first tick at or after t
pub record IsFirstTriggerFrom (c : Fields) (t : ℕ) (i : Interval) : Type 0 where
  pub tick : IsLeastTickFrom c t i.start
  pub empty : i.end ≡ i.start

-- the interval of a scheduled run from t on, or none where there is none
abbrev pub IntervalFrom : Timetable → ℕ → Option Interval → Type 0
IntervalFrom (Cron c) t r = MatchOption r ((a b : ℕ) → IsInterval c a b → t ≤ a → ⊥) (IsFirstIntervalFrom c t)
IntervalFrom (Trigger c) t r = MatchOption r (NoneBetween c t seconds_end) (IsFirstTriggerFrom c t)
IntervalFrom Once t r = r ≡ Some (empty_at t)
IntervalFrom Never t r = r ≡ None

-- the interval of a run by hand at t, or none where there is none
-- of a cron expression the one whose end is the greatest tick at or before t, and else the empty one at t
abbrev pub ManualInterval : Timetable → ℕ → Option Interval → Type 0
ManualInterval (Cron c) t r = MatchOption r ((a b : ℕ) → IsInterval c a b → b ≤ t → ⊥) (IsLastIntervalTo c t)
ManualInterval (Trigger c) t r = r ≡ Some (empty_at t)
ManualInterval Once t r = r ≡ Some (empty_at t)
ManualInterval Never t r = r ≡ Some (empty_at t)
