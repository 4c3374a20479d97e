-- The due intervals of a timetable, one by one, and the latest of them.
use Rattle.std.specs.Prelude.{◌≡◌, ℕ, ◌≤◌, true, Option, MatchOption}
use Rattle.cron_timetable.specs.Ticks.{IsTick}
use Rattle.cron_timetable.specs.Intervals.{empty_at, IsInterval}
use Rattle.cron_timetable.specs.declared.timetables.Interval.{Interval}
use Rattle.cron_timetable.specs.declared.timetables.Timetable.{Timetable}
use Rattle.cron_timetable.specs.declared.timetables.Timetable.TheVariants.{Cron, Trigger, Once, Never}
use Rattle.run_planner.specs.Due.{is_up_to}

-- an interval of the timetable: two neighbouring ticks, the empty one at a tick, or of `@once` the empty one at the first date
-- restates: Airflow 2, 'Timetables'
abbrev pub IsIntervalOf : Timetable → ℕ → Interval → Type 0
IsIntervalOf (Cron c) first i = IsInterval c i.start i.end
IsIntervalOf (Trigger c) first i = IsTick c i.start × (i.end ≡ i.start)
IsIntervalOf Once first i = i ≡ empty_at first
IsIntervalOf Never first i = ⊥

-- an interval of the timetable that starts from `first` on and not past `last`, and has ended at t
-- restates: Airflow 2, 'Timetables'
pub record IsDue (x : Timetable) (first : ℕ) (last : Option ℕ) (t : ℕ) (i : Interval) : Type 0 where
  pub interval : IsIntervalOf x first i
  pub from : first ≤ i.start
  pub up_to : is_up_to last i.start ≡ true
  pub ended : i.end ≤ t

-- a due interval after which none starts
pub record IsLatestDue (x : Timetable) (first : ℕ) (last : Option ℕ) (t : ℕ) (i : Interval) : Type 0 where
  pub due : IsDue x first last t i
  pub latest : (j : Interval) → IsDue x first last t j → j.start ≤ i.start

-- the latest due interval, or none where there is none
abbrev pub LatestDue : Timetable → ℕ → Option ℕ → ℕ → Option Interval → Type 0
LatestDue x first last t r = MatchOption r ((i : Interval) → IsDue x first last t i → ⊥) (IsLatestDue x first last t)
