-- How the intervals of a timetable are walked, the oldest first, and which of its starts a walk has passed.
use Rattle.std.specs.Prelude.{◌≡◌, ℕ, ◌+◌, ◌-◌, ◌<◌, ◌≤◌, true, List, [], Option, Some, None, MatchOption}
use Rattle.moment_core.specs.Moments.{seconds_end}
use Rattle.cron_timetable.specs.Fields.{Fields, fires}
use Rattle.cron_timetable.specs.declared.timetables.Interval.{Interval}
use Rattle.cron_timetable.specs.declared.timetables.Timetable.{Timetable}
use Rattle.cron_timetable.specs.declared.timetables.Timetable.TheVariants.{Cron, Trigger, Once, Never}
use Rattle.run_planner.specs.Index.{has_date}
use Rattle.run_planner.specs.Due.{due_intervals}

-- the due intervals that start from a moment on; from none on there are none
abbrev pub due_from : Timetable → Option ℕ → Option ℕ → ℕ → List Interval
due_from x None last t = []
due_from x (Some first) last t = due_intervals x first last t

-- how many moments are left from there on
abbrev pub left_from : Option ℕ → ℕ
left_from None = 0
left_from (Some first) = seconds_end - first

-- from where on the interval after this one may start: its end; of a trigger timetable, whose intervals are empty, the second after
-- it; and none follows the one interval of `@once`
abbrev pub IsNextStart : Timetable → Interval → Option ℕ → Type 0
IsNextStart (Cron c) i r = r ≡ Some i.end
IsNextStart (Trigger c) i r = MatchOption r (seconds_end ≤ i.start + 1) (λ m. m ≡ i.start + 1)
IsNextStart Once i r = r ≡ None
IsNextStart Never i r = r ≡ None

-- each tick from `start` to below `cursor` is one of the dates
pub record HasPassedTicks (dates : List ℕ) (c : Fields) (start cursor : ℕ) : Type 0 where
  pub from : start ≤ cursor
  pub dated : (a : ℕ) → start ≤ a → a < cursor → fires c a ≡ true → has_date dates a ≡ true

-- no start of the timetable from `start` to below `cursor` is without a run. Of `@once` and `None` nothing is passed
abbrev pub HasPassed : List ℕ → Timetable → ℕ → ℕ → Type 0
HasPassed dates (Cron c) start cursor = HasPassedTicks dates c start cursor
HasPassed dates (Trigger c) start cursor = HasPassedTicks dates c start cursor
HasPassed dates Once start cursor = cursor ≡ start
HasPassed dates Never start cursor = cursor ≡ start
