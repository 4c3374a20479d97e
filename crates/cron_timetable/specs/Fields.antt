-- When a cron expression fires, as crontab(5) has it: at the minutes whose minute, hour and month are in the fields' sets and
-- whose day is in both day fields, or in one of them where both are restricted. There `*` alone leaves a field unrestricted; here
-- every spelling of the whole set does, and no other one.
use Rattle.std.specs.Prelude.{ℕ, ◌%◌, Bool, not, ◌==◌, ◌&&◌, ◌||◌, nat_le, if◌then◌else◌}
use Rattle.moment_core.specs.Calendar.{date_of, day_of, hour_of, minute_of, weekday_of}
use Rattle.cron_timetable.specs.Sets.{has, set_of}

-- the sets of the five fields
pub record Fields : Type 0 where
  pub minutes : ℕ
  pub hours : ℕ
  pub days : ℕ
  pub months : ℕ
  pub weekdays : ℕ

-- every day of the month
unfoldable pub every_day : ℕ
every_day = set_of (λ n. nat_le 1 n && nat_le n 31)

-- every day of the week, Sunday 0
unfoldable pub every_weekday : ℕ
every_weekday = set_of (λ n. nat_le n 6)

-- a field is restricted where its set is not the whole one
abbrev pub is_restricted : ℕ → ℕ → Bool
is_restricted whole set = not (set == whole)

-- where both day fields are restricted one of them is enough, else both must hold
unfoldable pub day_fires : Fields → ℕ → Bool
day_fires c d =
    if is_restricted every_day c.days && is_restricted every_weekday c.weekdays
    then has c.days (date_of d).day || has c.weekdays (weekday_of d)
    else has c.days (date_of d).day && has c.weekdays (weekday_of d)

-- whether a day, counted from 1970-01-01, has the month and the day fields
unfoldable pub date_fires : Fields → ℕ → Bool
date_fires c d = has c.months (date_of d).month && day_fires c d

-- whether the expression fires at a moment: at the first second of a minute that all fields name
unfoldable pub fires : Fields → ℕ → Bool
fires c m =
    (m % 60 == 0) && (has c.minutes (minute_of m) && (has c.hours (hour_of m) && date_fires c (day_of m)))
