-- The calendar of moments: days, counted from 1970-01-01, and their dates.
use Rattle.std.specs.Prelude.{◌≡◌, ℕ, zero, suc, ◌+◌, ◌/◌, ◌%◌, ◌≤◌, nat_lt, if◌then◌else◌, pos}
use Rattle.jiff_core.specs.Calendar.{days_in_month}
use Rattle.moment_core.specs.declared.calendar.Civil.{Civil}
use Rattle.moment_core.specs.declared.calendar.Date.{Date}

-- the date after a date, by the lengths of the months of the Gregorian calendar
-- restates: ISO 8601
abbrev pub next_date : Date → Date
next_date d =
    if nat_lt d.day (days_in_month (pos d.year) d.month) then record { year = d.year; month = d.month; day = d.day + 1 }
    else (if nat_lt d.month 12 then record { year = d.year; month = d.month + 1; day = 1 }
    else record { year = d.year + 1; month = 1; day = 1 })

-- the date of a day: day 0 is 1970-01-01, and each day has the date after that of the day before
-- restates: ISO 8601
unfoldable pub date_of : ℕ → Date
date_of zero = record { year = 1970; month = 1; day = 1 }
date_of (suc n) = next_date (date_of n)

-- the day of a moment
-- restates: POSIX seconds since the epoch
abbrev pub day_of : ℕ → ℕ
day_of m = m / 86400

-- the hour of a moment
-- restates: POSIX seconds since the epoch
abbrev pub hour_of : ℕ → ℕ
hour_of m = m % 86400 / 3600

-- the minute of a moment
-- restates: POSIX seconds since the epoch
abbrev pub minute_of : ℕ → ℕ
minute_of m = m % 3600 / 60

-- the day of the week of a day, Sunday 0: day 0 was a Thursday
-- restates: crontab(5)
abbrev pub weekday_of : ℕ → ℕ
weekday_of n = (n + 4) % 7

-- the fields of a moment
abbrev pub civil_of : ℕ → Civil
civil_of m = record {
  minute = minute_of m;
  hour = hour_of m;
  day = (date_of (day_of m)).day;
  month = (date_of (day_of m)).month;
  weekday = weekday_of (day_of m);
  epoch_day = day_of m;
}

-- two dates of one month of one year
pub record IsSameMonth (a b : Date) : Type 0 where
  pub year : a.year ≡ b.year
  pub month : a.month ≡ b.month

-- the first day of the month of day n: all days from it to n lie in that month, and it is a first
pub record IsMonthStart (n first : ℕ) : Type 0 where
  pub before : first ≤ n
  pub within : (k : ℕ) → first ≤ k → k ≤ n → IsSameMonth (date_of k) (date_of n)
  pub start : (date_of first).day ≡ 1

-- the last day of the month of day n: all days from n to it lie in that month, and a first follows it
pub record IsMonthEnd (n last : ℕ) : Type 0 where
  pub after : n ≤ last
  pub within : (k : ℕ) → n ≤ k → k ≤ last → IsSameMonth (date_of k) (date_of n)
  pub end : (date_of (last + 1)).day ≡ 1
