-- The text of a moment, as 2024-01-01T00:00:00+00:00.
-- restates: Airflow 2, 'DAG Runs': logical dates in run ids
use Rattle.std.specs.Prelude.{ℕ, ◌+◌, ◌/◌, ◌%◌, List, [], ◌∷◌, ◌++◌, codes}
use Rattle.moment_core.specs.Calendar.{date_of, day_of}
use Rattle.moment_core.specs.declared.calendar.Date.{Date}

-- two digits
abbrev pub two_digits_of : ℕ → List ℕ
two_digits_of n = (48 + n / 10) ∷ (48 + n % 10) ∷ []

-- `YYYY-MM-DD`
abbrev pub date_text : Date → List ℕ
date_text d =
    two_digits_of (d.year / 100) ++ (two_digits_of (d.year % 100) ++ (45 ∷ two_digits_of d.month ++ 45 ∷ two_digits_of d.day))

-- `HH:MM:SS` of a second of the day
abbrev pub clock_text : ℕ → List ℕ
clock_text s = two_digits_of (s / 3600) ++ (58 ∷ two_digits_of (s % 3600 / 60) ++ 58 ∷ two_digits_of (s % 60))

-- `YYYY-MM-DDTHH:MM:SS+00:00`
abbrev pub text_of : ℕ → List ℕ
text_of m = date_text (date_of (day_of m)) ++ (84 ∷ clock_text (m % 86400) ++ codes "+00:00")
