-- Moments: whole seconds since 1970-01-01T00:00:00Z.
-- restates: this project's own profile
use Rattle.std.specs.Prelude.{ℕ}

-- the moments end before this second, 2200-01-01T00:00:00Z
abbrev pub seconds_end : ℕ
seconds_end = 7258118400

-- the days of moments, counted from 1970-01-01, end before this one
abbrev pub days_end : ℕ
days_end = 84006
