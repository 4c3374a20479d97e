-- The numbers of the record's columns, which may be negative.
-- restates: this project's own profile
use Rattle.std.specs.Prelude.{ℕ, ℤ, pos, negsuc, ◌-◌, Bool, true, ◌&&◌, int_le, Option, Some, None}
use Rattle.moment_core.specs.Moments.{seconds_end}

-- the number is at least the first and at most the second
abbrev pub is_between : ℕ → ℕ → ℤ → Bool
is_between low high z = int_le (pos low) z && int_le z (pos high)

-- the number is a moment
abbrev pub is_moment_column : ℤ → Bool
is_moment_column z = is_between 0 (seconds_end - 1) z

-- where there is a number, it passes
abbrev pub passes_if : (ℤ → Bool) → Option ℤ → Bool
passes_if p None = true
passes_if p (Some z) = p z

-- the number as a natural one; no rule lets a negative number through where it is read so
abbrev pub natural : ℤ → ℕ
natural (pos n) = n
natural (negsuc n) = 0
