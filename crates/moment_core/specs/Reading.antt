-- What a text of a moment says.
use Rattle.std.specs.Prelude.{ℕ, ◌+◌, ◌-◌, ◌*◌, ◌%◌, ◌==◌, ◌&&◌, ◌||◌, nat_le, nat_lt, if◌then◌else◌, Bool, true, false, List, [], ◌∷◌, slice_index, codes, ℤ, pos, ◌+ℤ◌, ◌*ℤ◌, int_lt, unsigned_abs, Result, Ok, Err}
use Rattle.jiff_core.specs.Calendar.{days_from_civil, days_in_month}
use Rattle.moment_core.specs.Moments.{seconds_end}
use Rattle.moment_core.specs.declared.reading.MomentFault.{MomentFault}
use Rattle.moment_core.specs.declared.reading.MomentFault.TheVariants.{Shape, NoSuchDate, OutOfRange}

-- a `d` in a form stands for a digit, and each other byte for itself
abbrev pub byte_fits : ℕ → ℕ → Bool
byte_fits f b = if f == 100 then nat_le 48 b && nat_le b 57 else b == f

-- the text has the form
abbrev pub fits_form : List ℕ → List ℕ → Bool
fits_form [] [] = true
fits_form [] (b ∷ text) = false
fits_form (f ∷ form) [] = false
fits_form (f ∷ form) (b ∷ text) = byte_fits f b && fits_form form text

-- a date
abbrev pub is_dated : List ℕ → Bool
is_dated t = fits_form (codes "dddd-dd-dd") t

-- a date and a time
abbrev pub is_timed : List ℕ → Bool
is_timed t = fits_form (codes "dddd-dd-ddTdd:dd:ddZ") t || fits_form (codes "dddd-dd-ddTdd:dd:dd+00:00") t

-- the value of a digit; what is no digit has some value too, which no text of a form meets
abbrev pub digit : ℕ → ℕ
digit b = (b - 48) % 10

-- the number of the two digits at i
abbrev pub two_at : List ℕ → ℕ → ℕ
two_at t i = digit (slice_index t i) * 10 + digit (slice_index t (i + 1))

-- the calendar has this day
abbrev pub is_date : ℕ → ℕ → ℕ → Bool
is_date y m d = (nat_le 1 m && nat_le m 12) && (nat_le 1 d && nat_le d (days_in_month (pos y) m))

-- the clock has this time
abbrev pub is_time : ℕ → ℕ → ℕ → Bool
is_time h m s = nat_le h 23 && (nat_le m 59 && nat_le s 59)

-- the moment, if it is in range
abbrev pub ranged : ℤ → Result ℕ MomentFault
ranged z = if int_lt z (pos 0) then Err OutOfRange else (if nat_lt (unsigned_abs z) seconds_end then Ok (unsigned_abs z) else Err OutOfRange)

-- the moment of a day and a time
-- restates: ISO 8601
abbrev pub moment_at : ℕ → ℕ → ℕ → ℕ → ℕ → ℕ → Result ℕ MomentFault
moment_at year month day hour minute second =
    if is_date year month day && is_time hour minute second
    then ranged ((days_from_civil (pos year) month day *ℤ pos 86400) +ℤ pos (hour * 3600 + minute * 60 + second))
    else Err NoSuchDate

abbrev pub year_at : List ℕ → ℕ
year_at t = two_at t 0 * 100 + two_at t 2

-- the moment of a text, or the first fault: its shape, its date or time, its range
-- restates: ISO 8601
abbrev pub read_of : List ℕ → Result ℕ MomentFault
read_of t =
    if is_timed t then moment_at (year_at t) (two_at t 5) (two_at t 8) (two_at t 11) (two_at t 14) (two_at t 17)
    else (if is_dated t then moment_at (year_at t) (two_at t 5) (two_at t 8) 0 0 0 else Err Shape)
