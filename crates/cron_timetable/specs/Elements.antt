-- The elements of a cron field, as crontab(5) has them: `*`, values, names, ranges, each with or without a step. Where it is
-- silent: a step after one value goes on to the field's last one, and a range to Sunday ends at 7, so `5-0` is Friday to Sunday.
use Rattle.std.specs.Prelude.{ℕ, ◌+◌, ◌-◌, ◌*◌, ◌%◌, Bool, true, false, ◌==◌, ◌&&◌, ◌||◌, nat_le, nat_lt, if◌then◌else◌, List, [], ◌∷◌, length, fold, position, codes, Option, Some, None, option_map, Result, Ok, Err}
use Rattle.std.specs.List.{before_first, after_first, position_or_len, list_all}
use Rattle.std.specs.Str.{bytes_eq, str_eq_ignore_ascii_case}
use Rattle.cron_timetable.specs.declared.elements.Span.{Span}
use Rattle.cron_timetable.specs.declared.faults.CronFault.{CronFault}
use Rattle.cron_timetable.specs.declared.faults.CronFault.TheVariants.{BadNumber, OutOfField, BadRange, BadStep}
use Rattle.cron_timetable.specs.declared.fields.Field.{Field}
use Rattle.cron_timetable.specs.declared.fields.Field.TheVariants.{Minute, Hour, DayOfMonth, Month, DayOfWeek}

-- the first fault, else what the next step gives
abbrev pub and_then : {A B : Type 0} → Result A CronFault → (A → Result B CronFault) → Result B CronFault
and_then (Ok x) f = f x
and_then (Err e) f = Err e

abbrev pub least_value : Field → ℕ
least_value Minute = 0
least_value Hour = 0
least_value DayOfMonth = 1
least_value Month = 1
least_value DayOfWeek = 0

-- the greatest value that a text may write: 7 is Sunday too
abbrev pub greatest_written : Field → ℕ
greatest_written Minute = 59
greatest_written Hour = 23
greatest_written DayOfMonth = 31
greatest_written Month = 12
greatest_written DayOfWeek = 7

-- the greatest value in a set
abbrev pub greatest_value : Field → ℕ
greatest_value Minute = 59
greatest_value Hour = 23
greatest_value DayOfMonth = 31
greatest_value Month = 12
greatest_value DayOfWeek = 6

abbrev pub is_day_of_week : Field → Bool
is_day_of_week Minute = false
is_day_of_week Hour = false
is_day_of_week DayOfMonth = false
is_day_of_week Month = false
is_day_of_week DayOfWeek = true

-- the names of a field's values, from the least one on
abbrev pub names_of : Field → List (List ℕ)
names_of Minute = []
names_of Hour = []
names_of DayOfMonth = []
names_of Month =
    codes "JAN" ∷ codes "FEB" ∷ codes "MAR" ∷ codes "APR" ∷ codes "MAY" ∷ codes "JUN" ∷ codes "JUL" ∷ codes "AUG" ∷ codes "SEP" ∷ codes "OCT" ∷ codes "NOV" ∷ codes "DEC" ∷ []
names_of DayOfWeek =
    codes "SUN" ∷ codes "MON" ∷ codes "TUE" ∷ codes "WED" ∷ codes "THU" ∷ codes "FRI" ∷ codes "SAT" ∷ []

-- the value of a field that a text names, in any case
unfoldable pub value_named : Field → List ℕ → Option ℕ
value_named f text = option_map (λ i. least_value f + i) (position (λ name. str_eq_ignore_ascii_case name text) (names_of f))

abbrev pub is_digit : ℕ → Bool
is_digit b = nat_le 48 b && nat_le b 57

-- the number that digits write
unfoldable pub decimal : List ℕ → ℕ
decimal bs = fold (λ n b. n * 10 + (b - 48)) 0 bs

-- the number that one to `most` digits write
unfoldable pub number_of : ℕ → List ℕ → Option ℕ
number_of most bs =
    if nat_lt 0 (length bs) && nat_le (length bs) most && list_all is_digit bs then Some (decimal bs) else None

abbrev pub number_or_name : Field → Option ℕ → List ℕ → Option ℕ
number_or_name f (Some n) text = Some n
number_or_name f None text = value_named f text

abbrev pub within_field : Field → Option ℕ → Result ℕ CronFault
within_field f None = Err BadNumber
within_field f (Some n) = if nat_le (least_value f) n && nat_le n (greatest_written f) then Ok n else Err OutOfField

-- a value: one to four digits or a name, in its field's range
unfoldable pub value_of : Field → List ℕ → Result ℕ CronFault
value_of f text = within_field f (number_or_name f (number_of 4 text) text)

abbrev pub positive : Option ℕ → Result ℕ CronFault
positive None = Err BadStep
positive (Some n) = if n == 0 then Err BadStep else Ok n

-- a step: one to three digits, and not 0
unfoldable pub step_of : List ℕ → Result ℕ CronFault
step_of text = positive (number_of 3 text)

-- the bytes `-` and `/`
abbrev pub dash : ℕ
dash = 45

abbrev pub slash : ℕ
slash = 47

-- whether a byte stands in a text, and the parts before and after the first one
abbrev pub has_byte : ℕ → List ℕ → Bool
has_byte b text = nat_lt (position_or_len (λ x. x == b) text) (length text)

abbrev pub before : ℕ → List ℕ → List ℕ
before b text = before_first (λ x. x == b) text

abbrev pub after : ℕ → List ℕ → List ℕ
after b text = after_first (λ x. x == b) text

-- Sunday is 0 where a value stands alone or before a step, and 7 where a range ends
abbrev pub sunday_as_start : Field → ℕ → ℕ
sunday_as_start f n = if is_day_of_week f && n == 7 then 0 else n

abbrev pub sunday_as_end : Field → ℕ → ℕ
sunday_as_end f n = if is_day_of_week f && n == 0 then 7 else n

-- a range goes up
abbrev pub rising : ℕ → ℕ → Result (ℕ × ℕ) CronFault
rising a b = if nat_le a b then Ok (a, b) else Err BadRange

-- from one value to another
unfoldable pub range_of : Field → List ℕ → List ℕ → Result (ℕ × ℕ) CronFault
range_of f from to = and_then (value_of f from) (λ a. and_then (value_of f to) (λ b. rising a (sunday_as_end f b)))

-- one value; where a step follows, from it to the field's last one
unfoldable pub single_of : Field → Bool → List ℕ → Result (ℕ × ℕ) CronFault
single_of f steps text =
    and_then (value_of f text) (λ n. Ok (sunday_as_start f n, if steps then greatest_value f else sunday_as_start f n))

abbrev pub is_star : List ℕ → Bool
is_star text = bytes_eq text (codes "*")

-- the ends of a base: `*` is all values, a dash makes a range
unfoldable pub base_of : Field → Bool → List ℕ → Result (ℕ × ℕ) CronFault
base_of f steps text =
    if is_star text then Ok (least_value f, greatest_value f)
    else if has_byte dash text then range_of f (before dash text) (after dash text)
    else single_of f steps text

-- a base's ends and a step
abbrev pub with_step : Result (ℕ × ℕ) CronFault → Result ℕ CronFault → Result Span CronFault
with_step ends step = and_then ends (λ p. and_then step (λ s. Ok (record { first = p.0; last = p.1; step = s })))

-- an element: a base, or a base, `/` and a step
unfoldable pub element_of : Field → List ℕ → Result Span CronFault
element_of f text =
    if has_byte slash text then with_step (base_of f true (before slash text)) (step_of (after slash text))
    else with_step (base_of f false text) (Ok 1)

-- every `step`-th value from `first` to `last`
abbrev pub in_span : Span → ℕ → Bool
in_span s n = nat_le s.first n && nat_le n s.last && ((n - s.first) % s.step == 0)

-- n is in the set of an element: in the day of the week, 0 to 6, Sunday is in it as 0 or as 7
abbrev pub in_element : Field → Span → ℕ → Bool
in_element f s n =
    if is_day_of_week f
    then nat_lt n 7 && (in_span s n || (n == 0 && in_span s 7))
    else in_span s n
