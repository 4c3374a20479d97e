-- Stretches of time in which nothing fires, by the field that does not hold.
use Rattle.std.proofs.Common.{◌≡◌, ℕ, ◌+◌, ◌*◌, ◌/◌, ◌%◌, ◌<◌, ◌≤◌, ◌≢◌, true, false, arith, inl, inr}
use Rattle.std.proofs.lemmas.Bool.{cases_lt}
use Rattle.moment_core.specs.Calendar.{day_of, hour_of, minute_of}
use Rattle.cron_timetable.specs.Sets.{has}
use Rattle.cron_timetable.specs.Fields.{Fields, fires, date_fires}
use Rattle.cron_timetable.specs.Ticks.{NoneBetween}

-- only whole minutes fire
pub fires-off_minute : (c : Fields) (m : ℕ) → 0 < m % 60 → fires c m ≡ false
unfolding fires
fires-off_minute c m h = let off : m % 60 ≢ 0 = omega arith in grind arith

pub NoneBetween-join : (c : Fields) (a b d : ℕ) → NoneBetween c a b → NoneBetween c b d → NoneBetween c a d
NoneBetween-join c a b d low high k from below =
    elim (cases_lt k b) [ inl h ↦ low k from h | inr h ↦ high k h below ]

-- nothing fires after the first second of a minute, up to its end
pub NoneBetween-after_first : (c : Fields) (s b : ℕ) → s % 60 ≡ 0 → b ≤ s + 60 → NoneBetween c (s + 1) b
NoneBetween-after_first c s b whole within k from below = fires-off_minute c k (omega arith)

-- nor before the first second of the next
pub NoneBetween-before_first : (c : Fields) (a s : ℕ) → s % 60 ≡ 0 → s ≤ a + 59 → NoneBetween c a s
NoneBetween-before_first c a s whole within k from below = fires-off_minute c k (omega arith)

-- nothing fires where a field does not hold
fires-date : (c : Fields) (m : ℕ) → date_fires c (day_of m) ≡ false → fires c m ≡ false
unfolding fires
fires-date c m off = grind arith

fires-hour : (c : Fields) (m : ℕ) → has c.hours (hour_of m) ≡ false → fires c m ≡ false
unfolding fires
fires-hour c m off = grind arith

fires-minute : (c : Fields) (m : ℕ) → has c.minutes (minute_of m) ≡ false → fires c m ≡ false
unfolding fires
fires-minute c m off = grind arith

-- nor on the days from low up to below high, where none of them does
pub NoneBetween-days : (c : Fields) (low high s e : ℕ) → ((k : ℕ) → low ≤ k → k < high → date_fires c k ≡ false) → low * 86400 ≤ s → e ≤ high * 86400 → NoneBetween c s e
NoneBetween-days c low high s e off from to k above below = fires-date c k (off (k / 86400) (omega arith) (omega arith))

-- nor in the hours of a day
pub NoneBetween-hours : (c : Fields) (day low high s e : ℕ) → ((k : ℕ) → low ≤ k → k < high → has c.hours k ≡ false) → high ≤ 24 → day * 86400 + low * 3600 ≤ s → e ≤ day * 86400 + high * 3600 → NoneBetween c s e
NoneBetween-hours c day low high s e off within from to k above below = fires-hour c k (off (k % 86400 / 3600) (omega arith) (omega arith))

-- nor in the minutes of an hour
pub NoneBetween-minutes : (c : Fields) (hour low high s e : ℕ) → ((k : ℕ) → low ≤ k → k < high → has c.minutes k ≡ false) → high ≤ 60 → hour * 3600 + low * 60 ≤ s → e ≤ hour * 3600 + high * 60 → NoneBetween c s e
NoneBetween-minutes c hour low high s e off within from to k above below = fires-minute c k (off (k % 3600 / 60) (omega arith) (omega arith))

-- and where all hold it does
pub fires-all : (c : Fields) (m : ℕ) → m % 60 ≡ 0 → has c.minutes (m % 3600 / 60) ≡ true → has c.hours (m % 86400 / 3600) ≡ true → date_fires c (m / 86400) ≡ true → fires c m ≡ true
unfolding fires
fires-all c m whole minute hour date = grind arith
