-- The dates of days are those of `jiff`.
use Rattle.std.proofs.Common.{◌≡◌, ℕ, zero, suc, ◌+◌, ◌<◌, ◌≤◌, nat_lt, Bool, true, false, cond, ◌≢◌, refl, sym, ap, ◌∙◌, arith, rules, ℤ, pos}
use borrow.Author.Tests.{ltb-true, ltb-false}
use Rattle.jiff_core.specs.declared.civil.date.Date.{Date}
use Rattle.jiff_core.specs.Calendar.{days_from_civil, days_in_month, IsCivilDate}
use Rattle.jiff_core.specs.Date.{epoch_day}
use Rattle.jiff_core.proofs.SignedLemmas.{signed_arith}
use Rattle.jiff_core.proofs.DateLemmas.{days_from_civil-day, days_from_civil-next_month, days_from_civil-next_year, days_from_civil-max, epoch_day_injective, epoch_day_range}
use Rattle.jiff_core.proofs.CalendarLemmas.{days_from_civil-day_count, day_count-epoch, days_in_month_bounds}
use Rattle.moment_core.specs.Calendar.{next_date, date_of}
use Rattle.moment_core.specs.declared.calendar.Date.{Date as Day}

-- the day is one of the calendar, has this number, and isn't before 1970
pub record IsDay (n : ℕ) (d : Day) : Type 0 where
  pub calendar : IsCivilDate (pos d.year) d.month d.day
  pub number : days_from_civil (pos d.year) d.month d.day ≡ pos n
  pub late : 1970 ≤ d.year

-- a fact of either choice
chosen : (b : Bool) (P : Day → Type 0) (x y : Day) → (b ≡ true → P x) → (b ≡ false → P y) → P (cond b x y)
chosen true P x y h k = h refl
chosen false P x y h k = k refl

first : IsDay 0 (record { year = 1970; month = 1; day = 1 })
first = record { calendar = search rules; number = omega (arith, signed_arith, days_from_civil-day_count, day_count-epoch); late = omega arith }

ap2 : (f : ℕ → ℕ → ℤ) {a b c d : ℕ} → a ≡ b → c ≡ d → f a c ≡ f b d
ap2 f e g = rw (e, g)

-- the next day of the month
in_month : (n : ℕ) (y m d : ℕ) → IsDay n (record { year = y; month = m; day = d }) → d < days_in_month (pos y) m → IsDay (suc n) (record { year = y; month = m; day = d + 1 })
in_month n y m d is h = record {
  calendar = (is.calendar.0, is.calendar.1, (omega arith, omega arith));
  number = omega (arith, signed_arith, is.number, days_from_civil-day (pos y) m d (d + 1) is.calendar.2.0 (omega arith));
  late = is.late;
}

-- the first of the next month
in_year : (n : ℕ) (y m d : ℕ) → IsDay n (record { year = y; month = m; day = d }) → days_in_month (pos y) m ≤ d → m < 12 → IsDay (suc n) (record { year = y; month = m + 1; day = 1 })
in_year n y m d is h k =
    let long = days_in_month_bounds (pos y) (m + 1) in
    let last : d ≡ days_in_month (pos y) m = omega (arith, is.calendar.2.1) in
    record {
      calendar = (is.calendar.0, (omega arith, omega arith), (omega arith, omega (arith, long.1)));
      number = days_from_civil-next_month (pos y) m d is.calendar.1.0 last ∙ omega (arith, signed_arith, is.number);
      late = is.late;
    }

-- the first of the next year
after_year : (n : ℕ) (y m d : ℕ) → n < 2932896 → IsDay n (record { year = y; month = m; day = d }) → days_in_month (pos y) m ≤ d → 12 ≤ m → IsDay (suc n) (record { year = y + 1; month = 1; day = 1 })
after_year n y m d small is h k =
    let december : m ≡ 12 = omega (arith, is.calendar.1.1) in
    let long : days_in_month (pos y) m ≡ 31 = ap (days_in_month (pos y)) december in
    let last : d ≡ 31 = omega (arith, is.calendar.2.1, long) in
    let number : days_from_civil (pos y) 12 31 ≡ pos n = sym (ap2 (days_from_civil (pos y)) december last) ∙ is.number in
    let bound : y ≢ 9999 = λ e. (let same : pos 2932896 ≡ pos n = sym days_from_civil-max ∙ (sym (ap (λ (z : ℕ). days_from_civil (pos z) 12 31) e) ∙ number) in omega (arith, signed_arith)) in
    record {
      calendar = ((omega (arith, signed_arith), omega (arith, signed_arith, is.calendar.0.1)), (omega arith, omega arith), (omega arith, search rules));
      number = days_from_civil-next_year (pos y) (pos (y + 1)) (omega (arith, signed_arith)) (omega (arith, signed_arith)) ∙ omega (arith, signed_arith, number);
      late = omega (arith, is.late);
    }

next : (n : ℕ) (d : Day) → n < 2932896 → IsDay n d → IsDay (suc n) (next_date d)
next n d small is =
    chosen (nat_lt d.day (days_in_month (pos d.year) d.month)) (IsDay (suc n)) _ _
    (λ h. in_month n d.year d.month d.day is (ltb-true _ _ h))
    (λ h. chosen (nat_lt d.month 12) (IsDay (suc n)) _ _
    (λ k. in_year n d.year d.month d.day is (ltb-false _ _ h) (ltb-true _ _ k))
    (λ k. after_year n d.year d.month d.day small is (ltb-false _ _ h) (ltb-false _ _ k)))

pub is_day : (n : ℕ) → n ≤ 2932896 → IsDay n (date_of n)
unfolding date_of
is_day zero h = first
is_day (suc n) h = next n (date_of n) (omega arith) (is_day n (omega arith))

-- a date of `jiff` with the number of a day is the date of that day
pub same_day : (n : ℕ) (d : Date) → epoch_day d ≡ pos n → (d.year ≡ pos (date_of n).year) × (d.month ≡ (date_of n).month) × (d.day ≡ (date_of n).day)
same_day n d e =
    let range = epoch_day_range d in
    let small : n ≤ 2932896 = omega (arith, signed_arith, range.1, e) in
    let is = is_day n small in
    epoch_day_injective d (record { year = pos (date_of n).year; month = (date_of n).month; day = (date_of n).day; year_in = is.calendar.0; month_in = is.calendar.1; day_in = is.calendar.2 }) (e ∙ sym is.number)
