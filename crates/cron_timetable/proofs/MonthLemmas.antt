-- Months, counted through the years: they rise with the days, and twelve of them are longer than eleven of 31 days.
use Rattle.std.proofs.Common.{◌≡◌, ℕ, zero, suc, ◌+◌, ◌-◌, ◌*◌, ◌/◌, ◌<◌, ◌≤◌, ◌%◌, ◌==◌, ◌&&◌, ◌||◌, not, nat_lt, Bool, true, cond, unsigned_abs, pos, min, ◌⊎◌, false, ap, sym, ◌∙◌, subst, refl, arith, inl, inr}
use Rattle.std.proofs.lemmas.Bool.{cases_lt, lt-ltb, eqb-true}
use Rattle.moment_core.specs.Calendar.{next_date, date_of, IsMonthStart, IsMonthEnd}
use Rattle.moment_core.specs.declared.calendar.Date.{Date}
use Rattle.cron_timetable.specs.Sets.{has}
use Rattle.cron_timetable.specs.Fields.{Fields, date_fires}
use Rattle.cron_timetable.proofs.JumpLemmas.{date_fires-no_month}

record IsCounted (d : Date) : Type 0 where
  first : 1 ≤ d.month
  last : d.month ≤ 12
  day : 1 ≤ d.day

abbrev month_count : Date → ℕ
month_count d = d.year * 12 + d.month

-- the Februaries that are over
abbrev february_count : ℕ → ℕ
february_count months = (months + 9) / 12

-- the days, if months had 30
abbrev short_count : Date → ℕ
short_count d = month_count d * 30 + min d.day 30

next_counted : (d : Date) → 1 ≤ d.month → d.month ≤ 12 → 1 ≤ d.day → IsCounted (next_date d)
next_counted d first last day = record { first = grind arith; last = grind arith; day = grind arith }

counted : (n : ℕ) → IsCounted (date_of n)
unfolding date_of
counted zero = record { first = omega arith; last = omega arith; day = omega arith }
counted (suc n) = let is = counted n in next_counted (date_of n) is.first is.last is.day

next_rises : (d : Date) → 1 ≤ d.month → d.month ≤ 12 → month_count d ≤ month_count (next_date d)
next_rises d first last = grind arith

next_count : (d : Date) → 1 ≤ d.month → d.month ≤ 12 → month_count (next_date d) ≤ month_count d + 1
next_count d first last = grind arith

next_in_month : (d : Date) → 1 < (next_date d).day → (month_count (next_date d) ≡ month_count d) × ((next_date d).day ≡ d.day + 1)
next_in_month d later = (grind arith, grind arith)

-- whatever the year is, no day before the 28th is the last of its month, and none before the 30th but in February
not_last : (day : ℕ) (february leap thirty : Bool) (x y : Date) → day < 28 → cond (nat_lt day (cond february (cond leap 29 28) (cond thirty 30 31))) x y ≡ x
not_last day true true thirty x y h = ap (λ (b : Bool). cond b x y) (lt-ltb day 29 (omega arith))
not_last day true false thirty x y h = ap (λ (b : Bool). cond b x y) (lt-ltb day 28 (omega arith))
not_last day false leap true x y h = ap (λ (b : Bool). cond b x y) (lt-ltb day 30 (omega arith))
not_last day false leap false x y h = ap (λ (b : Bool). cond b x y) (lt-ltb day 31 (omega arith))

not_last-long : (day : ℕ) (february leap thirty : Bool) (x y : Date) → february ≡ false → day < 30 → cond (nat_lt day (cond february (cond leap 29 28) (cond thirty 30 31))) x y ≡ x
not_last-long day true leap thirty x y e h = cc
not_last-long day false leap true x y e h = ap (λ (b : Bool). cond b x y) (lt-ltb day 30 (omega arith))
not_last-long day false leap false x y e h = ap (λ (b : Bool). cond b x y) (lt-ltb day 31 (omega arith))

abbrev is_leap : ℕ → Bool
is_leap year = (unsigned_abs (pos year) % 4 == 0) && (not (unsigned_abs (pos year) % 100 == 0) || (unsigned_abs (pos year) % 400 == 0))

abbrev is_thirty : ℕ → Bool
is_thirty month = (month == 4) || (month == 6) || (month == 9) || (month == 11)

next_short : (d : Date) → d.day < 28 → (next_date d).day ≡ d.day + 1
next_short d short = ap (λ (e : Date). e.day) (not_last d.day (d.month == 2) (is_leap d.year) (is_thirty d.month) _ _ short)

next_long : (d : Date) → (d.month == 2) ≡ false → d.day < 30 → (next_date d).day ≡ d.day + 1
next_long d other short = ap (λ (e : Date). e.day) (not_last-long d.day (d.month == 2) (is_leap d.year) (is_thirty d.month) _ _ other short)

last_day : (d : Date) → 1 ≤ d.day → (next_date d).day ≤ 1 → 28 ≤ d.day
last_day d day first = elim (cases_lt d.day 28) [ inl short ↦ absurd (omega (arith, next_short d short)) | inr long ↦ long ]

last_day-long : (d : Date) → (d.month == 2) ≡ false → 1 ≤ d.day → (next_date d).day ≤ 1 → 30 ≤ d.day
last_day-long d other day first = elim (cases_lt d.day 30) [ inl short ↦ absurd (omega (arith, next_long d other short)) | inr long ↦ long ]

-- a day more, beside two more for each February that is over then
abbrev Slow : Date → Date → Type 0
Slow d e = short_count e + 2 * february_count (month_count d) ≤ short_count d + 1 + 2 * february_count (month_count e)

slow_first : (d : Date) (is_february : Bool) → (d.month == 2) ≡ is_february → IsCounted d → 1 ≤ (next_date d).day → (next_date d).day ≤ 1 → Slow d (next_date d)
slow_first d true february is one first =
    let month : d.month ≡ 2 = eqb-true d.month 2 february in
    omega (arith, last_day d is.day first, next_rises d is.first is.last, next_count d is.first is.last)
slow_first d false other is one first =
    omega (arith, last_day-long d other is.day first, next_rises d is.first is.last, next_count d is.first is.last)

next_slow : (d : Date) → IsCounted d → Slow d (next_date d)
next_slow d is =
    elim (cases_lt 1 (next_date d).day) [
      | inl later ↦ let same = next_in_month d later in omega (arith, same.0, same.1)
      | inr first ↦ slow_first d (d.month == 2) refl is (next_counted d is.first is.last is.day).day first
    ]

step_rises : (n : ℕ) → month_count (date_of n) ≤ month_count (date_of (suc n))
unfolding date_of
step_rises n = let is = counted n in next_rises (date_of n) is.first is.last

step_slow : (n : ℕ) → Slow (date_of n) (date_of (suc n))
unfolding date_of
step_slow n = next_slow (date_of n) (counted n)

rises_by : (a i : ℕ) → month_count (date_of a) ≤ month_count (date_of (a + i))
rises_by a zero = let none : a + zero ≡ a = omega arith in omega (arith, ap (λ n. month_count (date_of n)) none)
rises_by a (suc i) =
    let more : a + suc i ≡ suc (a + i) = omega arith in
    omega (arith, ap (λ n. month_count (date_of n)) more, rises_by a i, step_rises (a + i))

rises : (a b : ℕ) → a ≤ b → month_count (date_of a) ≤ month_count (date_of b)
rises a b h = let there : a + (b - a) ≡ b = omega arith in omega (arith, ap (λ n. month_count (date_of n)) there, rises_by a (b - a))

abbrev SlowBy : Date → Date → ℕ → Type 0
SlowBy d e i = short_count e + 2 * february_count (month_count d) ≤ short_count d + i + 2 * february_count (month_count e)

slow_by : (a i : ℕ) → SlowBy (date_of a) (date_of (a + i)) i
slow_by a zero = let none : a ≡ a + zero = omega arith in subst (λ (n : ℕ). SlowBy (date_of a) (date_of n) zero) none (omega arith)
slow_by a (suc i) =
    let more : suc (a + i) ≡ a + suc i = omega arith in
    let before = slow_by a i in
    let step = step_slow (a + i) in
    subst (λ (n : ℕ). SlowBy (date_of a) (date_of n) (suc i)) more (omega arith)

slow : (a b : ℕ) → a ≤ b → SlowBy (date_of a) (date_of b) (b - a)
slow a b h = let there : a + (b - a) ≡ b = omega arith in subst (λ (n : ℕ). SlowBy (date_of a) (date_of n) (b - a)) there (slow_by a (b - a))

-- from a first of a month, 31 days for each of up to twelve months but one do not lead past these months
slow_ahead : (a b months : ℕ) → a ≤ b → (date_of a).day ≡ 1 → 0 < months → months ≤ 12 → b ≤ a + 31 * (months - 1) → month_count (date_of b) < month_count (date_of a) + months
slow_ahead a b months h first some few near = let is = counted b in let days = slow a b h in omega arith

-- nor back from a last day
slow_back : (a b months : ℕ) → a ≤ b → 28 ≤ (date_of b).day → 0 < months → months ≤ 12 → b ≤ a + 31 * (months - 1) → month_count (date_of b) < month_count (date_of a) + months
slow_back a b months h last some few near = let is = counted b in let days = slow a b h in omega arith

ends_late : (n : ℕ) → (date_of (suc n)).day ≡ 1 → 28 ≤ (date_of n).day
unfolding date_of
ends_late n end = last_day (date_of n) (counted n).day (omega arith)

-- these months from that of e on are not in the field, so nothing fires up to the end of the last of them
pub none_ahead : (c : Fields) (e months start within last : ℕ) → 0 < months → months ≤ 12 → ((i : ℕ) → i < months → has c.months (((date_of e).month + 11 + i) % 12 + 1) ≡ false) → IsMonthStart e start → e ≤ within → (within ≤ e) ⊎ (within ≤ start + 31 * (months - 1)) → IsMonthEnd within last → (k : ℕ) → e ≤ k → k ≤ last → date_fires c k ≡ false
none_ahead c e months start within last some few off begins from near ends k low high =
    let here = counted e in
    let there = counted k in
    let begin = begins.within start (omega arith) begins.before in
    let end = ends.within last ends.after (omega arith) in
    let above = rises e k low in
    let below = rises k last high in
    let span : month_count (date_of within) < month_count (date_of e) + months = elim near [
      | inl same ↦ omega (arith, rises within e same)
      | inr later ↦ omega (arith, begin.year, begin.month, slow_ahead start within months (omega (arith, begins.before)) begins.start some few later)
    ] in
    let month : (date_of k).month ≡ ((date_of e).month + 11 + (month_count (date_of k) - month_count (date_of e))) % 12 + 1 = omega arith in
    date_fires-no_month c k (ap (has c.months) month ∙ off (month_count (date_of k) - month_count (date_of e)) (omega (arith, end.year, end.month)))

-- nor back to the first day of the first of them
pub none_back : (c : Fields) (e months end within first : ℕ) → 0 < months → months ≤ 12 → ((i : ℕ) → i < months → has c.months (((date_of e).month + 11 - i) % 12 + 1) ≡ false) → IsMonthEnd e end → within ≤ e → (e ≤ within) ⊎ (end ≤ within + 31 * (months - 1)) → IsMonthStart within first → (k : ℕ) → first ≤ k → k ≤ e → date_fires c k ≡ false
none_back c e months end within first some few off ends from near begins k low high =
    let here = counted e in
    let there = counted k in
    let more : end + 1 ≡ suc end = omega arith in
    let late = ends_late end (sym (ap (λ n. (date_of n).day) more) ∙ ends.end) in
    let finish = ends.within end ends.after (omega arith) in
    let begin = begins.within first (omega arith) begins.before in
    let above = rises k e high in
    let below = rises first k low in
    let span : month_count (date_of e) < month_count (date_of within) + months = elim near [
      | inl same ↦ omega (arith, rises e within same)
      | inr earlier ↦ omega (arith, finish.year, finish.month, slow_back within end months (omega (arith, ends.after)) late some few earlier)
    ] in
    let month : (date_of k).month ≡ ((date_of e).month + 11 - (month_count (date_of e) - month_count (date_of k))) % 12 + 1 = omega (arith, begin.year, begin.month) in
    date_fires-no_month c k (ap (has c.months) month ∙ off (month_count (date_of e) - month_count (date_of k)) (omega (arith, begin.year, begin.month)))
