-- The days of a month have its dates one after another.
use Rattle.std.proofs.Common.{◌≡◌, ℕ, zero, suc, ◌+◌, ◌-◌, ◌<◌, ◌≤◌, nat_lt, Bool, true, false, cond, refl, sym, ap, ◌∙◌, arith, pos}
use borrow.Author.Tests.{ltb-true}
use Rattle.std.proofs.lemmas.Bool.{lt-ltb}
use Rattle.jiff_core.specs.Calendar.{days_in_month}
use Rattle.moment_core.specs.Calendar.{next_date, date_of, IsSameMonth, IsMonthStart, IsMonthEnd}
use Rattle.moment_core.specs.declared.calendar.Date.{Date}

-- a fact of either choice
chosen : (b : Bool) (P : Date → Type 0) (x y : Date) → (b ≡ true → P x) → (b ≡ false → P y) → P (cond b x y)
chosen true P x y h k = h refl
chosen false P x y h k = k refl

taken : (b : Bool) (x y : Date) → b ≡ true → cond b x y ≡ x
taken b x y e = ap (λ (v : Bool). cond v x y) e

-- the date after one that is not its month's last
next_date-within : (d : Date) → d.day < days_in_month (pos d.year) d.month → next_date d ≡ record { year = d.year; month = d.month; day = d.day + 1 }
next_date-within d h = taken _ _ _ (lt-ltb d.day (days_in_month (pos d.year) d.month) h)

-- and after its month's last
next_date-last : (d : Date) → days_in_month (pos d.year) d.month ≤ d.day → (next_date d).day ≡ 1
next_date-last d h =
    chosen (nat_lt d.day (days_in_month (pos d.year) d.month)) (λ e. e.day ≡ 1) _ _
    (λ lt. absurd (omega (arith, ltb-true _ _ lt)))
    (λ ge. chosen (nat_lt d.month 12) (λ e. e.day ≡ 1) _ _ (λ _. refl) (λ _. refl))

-- a date that is no first follows one of its month
next_date-no_first : (d : Date) → 1 < (next_date d).day → next_date d ≡ record { year = d.year; month = d.month; day = d.day + 1 }
next_date-no_first d =
    let same : Date → Type 0 = λ e. 1 < e.day → e ≡ record { year = d.year; month = d.month; day = d.day + 1 } in
    chosen (nat_lt d.day (days_in_month (pos d.year) d.month)) same _ _
    (λ lt h. refl)
    (λ ge. chosen (nat_lt d.month 12) same _ _ (λ _ h. absurd (omega arith)) (λ _ h. absurd (omega arith)))

pub same_month : (a b : Date) (day : ℕ) → a ≡ record { year = b.year; month = b.month; day = day } → IsSameMonth a b
same_month a b day e = rw e (record { year = refl; month = refl })

-- ---- later days of a month
later_step : (d e : Date) (i : ℕ) → e ≡ record { year = d.year; month = d.month; day = d.day + i } → d.day + suc i ≤ days_in_month (pos d.year) d.month → next_date e ≡ record { year = d.year; month = d.month; day = d.day + suc i }
later_step d e i is h =
    ap next_date is
    ∙ (next_date-within (record { year = d.year; month = d.month; day = d.day + i }) (omega arith)
    ∙ ap (λ (n : ℕ). let r : Date = record { year = d.year; month = d.month; day = n } in r) (omega arith))

pub date_of-later : (n i : ℕ) → (date_of n).day + i ≤ days_in_month (pos (date_of n).year) (date_of n).month → date_of (n + i) ≡ record { year = (date_of n).year; month = (date_of n).month; day = (date_of n).day + i }
unfolding date_of
date_of-later n zero h =
    let none : n + zero ≡ n = omega arith in
    ap date_of none ∙ ap (λ (k : ℕ). let r : Date = record { year = (date_of n).year; month = (date_of n).month; day = k } in r) (omega arith)
date_of-later n (suc i) h =
    let more : n + suc i ≡ suc (n + i) = omega arith in
    ap date_of more ∙ later_step (date_of n) (date_of (n + i)) i (date_of-later n i (omega arith)) h

-- ---- earlier days of a month
pub record IsEarlier (n i : ℕ) : Type 0 where
  pub back : i ≤ n
  pub month : IsSameMonth (date_of (n - i)) (date_of n)
  pub day : (date_of (n - i)).day + i ≡ (date_of n).day

-- the day before one that is no first
date_of-before : (m : ℕ) → 1 < (date_of m).day → (0 < m) × IsSameMonth (date_of (m - 1)) (date_of m) × ((date_of (m - 1)).day + 1 ≡ (date_of m).day)
unfolding date_of
date_of-before zero h = absurd (omega arith)
date_of-before (suc m) h =
    let e = next_date-no_first (date_of m) h in
    let one : suc m - 1 ≡ m = omega arith in
    (omega arith, rw (one, e) (record { year = refl; month = refl }), rw (one, e) refl)

pub earlier : (n i : ℕ) → i < (date_of n).day → IsEarlier n i
earlier n zero h =
    let none : n - zero ≡ n = omega arith in
    record { back = omega arith; month = rw none (record { year = refl; month = refl }); day = rw none (omega arith) }
earlier n (suc i) h =
    let is = earlier n i (omega arith) in
    let before = date_of-before (n - i) (omega (arith, is.day)) in
    let one : n - suc i ≡ n - i - 1 = omega arith in
    record {
      back = omega (arith, is.back, before.0);
      month = rw one (record { year = before.1.year ∙ is.month.year; month = before.1.month ∙ is.month.month });
      day = rw one (omega (arith, before.2, is.day));
    }

-- ---- the ends of a month
pub ends : (n : ℕ) → (date_of n).day ≤ days_in_month (pos (date_of n).year) (date_of n).month → (last : ℕ) → last ≡ n + (days_in_month (pos (date_of n).year) (date_of n).month - (date_of n).day) → IsMonthEnd n last
unfolding date_of
ends n h last e =
    let date = date_of-later n (last - n) (omega arith) in
    let there : n + (last - n) ≡ last = omega arith in
    let next : last + 1 ≡ suc last = omega arith in
    record {
      after = omega arith;
      within = λ k from below.
          let at : n + (k - n) ≡ k = omega arith in
          same_month _ _ ((date_of n).day + (k - n)) (sym (ap date_of at) ∙ date_of-later n (k - n) (omega arith));
      end = ap (λ (k : ℕ). (date_of k).day) next ∙ next_date-last (date_of last) (let at = sym (ap date_of there) ∙ date in rw at (omega arith));
    }

pub starts : (n : ℕ) → 1 ≤ (date_of n).day → (first : ℕ) → first + (date_of n).day ≡ n + 1 → IsMonthStart n first
starts n h first e =
    let is = earlier n (n - first) (omega arith) in
    let there : n - (n - first) ≡ first = omega arith in
    record {
      before = omega arith;
      within = λ k from below.
          let at : n - (n - k) ≡ k = omega arith in
          rw at at (earlier n (n - k) (omega arith)).month;
      start = let day = rw there at is.day in omega (arith, day);
    }

back-by : (n d : ℕ) → (date_of n).day ≡ d → d ≤ n + 1
back-by n zero e = omega arith
back-by n (suc d) e = omega (arith, (earlier n d (omega arith)).back)

-- no date is further into its month than its day is from the first day of all
pub day-le : (n : ℕ) → (date_of n).day ≤ n + 1
day-le n = back-by n (date_of n).day refl
