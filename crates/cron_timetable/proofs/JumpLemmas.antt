-- The next number of a set, and the days of a month and of a week in their turn.
use Rattle.std.proofs.Common.{◌≡◌, ℕ, zero, suc, ◌+◌, ◌-◌, ◌*◌, ◌/◌, ◌%◌, ◌^◌, ◌<◌, ◌≤◌, ◌==◌, ◌&&◌, true, false, ap, sym, subst, ◌∙◌, arith, bit_and, inl, inr, min}
use Rattle.std.specs.Int.{bit_at, w64, trailing_zeros}
use Rattle.std.specs.Int.Count.{count_trailing_zeros, count_leading_zeros, trailing_of_zero, leading_of_zero}
use Rattle.std.proofs.Math.Nat.{pow-suc, div-div-eq-div-mul, div-le_self}
use Rattle.std.proofs.lemmas.Bool.{cases_lt}
use Rattle.std.proofs.lemmas.Nat.{pow-add, leading_top, and_le_l}
use Rattle.std.proofs.lemmas.Nat.Bits.{bit_at-zero, bit_at_above, bit_at_and, bit_at_ones, bit_at_ones_above, bit_at-trailing_zeros, bit_at_cat_high, bit_at-lt, ones_shr}
use Rattle.moment_core.specs.Calendar.{next_date, date_of, weekday_of, IsSameMonth, IsMonthStart, IsMonthEnd}
use Rattle.moment_core.specs.declared.calendar.Date.{Date}
use Rattle.cron_timetable.specs.Sets.{has}
use Rattle.cron_timetable.specs.Fields.{Fields, every_day, every_weekday, is_restricted, day_fires, date_fires}

-- ---- sets
in_set : (s n : ℕ) → bit_at s n ≡ 1 → has s n ≡ true
unfolding has
in_set s n h = ap (λ d. d == 1) h

out_of_set : (s n : ℕ) → bit_at s n ≡ 0 → has s n ≡ false
unfolding has
out_of_set s n h = ap (λ d. d == 1) h

shifted : (s n i : ℕ) → bit_at (s / 2 ^ n) i ≡ bit_at s (n + i)
shifted s n i = ap (λ m. m % 2) (div-div-eq-div-mul s (2 ^ n) (2 ^ i) ∙ ap (λ p. s / p) (sym (pow-add 2 n i)))

-- the numbers from n on are those of the shifted set
pub record IsLeastFrom (s n r : ℕ) : Type 0 where
  pub from : n ≤ r
  pub small : r < 128
  pub none : (k : ℕ) → n ≤ k → k < r → has s k ≡ false
  pub found : r < 64 → has s r ≡ true

moved : (s n k : ℕ) → n ≤ k → bit_at (s / 2 ^ n) (k - n) ≡ bit_at s k
moved s n k from = let there : n + (k - n) ≡ k = omega arith in shifted s n (k - n) ∙ ap (bit_at s) there

no_more : (s n : ℕ) → n < 64 → s / 2 ^ n ≡ 0 → IsLeastFrom s n (n + 64)
no_more s n h none = record {
  from = omega arith;
  small = omega arith;
  none = λ k from below. out_of_set s k (sym (moved s n k from) ∙ (ap (λ m. bit_at m (k - n)) none ∙ bit_at-zero (k - n)));
  found = λ below. absurd (omega arith);
}

one_more : (s n : ℕ) → s < 2 ^ 64 → n < 64 → 0 < s / 2 ^ n → IsLeastFrom s n (n + trailing_zeros w64 (s / 2 ^ n))
one_more s n in_range h some =
    let lowest = bit_at-trailing_zeros w64 (s / 2 ^ n) some (omega (arith, div-le_self s (2 ^ n))) in
    record {
      from = omega arith;
      small = omega (arith, lowest.0);
      none = λ k from below. out_of_set s k (sym (moved s n k from) ∙ lowest.2 (k - n) (omega arith));
      found = λ below. in_set s _ (sym (shifted s n (trailing_zeros w64 (s / 2 ^ n))) ∙ lowest.1);
    }

pub least_from : (s n : ℕ) → s < 2 ^ 64 → n < 64 → IsLeastFrom s n (n + count_trailing_zeros 64 (s / 2 ^ n))
least_from s n in_range h =
    elim (cases_lt 0 (s / 2 ^ n)) [
      | inl some ↦ one_more s n in_range h some
      | inr none ↦
          let empty : s / 2 ^ n ≡ 0 = omega arith in
          subst (λ (m : ℕ). IsLeastFrom s n (n + m)) (sym (ap (count_trailing_zeros 64) empty ∙ trailing_of_zero 64)) (no_more s n h empty)
    ]

-- the numbers up to n are those of the masked set
pub record IsPastGreatestTo (s n r : ℕ) : Type 0 where
  pub to : r ≤ n + 1
  pub none : (k : ℕ) → r ≤ k → k ≤ n → has s k ≡ false
  pub found : 0 < r → has s (r - 1) ≡ true

masked : (s n k : ℕ) → k ≤ n → bit_at (bit_and s (2 ^ (n + 1) - 1)) k ≡ bit_at s k
masked s n k h =
    bit_at_and s (2 ^ (n + 1) - 1) k ∙ (ap (min (bit_at s k)) (bit_at_ones (n + 1) k (omega arith)) ∙ omega (arith, bit_at-lt s k))

masked_above : (s n k : ℕ) → n < k → bit_at (bit_and s (2 ^ (n + 1) - 1)) k ≡ 0
masked_above s n k h =
    bit_at_and s (2 ^ (n + 1) - 1) k ∙ (ap (min (bit_at s k)) (bit_at_ones_above (n + 1) k (omega arith)) ∙ omega arith)

highest : (a j : ℕ) → 2 ^ j ≤ a → a < 2 ^ suc j → bit_at a j ≡ 1
highest a j low high =
    let cut : a ≡ 1 * 2 ^ j + (a - 2 ^ j) = omega arith in
    let here : j - j ≡ 0 = omega arith in
    ap (λ m. bit_at m j) cut ∙ (bit_at_cat_high 1 j (a - 2 ^ j) j (omega (arith, pow-suc 2 j)) (omega arith) ∙ ap (bit_at 1) here)

none_to : (s n : ℕ) → bit_and s (2 ^ (n + 1) - 1) ≡ 0 → IsPastGreatestTo s n 0
none_to s n none = record {
  to = omega arith;
  none = λ k from to. out_of_set s k (sym (masked s n k to) ∙ (ap (λ m. bit_at m k) none ∙ bit_at-zero k));
  found = λ h. absurd (omega arith);
}

some_to : (s n j : ℕ) → 2 ^ j ≤ bit_and s (2 ^ (n + 1) - 1) → bit_and s (2 ^ (n + 1) - 1) < 2 ^ suc j → IsPastGreatestTo s n (suc j)
some_to s n j low high =
    let top = highest _ j low high in
    let within : j ≤ n = elim (cases_lt n j) [ inl h ↦ absurd (omega (arith, top, masked_above s n j h)) | inr h ↦ h ] in
    let same : suc j - 1 ≡ j = omega arith in
    record {
      to = omega arith;
      none = λ k from to. out_of_set s k (sym (masked s n k to) ∙ bit_at_above _ (suc j) k high from);
      found = λ h. ap (has s) same ∙ in_set s j (sym (masked s n j within) ∙ top);
    }

greatest_to : (s n a : ℕ) → a ≡ bit_and s (2 ^ (n + 1) - 1) → a < 2 ^ 64 → IsPastGreatestTo s n (64 - count_leading_zeros 64 a)
greatest_to s n a is in_range =
    elim (cases_lt 0 a) [
      | inl some ↦
          let top = leading_top 64 a some in_range in
          let r : 64 - count_leading_zeros 64 a ≡ suc top.0 = omega (arith, top.1) in
          subst (IsPastGreatestTo s n) (sym r) (some_to s n top.0 (omega (arith, top.2)) (omega (arith, top.3)))
      | inr none ↦
          let empty : a ≡ 0 = omega arith in
          let r : 64 - count_leading_zeros 64 a ≡ 0 = omega (arith, ap (count_leading_zeros 64) empty, leading_of_zero 64) in
          subst (IsPastGreatestTo s n) (sym r) (none_to s n (sym is ∙ empty))
    ]

pub past_greatest_to : (s n : ℕ) → s < 2 ^ 64 → n < 64 → IsPastGreatestTo s n (64 - count_leading_zeros 64 (bit_and s (18446744073709551615 / 2 ^ (63 - n))))
past_greatest_to s n in_range h =
    let width : 64 - (63 - n) ≡ n + 1 = omega arith in
    let ones : 18446744073709551615 / 2 ^ (63 - n) ≡ 2 ^ (n + 1) - 1 = ones_shr 64 (63 - n) (omega arith) ∙ ap (λ m. 2 ^ m - 1) width in
    greatest_to s n _ (ap (bit_and s) ones) (omega (arith, and_le_l s (18446744073709551615 / 2 ^ (63 - n))))

-- ---- days
next_in_month : (d : Date) → (next_date d).year ≡ d.year → (next_date d).month ≡ d.month → (next_date d).day ≡ d.day + 1
next_in_month d year month = grind arith

step_in_month : (a n : ℕ) → IsSameMonth (date_of n) (date_of a) → IsSameMonth (date_of (suc n)) (date_of a) → (date_of (suc n)).day ≡ (date_of n).day + 1
unfolding date_of
step_in_month a n is next = next_in_month (date_of n) (next.year ∙ sym is.year) (next.month ∙ sym is.month)

-- the days of one month count up
in_turn : (a i : ℕ) → ((k : ℕ) → a ≤ k → k ≤ a + i → IsSameMonth (date_of k) (date_of a)) → (date_of (a + i)).day ≡ (date_of a).day + i
in_turn a zero same = let none : a + zero ≡ a = omega arith in ap (λ k. (date_of k).day) none ∙ omega arith
in_turn a (suc i) same =
    let more : a + suc i ≡ suc (a + i) = omega arith in
    let before = in_turn a i (λ k from to. same k from (omega arith)) in
    let step = step_in_month a (a + i) (same (a + i) (omega arith) (omega arith)) (same (suc (a + i)) (omega arith) (omega arith)) in
    ap (λ k. (date_of k).day) more ∙ (step ∙ omega (arith, before))

pub later_in_month : (n last k : ℕ) → IsMonthEnd n last → n ≤ k → k ≤ last → (date_of k).day ≡ (date_of n).day + (k - n)
later_in_month n last k is from to =
    let there : n + (k - n) ≡ k = omega arith in
    sym (ap (λ j. (date_of j).day) there) ∙ in_turn n (k - n) (λ j low high. is.within j low (omega arith))

pub earlier_in_month : (n first k : ℕ) → IsMonthStart n first → first ≤ k → k ≤ n → (date_of n).day ≡ (date_of k).day + (n - k)
earlier_in_month n first k is from to =
    let there : k + (n - k) ≡ n = omega arith in
    let here = is.within k from to in
    sym (ap (λ j. (date_of j).day) there)
    ∙ in_turn k (n - k) (λ j low high.
    let other = is.within j (omega arith) (omega arith) in
    record { year = other.year ∙ sym here.year; month = other.month ∙ sym here.month })

-- ---- the day fields
pub day_fires-neither : (c : Fields) (d : ℕ) → (is_restricted every_day c.days && is_restricted every_weekday c.weekdays) ≡ true → has c.days (date_of d).day ≡ false → has c.weekdays (weekday_of d) ≡ false → day_fires c d ≡ false
unfolding day_fires
day_fires-neither c d both day weekday = grind arith

pub day_fires-no_day : (c : Fields) (d : ℕ) → (is_restricted every_day c.days && is_restricted every_weekday c.weekdays) ≡ false → has c.days (date_of d).day ≡ false → day_fires c d ≡ false
unfolding day_fires
day_fires-no_day c d one day = grind arith

pub day_fires-no_weekday : (c : Fields) (d : ℕ) → (is_restricted every_day c.days && is_restricted every_weekday c.weekdays) ≡ false → has c.weekdays (weekday_of d) ≡ false → day_fires c d ≡ false
unfolding day_fires
day_fires-no_weekday c d one weekday = grind arith

pub day_fires-day : (c : Fields) (d : ℕ) → (is_restricted every_day c.days && is_restricted every_weekday c.weekdays) ≡ true → has c.days (date_of d).day ≡ true → day_fires c d ≡ true
unfolding day_fires
day_fires-day c d both day = grind arith

pub day_fires-weekday : (c : Fields) (d : ℕ) → (is_restricted every_day c.days && is_restricted every_weekday c.weekdays) ≡ true → has c.weekdays (weekday_of d) ≡ true → day_fires c d ≡ true
unfolding day_fires
day_fires-weekday c d both weekday = grind arith

pub day_fires-both : (c : Fields) (d : ℕ) → (is_restricted every_day c.days && is_restricted every_weekday c.weekdays) ≡ false → has c.days (date_of d).day ≡ true → has c.weekdays (weekday_of d) ≡ true → day_fires c d ≡ true
unfolding day_fires
day_fires-both c d one day weekday = grind arith

pub date_fires-no_month : (c : Fields) (d : ℕ) → has c.months (date_of d).month ≡ false → date_fires c d ≡ false
unfolding date_fires
date_fires-no_month c d month = grind arith

pub date_fires-no_day : (c : Fields) (d : ℕ) → day_fires c d ≡ false → date_fires c d ≡ false
unfolding date_fires
date_fires-no_day c d day = grind arith

pub date_fires-both : (c : Fields) (d : ℕ) → has c.months (date_of d).month ≡ true → day_fires c d ≡ true → date_fires c d ≡ true
unfolding date_fires
date_fires-both c d month day = grind arith
