-- The ticks of a range, and the list of what is due: its first interval, and then what is due from its end on.
use Rattle.std.proofs.Common.{◌≡◌, ℕ, zero, suc, ◌+◌, ◌-◌, ◌<◌, ◌≤◌, true, false, cond, List, [], ◌∷◌, filter, Option, inl, inr, ap, sym, ◌∙◌, arith}
use Rattle.std.proofs.lemmas.Bool.{cases_lt}
use Rattle.std.specs.List.{range_with_len}
use Rattle.cron_timetable.specs.Fields.{Fields, fires}
use Rattle.cron_timetable.specs.Ticks.{NoneBetween, IsLeastTickFrom}
use Rattle.cron_timetable.specs.Intervals.{IsFirstIntervalFrom}
use Rattle.cron_timetable.specs.declared.timetables.Interval.{Interval}
use Rattle.cron_timetable.specs.declared.timetables.Timetable.TheVariants.{Cron}
use Rattle.run_planner.specs.Due.{ticks_between, pairs_from, neighbours, is_up_to, due_intervals}

-- ---- the ticks of a range
pub ticks-cons_no : (c : Fields) (low n : ℕ) → fires c low ≡ false → filter (fires c) (range_with_len low (suc n)) ≡ filter (fires c) (range_with_len (low + 1) n)
ticks-cons_no c low n off = ap (λ b. cond b (low ∷ filter (fires c) (range_with_len (low + 1) n)) (filter (fires c) (range_with_len (low + 1) n))) off

pub ticks-cons_yes : (c : Fields) (low n : ℕ) → fires c low ≡ true → filter (fires c) (range_with_len low (suc n)) ≡ low ∷ filter (fires c) (range_with_len (low + 1) n)
ticks-cons_yes c low n on = ap (λ b. cond b (low ∷ filter (fires c) (range_with_len (low + 1) n)) (filter (fires c) (range_with_len (low + 1) n))) on

same_len : (c : Fields) (low m n : ℕ) → m ≡ n → filter (fires c) (range_with_len low m) ≡ filter (fires c) (range_with_len low n)
same_len c low m n e = ap (λ k. filter (fires c) (range_with_len low k)) e

same_low : (c : Fields) (a b n : ℕ) → a ≡ b → filter (fires c) (range_with_len a n) ≡ filter (fires c) (range_with_len b n)
same_low c a b n e = ap (λ k. filter (fires c) (range_with_len k n)) e

-- k seconds in which nothing fires may be left out
ticks-skip : (c : Fields) (low k n : ℕ) → NoneBetween c low (low + k) → filter (fires c) (range_with_len low (k + n)) ≡ filter (fires c) (range_with_len (low + k) n)
ticks-skip c low zero n none = same_len c low (0 + n) n (omega arith) ∙ same_low c low (low + 0) n (omega arith)
ticks-skip c low (suc k) n none =
    same_len c low (suc k + n) (suc (k + n)) (omega arith)
    ∙ (ticks-cons_no c low (k + n) (none low (omega arith) (omega arith))
    ∙ (ticks-skip c (low + 1) k n (λ m from below. none m (omega arith) (omega arith))
    ∙ same_low c (low + 1 + k) (low + suc k) n (omega arith)))

pub ticks-none : (c : Fields) (low high : ℕ) → NoneBetween c low high → ticks_between c low high ≡ []
unfolding ticks_between
ticks-none c low high none =
    same_len c low (high - low) (high - low + 0) (omega arith)
    ∙ ticks-skip c low (high - low) 0 (λ m from below. none m from (omega arith))

-- the least tick is the first, if it is in the range
pub ticks-first : (c : Fields) (low high a : ℕ) → low ≤ a → a < high → fires c a ≡ true → NoneBetween c low a → ticks_between c low high ≡ a ∷ ticks_between c (a + 1) high
unfolding ticks_between
ticks-first c low high a from below on none =
    same_len c low (high - low) ((a - low) + suc (high - (a + 1))) (omega arith)
    ∙ (ticks-skip c low (a - low) (suc (high - (a + 1))) (λ m f b. none m f (omega arith))
    ∙ (same_low c (low + (a - low)) a (suc (high - (a + 1))) (omega arith)
    ∙ ticks-cons_yes c a (high - (a + 1)) on))

-- ---- what is due from the tick a on
unfoldable rest_from : Fields → ℕ → Option ℕ → ℕ → List Interval
rest_from c a last t = filter (λ i. is_up_to last i.start) (pairs_from a (ticks_between c (a + 1) (t + 1)))

rest-start : (c : Fields) (first a : ℕ) (last : Option ℕ) (t : ℕ) → IsLeastTickFrom c first a → due_intervals (Cron c) first last t ≡ rest_from c a last t
unfolding due_intervals rest_from
rest-start c first a last t h =
    elim (cases_lt a (t + 1)) [
      | inl inside ↦ ap (λ ts. filter (λ i. is_up_to last i.start) (neighbours ts)) (ticks-first c first (t + 1) a h.from inside h.tick.1 h.least)
      | inr past ↦
          ap (λ ts. filter (λ i. is_up_to last i.start) (neighbours ts)) (ticks-none c first (t + 1) (λ k from below. h.least k from (omega arith)))
          ∙ sym (ap (λ ts. filter (λ i. is_up_to last i.start) (pairs_from a ts)) (ticks-none c (a + 1) (t + 1) (λ k from below. absurd (omega arith))))
    ]

rest-next : (c : Fields) (a b : ℕ) (last : Option ℕ) (t : ℕ) → b ≤ t → IsLeastTickFrom c (a + 1) b → is_up_to last a ≡ true → rest_from c a last t ≡ record { start = a; end = b } ∷ rest_from c b last t
unfolding rest_from
rest-next c a b last t inside h ok =
    ap (λ ts. filter (λ i. is_up_to last i.start) (pairs_from a ts)) (ticks-first c (a + 1) (t + 1) b h.from (omega arith) h.tick.1 h.least)
    ∙ ap (λ v. cond v (record { start = a; end = b } ∷ filter (λ i. is_up_to last i.start) (pairs_from b (ticks_between c (b + 1) (t + 1)))) (filter (λ i. is_up_to last i.start) (pairs_from b (ticks_between c (b + 1) (t + 1))))) ok

-- the first interval, where it is due, and then what is due from its end on
pub first_then_rest : (c : Fields) (from : ℕ) (last : Option ℕ) (t : ℕ) (i : Interval) → IsFirstIntervalFrom c from i → i.end ≤ t → is_up_to last i.start ≡ true → due_intervals (Cron c) from last t ≡ i ∷ due_intervals (Cron c) i.end last t
first_then_rest c from last t i h ended up_to =
    rest-start c from i.start last t (record { from = h.from; tick = h.interval.start; least = h.first })
    ∙ (rest-next c i.start i.end last t ended (record { from = omega (arith, h.interval.rising); tick = h.interval.end; least = h.interval.between }) up_to
    ∙ sym (ap (λ (is : List Interval). i ∷ is) (rest-start c i.end i.end last t (record {
      from = omega arith;
      tick = h.interval.end;
      least = λ k from below. absurd (omega arith);
    }))))
