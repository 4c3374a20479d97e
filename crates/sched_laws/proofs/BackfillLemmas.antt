-- Which dates a backfill names.
use Rattle.std.proofs.Common.{◌≡◌, ◌∙◌, refl, sym, ap, ℕ, List, [], ◌∷◌, Bool, true, false, not, cond, filter, map, ◌&&◌, ◌||◌, ◌==◌}
use Rattle.std.specs.List.{list_any}
use Rattle.std.proofs.lemmas.Bool.{eqb-true}
use Rattle.sched_model.specs.cron_timetable.declared.timetables.Interval.{Interval}
use Rattle.sched_model.specs.run_planner.Due.{without_runs}
use Rattle.sched_model.specs.run_planner.Index.{has_date}
use Rattle.sched_model.specs.run_planner.Spans.{starts, with_runs}
use Rattle.sched_model.proofs.sched_state.NameLemmas.{same_itself}
use Rattle.sched_model.specs.sched_state.declared.runs.RunKind.TheVariants.{Backfill}
use Rattle.sched_model.specs.Changes.{advance}
use Rattle.sched_model.specs.NamedRuns.{is_for, run_from, named_by_backfill, present_in, spanned}
use Rattle.sched_model.specs.Schedule.{Schedule, dates_of, has_run_at}
use Rattle.sched_laws.proofs.KeyLemmas.{advance_keys}
use Rattle.sched_laws.proofs.NamedLemmas.{filtered_date}
use Rattle.std.proofs.Math.Bool.{and-false}

-- the intervals of a date that pass a test of dates
dated_and : (f : ℕ → Bool) (date : ℕ) (is : List Interval) → list_any (λ (i : Interval). i.start == date) (filter (λ (i : Interval). f i.start) is) ≡ (has_date (starts is) date && f date)
dated_and f date [] = refl
dated_and f date (i ∷ is) = by (f i.start) (i.start == date) refl refl (dated_and f date is)
  where
    by : (b c : Bool) → f i.start ≡ b → (i.start == date) ≡ c → list_any (λ (j : Interval). j.start == date) (filter (λ (j : Interval). f j.start) is) ≡ (has_date (starts is) date && f date)
        → list_any (λ (j : Interval). j.start == date) (cond b (i ∷ filter (λ (j : Interval). f j.start) is) (filter (λ (j : Interval). f j.start) is)) ≡ ((c || has_date (starts is) date) && f date)
    by true true e g ih = rw g (sym (ap f (sym (eqb-true i.start date g)) ∙ e))
    by true false e g ih = rw g ih
    by false true e g ih = let none : f date ≡ false = ap f (sym (eqb-true i.start date g)) ∙ e in ih ∙ (ap (λ b. has_date (starts is) date && b) none ∙ (and-false (has_date (starts is) date) ∙ sym none))
    by false false e g ih = ih

for_one : (id : List ℕ) (date : ℕ) (is : List Interval) → list_any (is_for id date) (map (run_from Backfill id) is) ≡ list_any (λ (i : Interval). i.start == date) is
for_one id date [] = refl
for_one id date (i ∷ is) = rw (same_itself id) (ap (λ b. (i.start == date) || b) (for_one id date is))

pub named_missing : (a : Schedule) (id : List ℕ) (low high date : ℕ) → list_any (is_for id date) (named_by_backfill a id low high) ≡ (has_date (starts (spanned a id low high)) date && not (has_run_at a id date))
named_missing a id low high date =
    for_one id date (without_runs (dates_of a id) (spanned a id low high))
    ∙ (dated_and (λ d. not (has_date (dates_of a id) d)) date (spanned a id low high) ∙ ap (λ b. has_date (starts (spanned a id low high)) date && not b) (filtered_date id date a.runs))

starts_date : (date : ℕ) (is : List Interval) → has_date (starts is) date ≡ list_any (λ (i : Interval). i.start == date) is
starts_date date [] = refl
starts_date date (i ∷ is) = ap (λ b. (i.start == date) || b) (starts_date date is)

pub present_dates : (a : Schedule) (id : List ℕ) (low high date : ℕ) → has_date (present_in a id low high) date ≡ (has_date (starts (spanned a id low high)) date && has_run_at a id date)
present_dates a id low high date =
    starts_date date (with_runs (dates_of a id) (spanned a id low high))
    ∙ (dated_and (λ d. has_date (dates_of a id) d) date (spanned a id low high) ∙ ap (λ b. has_date (starts (spanned a id low high)) date && b) (filtered_date id date a.runs))

and_or : (b c : Bool) → ((b && not c) || c) ≡ (b || c)
and_or true true = refl
and_or true false = refl
and_or false true = refl
and_or false false = refl

pub filled : (a : Schedule) (id : List ℕ) (low high date : ℕ) → has_run_at (advance (named_by_backfill a id low high) a) id date ≡ (has_date (starts (spanned a id low high)) date || has_run_at a id date)
filled a id low high date =
    advance_keys (named_by_backfill a id low high) a id date ∙ (ap (λ b. b || has_run_at a id date) (named_missing a id low high date) ∙ and_or (has_date (starts (spanned a id low high)) date) (has_run_at a id date))
