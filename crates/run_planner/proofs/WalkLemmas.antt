-- A walk over the due intervals: the first one, and then what is due from the next start on.
use Rattle.std.proofs.Common.{◌≡◌, ℕ, ◌+◌, ◌<◌, ◌≤◌, true, List, [], ◌∷◌, Option, None, Some, refl, ap, sym, ◌∙◌, arith}
use Rattle.std.proofs.lemmas.Bool.{le-leb}
use Rattle.moment_core.specs.Moments.{seconds_end}
use Rattle.cron_timetable.specs.Fields.{Fields}
use Rattle.cron_timetable.specs.Intervals.{empty_at, IntervalFrom}
use Rattle.cron_timetable.specs.declared.timetables.Interval.{Interval}
use Rattle.cron_timetable.specs.declared.timetables.Timetable.{Timetable}
use Rattle.cron_timetable.specs.declared.timetables.Timetable.TheVariants.{Cron, Trigger, Once, Never}
use Rattle.run_planner.specs.Due.{is_up_to, due_intervals}
use Rattle.run_planner.specs.Walks.{due_from, IsNextStart}
use Rattle.run_planner.proofs.PlanLemmas.{first_then_rest}
use Rattle.run_planner.proofs.TriggerLemmas.{trigger_then_rest, trigger_none}

-- what is due from the second after a tick on
after_tick : (c : Fields) (a : ℕ) (last : Option ℕ) (t : ℕ) (r : Option ℕ) (i : Interval) → t < seconds_end → i.start ≡ a → IsNextStart (Trigger c) i r → due_intervals (Trigger c) (a + 1) last t ≡ due_from (Trigger c) r last t
after_tick c a last t None i range at next = trigger_none c (a + 1) last t (λ k from below. absurd (omega arith))
after_tick c a last t (Some m) i range at next =
    let e : a + 1 ≡ m = omega arith in ap (λ (n : ℕ). due_intervals (Trigger c) n last t) e

-- the one interval of `@once`, where it is due
once_due : (from : ℕ) (last : Option ℕ) (t : ℕ) → from ≤ t → is_up_to last from ≡ true → due_intervals Once from last t ≡ empty_at from ∷ []
unfolding due_intervals
once_due from last t inside ok = rw (ok, le-leb from t inside) refl

-- the first interval, where it is due, and then what is due from the next start on
pub step_taken : (x : Timetable) (from : ℕ) (last : Option ℕ) (t : ℕ) (i : Interval) (r : Option ℕ) → t < seconds_end → IntervalFrom x from (Some i) → IsNextStart x i r → i.end ≤ t → is_up_to last i.start ≡ true → due_intervals x from last t ≡ i ∷ due_from x r last t
step_taken (Cron c) from last t i r range h next ended ok =
    rw next (first_then_rest c from last t i h ended ok)
step_taken (Trigger c) from last t i r range h next ended ok =
    let e : empty_at i.start ≡ i = ap (λ (b : ℕ). let j : Interval = record { start = i.start; end = b } in j) (sym h.empty) in
    trigger_then_rest c from i.start last t h.tick (omega (arith, h.empty)) ok
    ∙ (ap (λ (is : List Interval). empty_at i.start ∷ is) (after_tick c i.start last t r i range refl next)
    ∙ ap (λ (j : Interval). j ∷ due_from (Trigger c) r last t) e)
step_taken Once from last t i r range h next ended ok =
    let e : i ≡ empty_at from = cc in
    let at : i.start ≡ from = ap (λ (j : Interval). j.start) e in
    let ends : i.end ≡ from = ap (λ (j : Interval). j.end) e in
    rw (next, e) (once_due from last t (omega arith) (ap (is_up_to last) (sym at) ∙ ok))
step_taken Never from last t i r range h next ended ok = absurd cc
