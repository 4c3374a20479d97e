-- What a span holds, and how a walk counts it.
use Rattle.std.proofs.Common.{◌≡◌, ◌≢◌, ◌↔◌, ℕ, zero, suc, ◌<◌, ◌≤◌, Bool, true, false, cond, List, [], ◌∷◌, filter, take, nat_lt, nat_le, Some, None, sym, refl, subst, ◌∙◌, arith}
use Rattle.std.proofs.lemmas.Bool.{leb-true, le-leb}
use Rattle.std.proofs.lemmas.Bool.Decides.{nat_tests}
use Rattle.std.specs.List.{Contains}
use Rattle.moment_core.specs.Moments.{seconds_end}
use Rattle.cron_timetable.specs.Intervals.{empty_at}
use Rattle.cron_timetable.specs.declared.timetables.Interval.{Interval}
use Rattle.cron_timetable.specs.declared.timetables.Timetable.{Timetable}
use Rattle.cron_timetable.specs.declared.timetables.Timetable.TheVariants.{Cron, Trigger, Once, Never}
use Rattle.graph_file.specs.declared.graph_specs.GraphSpec.{GraphSpec}
use Rattle.run_planner.specs.Due.{due_intervals, starts_rise, IsFirst}
use Rattle.run_planner.specs.Latest.{IsDue}
use Rattle.run_planner.specs.Spans.{timetable_span, span_intervals, IsBackfill}
use Rattle.run_planner.specs.declared.spans.Backfill.{Backfill}
use Rattle.run_planner.specs.Walks.{due_from}
use Rattle.run_planner.proofs.MemberLemmas.{contains_none, filter_has, filter_from}
use Rattle.run_planner.proofs.DueLemmas.{due_sound, due_complete, due_members}
use Rattle.run_planner.proofs.RiseLemmas.{filter_starts, due_rise}

timetable_members : (x : Timetable) (start low high t : ℕ) (i : Interval) → x ≢ Once → t < seconds_end → Contains (timetable_span x start low high t) i ↔ IsDue x low (Some high) t i
timetable_members (Cron c) start low high t i other range = due_members (Cron c) low t (Some high) i range
timetable_members (Trigger c) start low high t i other range = due_members (Trigger c) low t (Some high) i range
timetable_members Once start low high t i other range = absurd (other refl)
timetable_members Never start low high t i other range = (λ h. absurd (contains_none i h), λ h. absurd h.interval)

pub span_members : (g : GraphSpec) (low high t : ℕ) (i : Interval) → g.schedule ≢ Once → t < seconds_end → Contains (span_intervals g low high t) i ↔ IsDue g.schedule low (Some high) t i
span_members g low high t i other range = timetable_members g.schedule g.start_date low high t i other range

once_members : (start low high t : ℕ) (i : Interval) → t < seconds_end → Contains (timetable_span Once start low high t) i ↔ (IsDue Once start (Some high) t i × (low ≤ i.start))
once_members start low high t i range =
    let all : List Interval = due_intervals Once start (Some high) t in (
      λ h.
          let r = filter_from (λ (j : Interval). nat_le low j.start) all i h in
          (due_sound Once start t (Some high) i range r.0, leb-true low i.start r.1),
      λ (due, from). filter_has (λ (j : Interval). nat_le low j.start) all i (due_complete Once start t (Some high) i due) (le-leb low i.start from),
    )

pub span_once : (g : GraphSpec) (low high t : ℕ) (i : Interval) → g.schedule ≡ Once → t < seconds_end → Contains (span_intervals g low high t) i ↔ (IsDue Once g.start_date (Some high) t i × (low ≤ i.start))
span_once g low high t i schedule range =
    subst (λ (x : Timetable). Contains (timetable_span x g.start_date low high t) i ↔ (IsDue Once g.start_date (Some high) t i × (low ≤ i.start))) (sym schedule) (once_members g.start_date low high t i range)

once_rises : (start low high t : ℕ) → starts_rise (timetable_span Once start low high t) ≡ true
once_rises start low high t = filter_starts (λ i. nat_le low i.start) (due_intervals Once start (Some high) t) (due_rise Once start (Some high) t)

timetable_rises : (x : Timetable) (start low high t : ℕ) → starts_rise (timetable_span x start low high t) ≡ true
timetable_rises (Cron c) start low high t = due_rise (Cron c) low (Some high) t
timetable_rises (Trigger c) start low high t = due_rise (Trigger c) low (Some high) t
timetable_rises Once start low high t = once_rises start low high t
timetable_rises Never start low high t = refl

pub span_rises : (g : GraphSpec) (low high t : ℕ) → starts_rise (span_intervals g low high t) ≡ true
span_rises g low high t = timetable_rises g.schedule g.start_date low high t

-- ---- where a span starts
pub started : (x : Timetable) (start low high t : ℕ) → x ≢ Once → due_from x (Some low) (Some high) t ≡ timetable_span x start low high t
unfolding due_intervals
started (Cron c) start low high t other = refl
started (Trigger c) start low high t other = refl
started Once start low high t other = absurd (other refl)
started Never start low high t other = refl

-- the one interval of `@once` starts from `low` on, or it does not
of_one : (b d : Bool) (i : Interval) (p : Interval → Bool) → p i ≡ d → filter p (cond b (i ∷ []) []) ≡ cond d (cond b (i ∷ []) []) []
of_one true true i p e = rw e refl
of_one true false i p e = rw e refl
of_one false true i p e = refl
of_one false false i p e = refl

pub once_started : (start low high t : ℕ) → low ≤ start → due_from Once (Some start) (Some high) t ≡ timetable_span Once start low high t
unfolding due_intervals
once_started start low high t from = sym (of_one _ true (empty_at start) (λ i. nat_le low i.start) (le-leb low start from))

pub once_before : (start low high t : ℕ) → start < low → due_from Once None (Some high) t ≡ timetable_span Once start low high t
unfolding due_intervals
once_before start low high t before =
    let past : nat_le low start ≡ false = grind (arith, nat_tests) in sym (of_one _ false (empty_at start) (λ i. nat_le low i.start) past)

-- ---- counting
abbrev the_list : List Interval → List Interval
the_list is = is

take_none : (n : ℕ) → take n (the_list []) ≡ []
take_none zero = refl
take_none (suc n) = refl

first_of_none : (limit : ℕ) (intervals : List Interval) (more : Bool) → intervals ≡ [] → more ≡ false → IsFirst [] limit intervals more
first_of_none limit intervals more e f =
    let none : take limit (the_list []) ≡ [] = take_none limit in
    let few : nat_lt limit 0 ≡ false = grind (arith, nat_tests) in
    record { first = e ∙ sym none; others = f ∙ sym few }

-- nothing is counted yet
pub none_counted : (dates : List ℕ) (limit : ℕ) (b : Backfill) → b.fresh.items ≡ [] → b.present.items ≡ [] → b.more ≡ false → IsBackfill dates [] limit b
none_counted dates limit b fresh present more = record { fresh = first_of_none limit b.fresh.items b.more fresh more; present = present }
