-- The runs by hand and of a backfill are new: of a graph that is there, no two for one date, and dated by moments.
use Rattle.std.proofs.Common.{◌≡◌, ◌∙◌, refl, sym, ap, ℕ, ◌<◌, ◌≤◌, List, [], ◌∷◌, true, false, not, map, length, ◌+◌, is_some, nat_le, Some, None, arith}
use Rattle.std.specs.List.{list_all}
use Rattle.std.proofs.lemmas.Bool.{ltb-true, and_from}
use Rattle.moment_core.specs.Moments.{seconds_end}
use Rattle.sched_model.specs.cron_timetable.declared.timetables.Interval.{Interval}
use Rattle.sched_model.specs.cron_timetable.declared.timetables.Timetable.{Timetable}
use Rattle.sched_model.specs.cron_timetable.declared.timetables.Timetable.TheVariants.{Cron, Trigger, Once, Never}
use Rattle.sched_model.specs.run_planner.ByHand.{manual_intervals}
use Rattle.sched_model.specs.run_planner.Due.{due_intervals, last_alone, starts_rise, without_runs}
use Rattle.sched_model.specs.run_planner.Index.{has_date}
use Rattle.sched_model.specs.run_planner.Spans.{timetable_span}
use Rattle.sched_model.proofs.run_planner.RiseLemmas.{all_filtered, filter_starts, due_rise}
use Rattle.sched_model.specs.sched_state.declared.runs.RunKind.TheVariants.{Backfill}
use Rattle.sched_model.proofs.sched_state.OrderLemmas.{and_left, and_right}
use Rattle.sched_model.specs.NamedRuns.{manual_run, named_by_hand, named_by_backfill, spanned}
use Rattle.sched_model.specs.Schedule.{Schedule, dag_named, graph_named, dates_of, has_run_at}
use Rattle.sched_model.specs.Sound.{IsSound, is_moment, are_new}
use Rattle.sched_laws.proofs.ListLemmas.{all_impl}
use Rattle.sched_laws.proofs.NamedLemmas.{is_dated, dated, all_filter, all_last, due_dated, filtered_date, one_graph}

-- ---- by hand
empty_dated : (t : ℕ) → t < seconds_end → list_all is_dated (record { start = t; end = t } ∷ []) ≡ true
empty_dated t range = and_from _ _ (dated t (record { start = t; end = t }) range (omega arith) (omega arith)) refl

manual_dated : (s : Timetable) (t : ℕ) → t < seconds_end → list_all is_dated (manual_intervals s t) ≡ true
manual_dated (Cron c) t range = all_last is_dated (due_intervals (Cron c) 0 None t) (due_dated (Cron c) 0 t None range)
manual_dated (Trigger c) t range = empty_dated t range
manual_dated Once t range = empty_dated t range
manual_dated Never t range = empty_dated t range

-- what is alone
alone_long : (is : List Interval) → length (last_alone is) ≤ 1
alone_long [] = omega arith
alone_long (i ∷ []) = omega arith
alone_long (i ∷ j ∷ is) = alone_long (j ∷ is)

too_long : (is : List Interval) → length is + 1 ≡ length (last_alone is) → 1 ≤ length is → ⊥
too_long is e some = let k = alone_long is in omega (arith, e, k, some)

twice : (is : List Interval) → last_alone is ≡ last_alone (last_alone is)
twice [] = refl
twice (i ∷ []) = refl
twice (i ∷ j ∷ is) = twice (j ∷ is)

-- at most one run, whose date no run has
one_new : (a : Schedule) (id : List ℕ) (is : List Interval) → (is ≡ last_alone is) → is_some (graph_named a id) ≡ true → has_run_at a id a.now ≡ false → is_moment a.now ≡ true → list_all is_dated is ≡ true
    → are_new a (map (manual_run a id) is) ≡ true
one_new a id [] alone known free now moments = refl
one_new a id (i ∷ []) alone known free now moments =
    let ends = and_right (is_moment i.start) _ (and_left (is_dated i) _ moments) in
    and_from _ _ (and_from _ _ (and_from (is_some (graph_named a id)) (not (has_run_at a id a.now)) known (ap not free)) (and_from (is_moment a.now) _ now ends)) refl
one_new a id (i ∷ j ∷ is) alone known free now moments = let e = ap length alone in absurd (too_long (j ∷ is) (omega (arith, e)) (omega arith))

manual_alone : (s : Timetable) (t : ℕ) → manual_intervals s t ≡ last_alone (manual_intervals s t)
manual_alone (Cron c) t = twice (due_intervals (Cron c) 0 None t)
manual_alone (Trigger c) t = refl
manual_alone Once t = refl
manual_alone Never t = refl

pub by_hand_new : (a : Schedule) (id : List ℕ) → IsSound a → is_some (graph_named a id) ≡ true → has_run_at a id a.now ≡ false → are_new a (named_by_hand a id) ≡ true
by_hand_new a id s known free =
    let schedule : Timetable = (dag_named a id).spec.schedule in
    one_new a id (manual_intervals schedule a.now) (manual_alone schedule a.now) known free s.clock (manual_dated schedule a.now (ltb-true a.now seconds_end s.clock))

-- ---- by a backfill
span_dated : (s : Timetable) (start low high t : ℕ) → t < seconds_end → list_all is_dated (timetable_span s start low high t) ≡ true
span_dated (Cron c) start low high t range = due_dated (Cron c) low t (Some high) range
span_dated (Trigger c) start low high t range = due_dated (Trigger c) low t (Some high) range
span_dated Once start low high t range = all_filter (λ (i : Interval). nat_le low i.start) is_dated (due_intervals Once start (Some high) t) (due_dated Once start t (Some high) range)
span_dated Never start low high t range = refl

span_rises : (s : Timetable) (start low high t : ℕ) → starts_rise (timetable_span s start low high t) ≡ true
span_rises (Cron c) start low high t = due_rise (Cron c) low (Some high) t
span_rises (Trigger c) start low high t = due_rise (Trigger c) low (Some high) t
span_rises Once start low high t = filter_starts (λ (i : Interval). nat_le low i.start) (due_intervals Once start (Some high) t) (due_rise Once start (Some high) t)
span_rises Never start low high t = refl

pub backfill_new : (a : Schedule) (id : List ℕ) (low high : ℕ) → IsSound a → is_some (graph_named a id) ≡ true → are_new a (named_by_backfill a id low high) ≡ true
backfill_new a id low high s known =
    let is : List Interval = spanned a id low high in
    let dates : List ℕ = dates_of a id in
    let g = (dag_named a id).spec in
    one_graph a Backfill id (without_runs dates is) known
    (all_impl (λ (i : Interval). not (has_date dates i.start)) (λ (i : Interval). not (has_run_at a id i.start)) (λ i e. ap not (sym (filtered_date id i.start a.runs)) ∙ e) (without_runs dates is)
    (all_filtered (λ (i : Interval). not (has_date dates i.start)) is))
    (all_filter (λ (i : Interval). not (has_date dates i.start)) is_dated is (span_dated g.schedule g.start_date low high a.now (ltb-true a.now seconds_end s.clock)))
    (filter_starts (λ (i : Interval). not (has_date dates i.start)) is (span_rises g.schedule g.start_date low high a.now))
