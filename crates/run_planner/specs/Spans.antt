-- The runs of a span of past days: Airflow 2's page 'DAG Runs', on backfill.
use Rattle.std.specs.Prelude.{◌≡◌, ℕ, nat_le, List, [], map, filter, Some}
use Rattle.cron_timetable.specs.declared.timetables.Interval.{Interval}
use Rattle.cron_timetable.specs.declared.timetables.Timetable.{Timetable}
use Rattle.cron_timetable.specs.declared.timetables.Timetable.TheVariants.{Cron, Trigger, Once, Never}
use Rattle.graph_file.specs.declared.graph_specs.GraphSpec.{GraphSpec}
use Rattle.run_planner.specs.Index.{has_date}
use Rattle.run_planner.specs.Due.{due_intervals, without_runs, IsFirst}
use Rattle.run_planner.specs.declared.spans.Backfill.{Backfill}

-- the intervals of a timetable that start from `low` on and not past `high`, and have ended at t. The one of `@once` is at the start date
abbrev pub timetable_span : Timetable → ℕ → ℕ → ℕ → ℕ → List Interval
timetable_span (Cron c) start low high t = due_intervals (Cron c) low (Some high) t
timetable_span (Trigger c) start low high t = due_intervals (Trigger c) low (Some high) t
timetable_span Once start low high t = filter (λ i. nat_le low i.start) (due_intervals Once start (Some high) t)
timetable_span Never start low high t = []

-- those of a graph, whatever its start and end dates
abbrev pub span_intervals : GraphSpec → ℕ → ℕ → ℕ → List Interval
span_intervals g low high t = timetable_span g.schedule g.start_date low high t

-- those whose start is one of these dates
abbrev pub with_runs : List ℕ → List Interval → List Interval
with_runs dates is = filter (λ i. has_date dates i.start) is

-- the starts of intervals
abbrev pub starts : List Interval → List ℕ
starts is = map (λ (i : Interval). i.start) is

-- of these intervals, the first `limit` without a run, whether there are others, and the starts of all that have one
pub record IsBackfill (dates : List ℕ) (is : List Interval) (limit : ℕ) (b : Backfill) : Type 0 where
  pub fresh : IsFirst (without_runs dates is) limit b.fresh.items b.more
  pub present : b.present.items ≡ starts (with_runs dates is)
