-- The runs that a timetable names: Airflow 2's page 'DAG Runs', on schedules and catchup, and its page 'Timetables'.
use Rattle.std.specs.Prelude.{◌≡◌, ℕ, ◌+◌, ◌-◌, Bool, true, false, not, ◌&&◌, nat_le, nat_lt, List, [], ◌∷◌, length, take, map, filter, Option, Some, None}
use Rattle.std.specs.List.{list_all, range_with_len}
use Rattle.cron_timetable.specs.Fields.{Fields, fires}
use Rattle.cron_timetable.specs.Intervals.{empty_at}
use Rattle.cron_timetable.specs.declared.timetables.Interval.{Interval}
use Rattle.graph_file.specs.declared.graph_specs.GraphSpec.{GraphSpec}
use Rattle.cron_timetable.specs.declared.timetables.Timetable.{Timetable}
use Rattle.cron_timetable.specs.declared.timetables.Timetable.TheVariants.{Cron, Trigger, Once, Never}
use Rattle.run_planner.specs.Index.{has_date}

-- the ticks of an expression from `low` up to below `high`, rising
unfoldable pub ticks_between : Fields → ℕ → ℕ → List ℕ
ticks_between c low high = filter (fires c) (range_with_len low (high - low))

-- the pairs of neighbours of a list that begins with a
abbrev pub pairs_from : ℕ → List ℕ → List Interval
pairs_from a [] = []
pairs_from a (b ∷ rest) = record { start = a; end = b } ∷ pairs_from b rest

-- the intervals between neighbouring ticks
abbrev pub neighbours : List ℕ → List Interval
neighbours [] = []
neighbours (a ∷ rest) = pairs_from a rest

-- a is not past the last date, where there is one
abbrev pub is_up_to : Option ℕ → ℕ → Bool
is_up_to None a = true
is_up_to (Some last) a = nat_le a last

-- the intervals of a timetable that are due at t: those that start from `first` on and not past `last`, and have ended
unfoldable pub due_intervals : Timetable → ℕ → Option ℕ → ℕ → List Interval
due_intervals (Cron c) first last t = filter (λ i. is_up_to last i.start) (neighbours (ticks_between c first (t + 1)))
due_intervals (Trigger c) first last t = filter (λ i. is_up_to last i.start) (map empty_at (ticks_between c first (t + 1)))
due_intervals Once first last t = filter (λ i. is_up_to last i.start && nat_le i.end t) (empty_at first ∷ [])
due_intervals Never first last t = []

-- the last element alone, or nothing
abbrev pub last_alone : {X : Type 0} → List X → List X
last_alone [] = []
last_alone (x ∷ []) = x ∷ []
last_alone (x ∷ y ∷ xs) = last_alone (y ∷ xs)

-- with catchup each due interval is considered, without it the latest alone
abbrev pub considered : Bool → List Interval → List Interval
considered true is = is
considered false is = last_alone is

-- those whose start is none of these dates
abbrev pub without_runs : List ℕ → List Interval → List Interval
without_runs dates is = filter (λ i. not (has_date dates i.start)) is

-- the intervals of a graph for which a run is wanted at t, where runs with these dates are there
abbrev pub wanted_intervals : GraphSpec → ℕ → List ℕ → List Interval
wanted_intervals g t dates = without_runs dates (considered g.catchup (due_intervals g.schedule g.start_date g.end_date t))

-- the first `limit` of a list, and whether there are more
pub record IsFirst (all : List Interval) (limit : ℕ) (intervals : List Interval) (more : Bool) : Type 0 where
  pub first : intervals ≡ take limit all
  pub others : more ≡ nat_lt limit (length all)

-- intervals by start, each start once
abbrev pub starts_rise : List Interval → Bool
starts_rise [] = true
starts_rise (i ∷ is) = list_all (λ (j : Interval). nat_lt i.start j.start) is && starts_rise is
