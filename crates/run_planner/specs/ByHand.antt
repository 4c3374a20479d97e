-- The run that a user asks for by hand: Airflow 2's page 'DAG Runs', on external triggers.
use Rattle.std.specs.Prelude.{ℕ, true, false, List, [], ◌∷◌, None, Result, Ok, Err}
use Rattle.cron_timetable.specs.Intervals.{empty_at}
use Rattle.cron_timetable.specs.declared.timetables.Interval.{Interval}
use Rattle.cron_timetable.specs.declared.timetables.Timetable.{Timetable}
use Rattle.cron_timetable.specs.declared.timetables.Timetable.TheVariants.{Cron, Trigger, Once, Never}
use Rattle.graph_file.specs.declared.graph_specs.GraphSpec.{GraphSpec}
use Rattle.run_planner.specs.Index.{has_date}
use Rattle.run_planner.specs.Due.{due_intervals, last_alone}
use Rattle.run_planner.specs.declared.by_hand.PlanFault.{PlanFault}
use Rattle.run_planner.specs.declared.by_hand.PlanFault.TheVariants.{RunExists, NoInterval}

-- the interval of a run by hand at t, if there is one: of a cron expression the latest that has ended, whatever the dates of the
-- graph, and else the empty one at t
abbrev pub manual_intervals : Timetable → ℕ → List Interval
manual_intervals (Cron c) t = last_alone (due_intervals (Cron c) 0 None t)
manual_intervals (Trigger c) t = empty_at t ∷ []
manual_intervals Once t = empty_at t ∷ []
manual_intervals Never t = empty_at t ∷ []

-- the first of some intervals, or that there is none
abbrev pub the_interval : List Interval → Result Interval PlanFault
the_interval [] = Err NoInterval
the_interval (i ∷ is) = Ok i

-- the interval of a run by hand at t, beside runs with these dates, or why there can be none: its logical date is t
abbrev pub by_hand : GraphSpec → ℕ → List ℕ → Result Interval PlanFault
by_hand g t dates = elim (has_date dates t) [ true ↦ Err RunExists | false ↦ the_interval (manual_intervals g.schedule t) ]
