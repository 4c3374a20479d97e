-- Minutes as intervals, for the check to compute.
use Rattle.std.specs.Prelude.{ℕ, ◌+◌, ◌-◌, ◌^◌, true, List, [], ◌∷◌}
use Rattle.graph_file.specs.declared.graph_specs.GraphSpec.{GraphSpec}
use Rattle.cron_timetable.specs.Fields.{Fields}
use Rattle.cron_timetable.specs.declared.timetables.Interval.{Interval}
use Rattle.cron_timetable.specs.declared.timetables.Timetable.TheVariants.{Cron}
use Rattle.sched_model.specs.Schedule.{no_dag}

-- the sets of `* * * * *`: minutes 0 to 59, hours 0 to 23, days 1 to 31, months 1 to 12, weekdays 0 to 6
abbrev pub each_minute : Fields
each_minute = record { minutes = 2 ^ 60 - 1; hours = 2 ^ 24 - 1; days = 2 ^ 32 - 2; months = 2 ^ 13 - 2; weekdays = 2 ^ 7 - 1 }

abbrev pub minute : ℕ → Interval
minute a = record { start = a; end = a + 60 }

abbrev pub three_minutes : List Interval
three_minutes = minute 60 ∷ minute 120 ∷ minute 180 ∷ []

abbrev pub minutely : GraphSpec
minutely = record (no_dag.spec) { schedule = Cron each_minute; catchup = true }
