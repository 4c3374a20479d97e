-- The runs that another text of a graph would make beside those that are there: this project's own profile.
use Rattle.std.specs.Prelude.{ℕ, List}
use Rattle.cron_timetable.specs.declared.timetables.Interval.{Interval}
use Rattle.graph_file.specs.declared.graph_specs.GraphSpec.{GraphSpec}
use Rattle.run_planner.specs.Due.{wanted_intervals, without_runs}
use Rattle.run_planner.specs.Spans.{starts}

-- the intervals for which a run is wanted at t by the new text of a graph and by the old one not, where runs with these dates are there
abbrev pub wanted_anew : GraphSpec → GraphSpec → ℕ → List ℕ → List Interval
wanted_anew old new t dates = without_runs (starts (wanted_intervals old t dates)) (wanted_intervals new t dates)
