-- Runs without what becomes of them.
use Rattle.std.specs.Prelude.{List, map}
use Rattle.sched_model.specs.sched_state.declared.runs.Run.{Run}
use Rattle.sched_model.specs.NamedRuns.{NamedRun}
use Rattle.sched_model.specs.Schedule.{Schedule}

-- a run as it was named: its graph, its logical date, its interval, and how it came to be
abbrev pub named_as : Run → NamedRun
named_as r = record { graph = r.graph; logical = r.logical; interval = r.interval; kind = r.kind }

-- all runs of a schedule so, in their order
abbrev pub runs_named : Schedule → List NamedRun
runs_named a = map named_as a.runs
