use Rattle.std.proofs.Common.{◌-◌}
use Rattle.moment_core.specs.Moments.{seconds_end}
use Rattle.run_planner.specs.Walks.{HasPassed}
use Rattle.run_planner.proofs.run_index.RunIndex.first_open.Given as goal

abbrev pub invariant-walk : goal.invariant-walk
invariant-walk l = HasPassed l.self.dates l.graph.schedule l.graph.start_date l.cursor

abbrev pub decreases-walk : goal.decreases-walk
decreases-walk l = seconds_end - l.cursor
