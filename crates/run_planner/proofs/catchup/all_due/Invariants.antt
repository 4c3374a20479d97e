use Rattle.std.proofs.Common.{◌≡◌, ◌≤◌, ◌++◌, length}
use Rattle.run_planner.specs.Due.{due_intervals, without_runs}
use Rattle.run_planner.specs.Walks.{due_from, left_from}
use Rattle.run_planner.proofs.catchup.all_due.Given as goal

abbrev pub invariant-walk : goal.invariant-walk
invariant-walk l = record {
  split : without_runs l.index.dates (due_intervals l.graph.schedule l.graph.start_date l.graph.end_date l.fn.now) ≡ l.intervals.items ++ without_runs l.index.dates (due_from l.graph.schedule l.from l.graph.end_date l.fn.now);
  few : length l.intervals.items ≤ l.limit;
}

abbrev pub decreases-walk : goal.decreases-walk
decreases-walk l = left_from l.from
