use Rattle.std.proofs.Common.{◌≡◌, ◌++◌, List}
use Rattle.cron_timetable.specs.declared.timetables.Interval.{Interval}
use Rattle.run_planner.specs.Spans.{IsBackfill}
use Rattle.run_planner.specs.Walks.{due_from, left_from}
use Rattle.run_planner.proofs.spans.Backfill.walk.Given as goal

-- the intervals that are counted, and that those that start from `start` on are left
abbrev pub invariant-walk : goal.invariant-walk
invariant-walk l =
    (counted : List Interval)
    × (due_from l.timetable l.fn.from l.last l.now ≡ counted ++ due_from l.timetable l.start l.last l.now)
    × IsBackfill l.index.dates counted l.limit l.self

abbrev pub decreases-walk : goal.decreases-walk
decreases-walk l = left_from l.start
