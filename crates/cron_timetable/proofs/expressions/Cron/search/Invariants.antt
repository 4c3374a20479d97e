use Rattle.std.proofs.Common.{◌-◌, ◌≡◌, ◌%◌, ◌≤◌}
use Rattle.cron_timetable.specs.Ticks.{NoneBetween}
use Rattle.cron_timetable.proofs.expressions.Cron.search.Given as goal

abbrev pub invariant-loop-secs : goal.invariant-loop-secs
invariant-loop-secs l = record {
  whole : l.secs % 60 ≡ 0;
  from : l.fn.from ≤ l.secs;
  none : NoneBetween l.self l.fn.from l.secs;
  counted : l.turns ≤ l.secs;
}

abbrev pub decreases-loop-secs : goal.decreases-loop-secs
decreases-loop-secs l = 7258118400 - l.secs
