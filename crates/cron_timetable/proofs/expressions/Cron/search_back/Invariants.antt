use Rattle.std.proofs.Common.{◌≡◌, ◌+◌, ◌%◌, ◌≤◌}
use Rattle.cron_timetable.specs.Ticks.{NoneBetween}
use Rattle.cron_timetable.proofs.expressions.Cron.search_back.Given as goal

abbrev pub invariant-loop-end : goal.invariant-loop-end
invariant-loop-end l = record {
  whole : l.end % 60 ≡ 0;
  within : l.end ≤ l.fn.from + 59;
  in_range : l.end ≤ 7258118400;
  none : NoneBetween l.self l.end l.fn.from;
  counted : l.turns + l.end ≤ 7258118400;
}

abbrev pub decreases-loop-end : goal.decreases-loop-end
decreases-loop-end l = l.end
