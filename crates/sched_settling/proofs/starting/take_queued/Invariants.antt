use Rattle.std.proofs.Common.{◌≡◌}
use Rattle.sched_settling.specs.Marks.{IsQueue, dates_left}
use Rattle.sched_settling.proofs.starting.take_queued.Given as goal

abbrev pub invariant-loop-date : goal.invariant-loop-date
invariant-loop-date l = record {
  queue : IsQueue l.draft.content l.fn.line.id.now l.line;
  id : l.line.id.now ≡ l.fn.line.id.now;
  active : l.line.active ≡ l.fn.line.active;
}

abbrev pub decreases-loop-date : goal.decreases-loop-date
decreases-loop-date l = dates_left l.line
