use Rattle.std.proofs.Common.{◌+◌, ◌≤◌, length, take}
use Rattle.sched_ready.specs.Patching.{HasAll}
use Rattle.sched_ready.proofs.filling.copied.Given as goal

abbrev pub invariant-loop-at : goal.invariant-loop-at
invariant-loop-at l = record {
  dates : HasAll (take l.at l.dates.keys) l.copy.keys;
  room : length l.dates.keys + l.more ≤ l.copy.room + l.at;
}
