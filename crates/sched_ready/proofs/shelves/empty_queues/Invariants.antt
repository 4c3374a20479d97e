use Rattle.std.proofs.Common.{◌≡◌, length}
use Rattle.sched_ready.specs.Shelves.{AreEmpty}
use Rattle.sched_ready.proofs.shelves.empty_queues.Given as goal

abbrev pub invariant-loop-place : goal.invariant-loop-place
invariant-loop-place l = record {
  long : length l.queues.items ≡ l._place;
  empty : AreEmpty l.queues.items;
}
