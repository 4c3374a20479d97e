use Rattle.std.proofs.Common.{◌≡◌, length}
use Rattle.sched_ready.specs.Patching.{AreNone}
use Rattle.sched_ready.proofs.places.no_queues.Given as goal

abbrev pub invariant-loop-place : goal.invariant-loop-place
invariant-loop-place l = record {
  long : length l.queues.items ≡ l._place;
  none : AreNone l.queues.items;
}
