use Rattle.std.proofs.Common.{◌≡◌}
use Rattle.std.specs.Vec.Iter.{into_iter_items}
use Rattle.sched_ready.specs.Patched.{with_queues}
use Rattle.sched_ready.specs.Shelves.{ShelfValue}
use Rattle.sched_ready.proofs.PutLemmas.{put_from}
use Rattle.sched_ready.proofs.patches.put_queues.Given as goal

abbrev pub invariant-loop-queue : goal.invariant-loop-queue
invariant-loop-queue l = let s : ShelfValue = l.shelf in record s { queues = put_from l.place (into_iter_items l.queue-iterator) s.queues } ≡ with_queues l.fn.queues.items l.fn.shelf
