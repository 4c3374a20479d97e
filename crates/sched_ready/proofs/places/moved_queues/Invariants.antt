use Rattle.sched_ready.proofs.PlacesLemmas.{AreMovedTo}
use Rattle.sched_ready.proofs.places.moved_queues.Given as goal

abbrev pub invariant-loop-place : goal.invariant-loop-place
invariant-loop-place l = AreMovedTo l.place l.now l.shelf.queues l.queues.items
