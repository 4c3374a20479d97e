use Rattle.std.specs.Option.{option_copied}
use Rattle.sched_ready.proofs.PlacesLemmas.{ArePatchedTo}
use Rattle.sched_ready.proofs.places.patch_places.Given as goal

abbrev pub invariant-loop-place : goal.invariant-loop-place
invariant-loop-place l = ArePatchedTo l.place l.now l.dag l.shelf (option_copied l.before) l.run l.fn.queues.items l.queues.items
