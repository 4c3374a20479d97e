use Rattle.sched_ready.proofs.PlacesLemmas.{AreFirstTo}
use Rattle.sched_ready.proofs.patching.moved_patches.Given as goal

abbrev pub invariant-loop-graph : goal.invariant-loop-graph
invariant-loop-graph l = AreFirstTo l.graph l.now l.shelves l.patches.items
