use Rattle.sched_ready.proofs.MakingLemmas.{AreEmptyTo}
use Rattle.sched_ready.proofs.making.empty_shelves.Given as goal

abbrev pub invariant-loop-graph : goal.invariant-loop-graph
invariant-loop-graph l = AreEmptyTo l.graph l.draft.content.graphs l.shelves.items
