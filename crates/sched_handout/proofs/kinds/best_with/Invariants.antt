use Rattle.std.proofs.Common.{◌||◌}
use Rattle.sched_handout.specs.Shelving.{IsBestOf, stands_on_first, stands_there}
use Rattle.sched_handout.proofs.kinds.best_with.Given as goal

abbrev pub invariant-loop-graph : goal.invariant-loop-graph
invariant-loop-graph l = IsBestOf (λ x. stands_there l.draft.content.now l.draft.content.graphs l.shelves l.looked_at x || stands_on_first l.draft.content.now l.draft.content.graphs l.shelves l.graph x) l.draft.content l.best
