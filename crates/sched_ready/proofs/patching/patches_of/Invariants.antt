use Rattle.std.specs.Vec.Iter.{into_iter_items}
use Rattle.sched_ready.proofs.PatchingLemmas.{IsPatching}
use Rattle.sched_ready.proofs.patching.patches_of.Given as goal

abbrev pub invariant-loop-position : goal.invariant-loop-position
invariant-loop-position l = IsPatching l.draft.base l.draft.content l.shelves (into_iter_items l.position-iterator) l.patches.items
