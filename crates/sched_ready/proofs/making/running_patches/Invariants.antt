use Rattle.std.proofs.Common.{[]}
use Rattle.std.specs.Vec.Iter.{into_iter_items}
use Rattle.sched_model.specs.Schedule.{Schedule}
use Rattle.sched_ready.proofs.PatchingLemmas.{IsPatching}
use Rattle.sched_ready.proofs.making.running_patches.Given as goal

abbrev pub invariant-loop-position : goal.invariant-loop-position
invariant-loop-position l = let a : Schedule = l.draft.content in IsPatching (record a { runs = [] }) a l.shelves (into_iter_items l.position-iterator) l.patches.items
