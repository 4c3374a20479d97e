use Rattle.std.proofs.Common.{◌≡◌, vec_capacity}
use Rattle.std.specs.Vec.Iter.{into_iter_items}
use Rattle.sched_ready.specs.Patched.{patched}
use Rattle.sched_ready.proofs.patches.put_all.Given as goal

abbrev pub invariant-loop-patch : goal.invariant-loop-patch
invariant-loop-patch l = record {
  shelves : patched (into_iter_items l.patch-iterator) l.shelves.items ≡ patched l.fn.patches.items l.fn.shelves.items;
  places : vec_capacity l.shelves ≡ vec_capacity l.fn.shelves;
}
