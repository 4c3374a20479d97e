use Rattle.std.proofs.Common.{◌≡◌, ◌≤◌, drop, length}
use Rattle.sched_settling.specs.Touched.{near_marks}
use Rattle.sched_settling.proofs.marking.marks_from.Given as goal

abbrev pub invariant-loop-index : goal.invariant-loop-index
invariant-loop-index l = record {
  inside : l.index ≤ length l.touched;
  marks : l.marks.items ≡ near_marks l.count (drop l.index l.touched);
}

abbrev pub decreases-loop-index : goal.decreases-loop-index
decreases-loop-index l = l.index
