use Rattle.sched_ready.specs.Kinds.{AreKinds}
use Rattle.sched_ready.proofs.making.kinds_of.Given as goal

abbrev pub invariant-loop-place : goal.invariant-loop-place
invariant-loop-place l = AreKinds l.dag l.place l.kinds.items l.samples.items
