use Rattle.std.proofs.Common.{◌≡◌}
use Rattle.sched_replacing.specs.Marking.{first_tried}
use Rattle.sched_replacing.proofs.TriedLemmas.{tried_at}
use Rattle.sched_replacing.proofs.causes.first_tried.Given as goal

abbrev pub invariant-loop-place : goal.invariant-loop-place
invariant-loop-place l = tried_at l.marks l.instances l.place ≡ first_tried l.marks l.instances
