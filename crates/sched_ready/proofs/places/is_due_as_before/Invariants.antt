use Rattle.std.specs.Option.{option_copied}
use Rattle.sched_ready.proofs.PlacesLemmas.{IsDueTo}
use Rattle.sched_ready.proofs.places.is_due_as_before.Given as goal

abbrev pub invariant-loop-place : goal.invariant-loop-place
invariant-loop-place l = IsDueTo l.place l.dag (option_copied l.before) l.run
