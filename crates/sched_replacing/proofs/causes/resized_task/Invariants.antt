use Rattle.std.proofs.Common.{◌≡◌}
use Rattle.sched_model.specs.Causes as model
use Rattle.sched_replacing.proofs.OwnLemmas.{resized_from}
use Rattle.sched_replacing.proofs.causes.resized_task.Given as goal

abbrev pub invariant-loop-position : goal.invariant-loop-position
invariant-loop-position l = resized_from l.draft.content l.new l.position ≡ model.resized_task l.draft.content l.new
