use Rattle.std.proofs.Common.{◌≡◌, max}
use Rattle.sched_model.specs.Causes as model
use Rattle.sched_replacing.proofs.OwnLemmas.{end_from}
use Rattle.sched_replacing.proofs.causes.reached.Given as goal

abbrev pub invariant-loop-position : goal.invariant-loop-position
invariant-loop-position l = max l.reached (end_from l.graph l.draft.content.runs l.position) ≡ model.reached l.draft.content l.graph
