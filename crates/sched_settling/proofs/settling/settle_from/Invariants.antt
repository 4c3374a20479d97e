use Rattle.sched_model.specs.Settle.{moves_left}
use Rattle.std.proofs.Common.{◌≡◌}
use Rattle.sched_settling.specs.Marks.{AreLines}
use Rattle.sched_settling.proofs.StageLemmas.{IsStaged}
use Rattle.sched_settling.proofs.settling.settle_from.Given as goal

abbrev pub invariant-loop-position : goal.invariant-loop-position
invariant-loop-position l = record { base : l.draft.base ≡ l.fn.draft.base; staged : IsStaged l.fn.draft.content l.draft.content; lines : AreLines l.lines.items l.draft.content }

abbrev pub decreases-loop-position : goal.decreases-loop-position
decreases-loop-position l = moves_left l.draft.content
