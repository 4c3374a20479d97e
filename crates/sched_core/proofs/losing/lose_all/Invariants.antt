use Rattle.std.proofs.Common.{◌≡◌}
use Rattle.sched_core.proofs.LoseLemmas.{lost_to}
use Rattle.sched_core.proofs.losing.lose_all.Given as goal

abbrev pub invariant-loop-position : goal.invariant-loop-position
invariant-loop-position l = record {
  base : l.draft.base ≡ l.initial.draft.base;
  content : l.draft.content ≡ lost_to l.position l.initial.draft.content;
}
