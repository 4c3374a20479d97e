use Rattle.std.proofs.Common.{◌≡◌}
use Rattle.sched_draft.specs.Drafts.{IsOwn}
use Rattle.sched_core.proofs.LoseLemmas.{lost_in}
use Rattle.sched_core.proofs.losing.lose_in.Given as goal

abbrev pub invariant-loop-place : goal.invariant-loop-place
invariant-loop-place l = record {
  base : l.draft.base ≡ l.initial.draft.base;
  own : IsOwn l.position l.draft;
  content : l.draft.content ≡ lost_in l.position l.place l.initial.draft.content;
}
