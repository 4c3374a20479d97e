use Rattle.std.proofs.Common.{◌≡◌}
use Rattle.sched_replacing.proofs.FitLemmas.{refitted_to}
use Rattle.sched_replacing.proofs.fitting.refit.Given as goal

abbrev pub invariant-loop-position : goal.invariant-loop-position
invariant-loop-position l = record {
  base : l.draft.base ≡ l.initial.draft.base;
  content : l.draft.content ≡ refitted_to l.old l.new l.position l.initial.draft.content;
}
