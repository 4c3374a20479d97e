use Rattle.std.proofs.Common.{◌≡◌, drop}
use Rattle.sched_settling.proofs.PhaseLemmas.{IsEnding}
use Rattle.sched_settling.proofs.ending.end_marked.Given as goal

abbrev pub invariant-loop-position : goal.invariant-loop-position
invariant-loop-position l = record {
  ending : IsEnding l.fn.draft.content l.draft.content (drop l.position-index l.marks) l.lines.items;
  base : l.draft.base ≡ l.fn.draft.base;
}
