use Rattle.std.proofs.Common.{◌≡◌, length}
use Rattle.sched_settling.proofs.MarkLemmas.{IsDeciding, left_of}
use Rattle.sched_settling.proofs.deciding.decide_marked.Given as goal

abbrev pub invariant-loop-position : goal.invariant-loop-position
invariant-loop-position l = record {
  deciding : IsDeciding l.fn.draft.content l.draft.content l.marks.items l.seen.items;
  base : l.draft.base ≡ l.fn.draft.base;
}

abbrev pub decreases-loop-position : goal.decreases-loop-position
decreases-loop-position l = left_of (length l.draft.content.runs) l.marks.items
