use Rattle.std.proofs.Common.{◌≡◌}
use Rattle.sched_settling.specs.Marks.{AreLines, ids_of}
use Rattle.sched_settling.proofs.LineLemmas.{NoneIn}
use Rattle.sched_settling.proofs.starting.start_first.Given as goal

abbrev pub invariant-loop-place : goal.invariant-loop-place
invariant-loop-place l = record {
  same : l.draft.content ≡ l.fn.draft.content;
  base : l.draft.base ≡ l.fn.draft.base;
  lines : AreLines l.lines.items l.fn.draft.content;
  ids : ids_of l.lines.items ≡ ids_of l.fn.lines.items;
  none : NoneIn l.fn.draft.content (ids_of l.fn.lines.items) l.place;
}
