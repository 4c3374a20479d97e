use Rattle.std.proofs.Common.{◌≡◌, true, take}
use Rattle.sched_model.specs.Lists.{rises}
use Rattle.sched_settling.specs.Marks.{id_before, ids_of}
use Rattle.sched_settling.specs.Touched.{AreFresh, HaveLinesOf, over_runs, runs_at}
use Rattle.sched_settling.proofs.counting.lines_at.Given as goal

abbrev pub invariant-loop-position : goal.invariant-loop-position
invariant-loop-position l = record {
  rising : rises id_before (ids_of l.lines.items) ≡ true;
  fresh : AreFresh (over_runs l.draft.content l.draft.base.runs) l.lines.items;
  these : HaveLinesOf l.draft.content (runs_at l.draft.content.runs (take l.position-index l.positions)) l.lines.items;
}
