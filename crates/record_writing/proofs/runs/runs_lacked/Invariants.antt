use Rattle.std.proofs.Common.{◌≡◌, take, flat_map}
use Rattle.sched_draft.proofs.run_lists.PickLemmas.{picked}
use Rattle.record_writing.proofs.TouchedLemmas.{run_lacked}
use Rattle.record_writing.proofs.runs.runs_lacked.Given as goal

abbrev pub invariant-loop-position : goal.invariant-loop-position
invariant-loop-position l = l.rows.items ≡ flat_map (run_lacked l.draft.base.runs) (picked l.draft.content.runs (take l.position-index l.touched))
