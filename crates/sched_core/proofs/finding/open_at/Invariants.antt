use Rattle.std.proofs.Common.{◌≡◌, ◌&&◌, ◌==◌, find, flat_map, take, None}
use Rattle.sched_model.specs.States.{is_open}
use Rattle.sched_settling.specs.Touched.{runs_at}
use Rattle.sched_core.specs.Finding.{tries_in}
use Rattle.sched_core.proofs.finding.open_at.Given as goal

abbrev pub invariant-loop-position : goal.invariant-loop-position
invariant-loop-position l = find (λ t. is_open t && t.serial == l.serial) (flat_map tries_in (runs_at l.runs.runs (take l.position-index l.positions))) ≡ None
