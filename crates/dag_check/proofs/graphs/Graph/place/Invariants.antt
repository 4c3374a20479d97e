use Rattle.std.proofs.Common.{◌≡◌, ◌<◌, ℕ, false, get_or}
use Rattle.dag_check.specs.Names.{same}
use Rattle.dag_check.specs.Graphs.{no_task}
use Rattle.dag_check.specs.Layouts.{dag_inside}
use Rattle.dag_check.proofs.graphs.Graph.place.Given as goal

abbrev pub invariant-loop-place : goal.invariant-loop-place
invariant-loop-place l = (j : ℕ) → j < l.place → same (get_or (dag_inside l.self-inside).tasks j no_task).task_id l.name ≡ false
