use Rattle.std.proofs.Common.{◌≡◌, length, vec_items, All}
use Rattle.graph_file.specs.declared.operators.Operator.TheVariants as kinds
use Rattle.script_runner.specs.TaskOperators.{IsFresh, kind_of, runs_of, refused_by, taken_by}
use Rattle.script_runner.specs.Teams.{IsWhole}
use Rattle.script_runner.proofs.task_operators.operators_for.Given as goal

abbrev pub invariant-loop-worker : goal.invariant-loop-worker
invariant-loop-worker g l = record {
  workers : length (vec_items l.team) ≡ l._worker;
  whole : All (λ w. IsWhole (kind_of (λ _. kinds.Command)) w.0.items) (vec_items l.team);
  fresh : All (λ w. All (IsFresh (runs_of (λ o. o.progress.runs)) (refused_by (λ o. o.progress.refused)) (taken_by (λ o. o.progress.taken))) w.0.items) (vec_items l.team);
}
