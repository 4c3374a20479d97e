use Rattle.std.proofs.Common.{rules, All}
use Rattle.std.proofs.lemmas.List.Elements.{All-push, All-same}
use Rattle.graph_file.specs.declared.operators.Operator.TheVariants as kinds
use Rattle.script_runner.specs.TaskOperators.{IsFresh, kind_of, runs_of, refused_by, taken_by}
use Rattle.script_runner.specs.Teams.{IsWhole}
use Rattle.script_runner.proofs.task_operators.operators_for.Goals as goal

pub loop-worker-preserved : goal.loop-worker-preserved
loop-worker-preserved g c =
    let grown = c.in_ok-push.ensures.items in
    let was = c.loop-worker.invariant in
    let here = c.in_ok-three_operators.ensures in
    record {
      workers = search rules;
      whole = All-same (λ w. IsWhole (kind_of (λ _. kinds.Command)) w.0.items) _ _ grown (All-push (λ w. IsWhole (kind_of (λ _. kinds.Command)) w.0.items) _ _ was.whole here.whole);
      fresh = All-same (λ w. All (IsFresh (runs_of (λ o. o.progress.runs)) (refused_by (λ o. o.progress.refused)) (taken_by (λ o. o.progress.taken))) w.0.items) _ _ grown
          (All-push (λ w. All (IsFresh (runs_of (λ o. o.progress.runs)) (refused_by (λ o. o.progress.refused)) (taken_by (λ o. o.progress.taken))) w.0.items) _ _ was.fresh here.fresh);
    }
