use Rattle.std.proofs.lemmas.List.Elements.{All-nil, All-push, All-same}
use Rattle.script_runner.specs.TaskOperators.{IsFresh, runs_of, refused_by, taken_by}
use Rattle.script_runner.proofs.task_operators.three_operators.Goals as goal

pub returns-clause-fresh : goal.returns-clause-fresh
returns-clause-fresh g c =
    let noop = c.new-noop.ensures in
    let exit = c.new-exit.ensures in
    let command = c.new-command.ensures in
    let none = All-same (IsFresh (runs_of (λ o. o.progress.runs)) (refused_by (λ o. o.progress.refused)) (taken_by (λ o. o.progress.taken))) _ _ c.new-operators.ensures.items (All-nil (IsFresh (runs_of (λ o. o.progress.runs)) (refused_by (λ o. o.progress.refused)) (taken_by (λ o. o.progress.taken)))) in
    let one = All-same (IsFresh (runs_of (λ o. o.progress.runs)) (refused_by (λ o. o.progress.refused)) (taken_by (λ o. o.progress.taken))) _ _ c.in_ok-push.ensures.items (All-push (IsFresh (runs_of (λ o. o.progress.runs)) (refused_by (λ o. o.progress.refused)) (taken_by (λ o. o.progress.taken))) _ _ none (noop.runs, noop.refused, noop.taken.0)) in
    let two = All-same (IsFresh (runs_of (λ o. o.progress.runs)) (refused_by (λ o. o.progress.refused)) (taken_by (λ o. o.progress.taken))) _ _ c.in_ok-push-2.ensures.items (All-push (IsFresh (runs_of (λ o. o.progress.runs)) (refused_by (λ o. o.progress.refused)) (taken_by (λ o. o.progress.taken))) _ _ one (exit.runs, exit.refused, exit.taken.0)) in
    All-same (IsFresh (runs_of (λ o. o.progress.runs)) (refused_by (λ o. o.progress.refused)) (taken_by (λ o. o.progress.taken))) _ _ c.in_ok-push-3.ensures.items (All-push (IsFresh (runs_of (λ o. o.progress.runs)) (refused_by (λ o. o.progress.refused)) (taken_by (λ o. o.progress.taken))) _ _ two (command.runs, command.refused, command.taken.0))
