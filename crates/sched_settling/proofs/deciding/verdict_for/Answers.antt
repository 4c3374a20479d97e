use Rattle.std.proofs.Common.{◌≡◌, ◌∙◌, ap, ℕ, map, List, refl, true, false}
use Rattle.graph_file.specs.declared.task_specs.TaskSpec.{TaskSpec}
use Rattle.dag_check.specs.Graphs.{Dag, ups, task_of}
use Rattle.trigger_rules.specs.Rules.{rule_verdict}
use Rattle.trigger_rules.specs.declared.states.State.{State}
use Rattle.trigger_rules.specs.declared.verdicts.Verdict.TheVariants as verdict
use Rattle.sched_state.specs.declared.runs.Run.{Run}
use Rattle.sched_model.specs.Schedule.{Schedule}
use Rattle.sched_model.specs.States.{past_is_open}
use Rattle.sched_settling.specs.States.{state_in}
use Rattle.sched_settling.proofs.DecideLemmas.{verdict_is}
use Rattle.sched_settling.proofs.deciding.verdict_for.Goals as goal

pub returns-in-Wait-clause-verdict : goal.returns-in-Wait-clause-verdict
returns-in-Wait-clause-verdict c =
    let a : Schedule = c.args.draft.now.content in
    let r : Run = c.args.run.now in
    let g : Dag = c.args.dag.now in
    let p : ℕ = c.args.place in
    let t : TaskSpec = task_of g p in
    let seen : List State = map (state_in g r) (ups g p) in
    let rule : verdict.Wait ≡ rule_verdict t.trigger_rule seen =
    c.in-Wait.ensures seen c.upstream_counts-counts.ensures ∙ ap (λ (k : TaskSpec). rule_verdict k.trigger_rule seen) c.task.ensures in
    verdict_is a r g t p verdict.Wait (past_is_open a r t p) c.requires.graph rule refl

pub returns-then-past_is_open-clause-verdict : goal.returns-then-past_is_open-clause-verdict
returns-then-past_is_open-clause-verdict c =
    let a : Schedule = c.args.draft.now.content in
    let r : Run = c.args.run.now in
    let g : Dag = c.args.dag.now in
    let p : ℕ = c.args.place in
    let t : TaskSpec = task_of g p in
    let seen : List State = map (state_in g r) (ups g p) in
    let rule : verdict.Run ≡ rule_verdict t.trigger_rule seen =
    c.in-Run.ensures seen c.upstream_counts-counts.ensures ∙ ap (λ (k : TaskSpec). rule_verdict k.trigger_rule seen) c.task.ensures in
    verdict_is a r g t p verdict.Run true c.requires.graph rule c.if-past_is_open.ensures

pub returns-else-past_is_open-clause-verdict : goal.returns-else-past_is_open-clause-verdict
returns-else-past_is_open-clause-verdict c =
    let a : Schedule = c.args.draft.now.content in
    let r : Run = c.args.run.now in
    let g : Dag = c.args.dag.now in
    let p : ℕ = c.args.place in
    let t : TaskSpec = task_of g p in
    let seen : List State = map (state_in g r) (ups g p) in
    let rule : verdict.Run ≡ rule_verdict t.trigger_rule seen =
    c.in-Run.ensures seen c.upstream_counts-counts.ensures ∙ ap (λ (k : TaskSpec). rule_verdict k.trigger_rule seen) c.task.ensures in
    verdict_is a r g t p verdict.Run false c.requires.graph rule c.if-past_is_open.ensures

pub returns-in-Skip-clause-verdict : goal.returns-in-Skip-clause-verdict
returns-in-Skip-clause-verdict c =
    let a : Schedule = c.args.draft.now.content in
    let r : Run = c.args.run.now in
    let g : Dag = c.args.dag.now in
    let p : ℕ = c.args.place in
    let t : TaskSpec = task_of g p in
    let seen : List State = map (state_in g r) (ups g p) in
    let rule : verdict.Skip ≡ rule_verdict t.trigger_rule seen =
    c.in-Skip.ensures seen c.upstream_counts-counts.ensures ∙ ap (λ (k : TaskSpec). rule_verdict k.trigger_rule seen) c.task.ensures in
    verdict_is a r g t p verdict.Skip (past_is_open a r t p) c.requires.graph rule refl

pub returns-in-UpstreamFailed-clause-verdict : goal.returns-in-UpstreamFailed-clause-verdict
returns-in-UpstreamFailed-clause-verdict c =
    let a : Schedule = c.args.draft.now.content in
    let r : Run = c.args.run.now in
    let g : Dag = c.args.dag.now in
    let p : ℕ = c.args.place in
    let t : TaskSpec = task_of g p in
    let seen : List State = map (state_in g r) (ups g p) in
    let rule : verdict.UpstreamFailed ≡ rule_verdict t.trigger_rule seen =
    c.in-UpstreamFailed.ensures seen c.upstream_counts-counts.ensures ∙ ap (λ (k : TaskSpec). rule_verdict k.trigger_rule seen) c.task.ensures in
    verdict_is a r g t p verdict.UpstreamFailed (past_is_open a r t p) c.requires.graph rule refl
