use Rattle.std.proofs.Common.{◌≡◌, ◌∙◌, sym, subst, map}
use Rattle.dag_check.specs.Graphs.{ups}
use Rattle.trigger_rules.specs.Rules.{rule_verdict}
use Rattle.trigger_rules.specs.declared.verdicts.Verdict.{Verdict}
use Rattle.trigger_rules.specs.declared.verdicts.Verdict.TheVariants as verdict
use Rattle.sched_settling.specs.States.{state_in}
use Rattle.explain.specs.Subjects.{SubjectValue}
use Rattle.explain.proofs.GraphLemmas.{not_wait, waits_is}
use Rattle.explain.proofs.graph_reasons.rule_waits.Goals as goal

pub returns-in-Wait : goal.returns-in-Wait
returns-in-Wait c =
    let rule = subst (λ (s : SubjectValue). verdict.Wait ≡ rule_verdict s.task.trigger_rule (map (state_in s.graph.dag s.run) (ups s.graph.dag s.place))) c.subject.view_is (c.in-Wait.ensures _ c.upstream_counts-counts.ensures) in
    waits_is c.args.schedule.now.content c.args.subject.now c.requires verdict.Wait rule (sym c.if-not-is_undecided.ensures)

pub returns-in_default : goal.returns-in_default
returns-in_default c =
    let v : Verdict = c.verdict_of.result in
    let rule = subst (λ (s : SubjectValue). v ≡ rule_verdict s.task.trigger_rule (map (state_in s.graph.dag s.run) (ups s.graph.dag s.place))) c.subject.view_is (c.verdict_of.ensures _ c.upstream_counts-counts.ensures) in
    not_wait v c.in_default.not-Wait ∙ waits_is c.args.schedule.now.content c.args.subject.now c.requires v rule (sym c.if-not-is_undecided.ensures)
