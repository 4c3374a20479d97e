use Rattle.std.proofs.Common.{◌≡◌, ◌∙◌, sym, ap, subst, true, Some}
use Rattle.sched_state.specs.declared.runs.Run.{Run}
use Rattle.sched_model.specs.Schedule.{Schedule}
use Rattle.sched_model.specs.States.{previous}
use Rattle.explain.specs.Subjects.{SubjectValue}
use Rattle.explain.proofs.GraphLemmas.{past_some}
use Rattle.explain.proofs.graph_reasons.past.Goals as goal

pub returns : goal.returns
returns c =
    let a : Schedule = c.args.schedule.now.content in
    let s : SubjectValue = c.args.subject.now in
    let b : Run = c.in_ok-previous_run.field-0.now in
    let before : previous a s.run ≡ Some b =
    sym (c.in_ok-previous_run.ensures ∙ ap (λ (x : SubjectValue). previous a x.run) c.subject.view_is) in
    let looks : s.task.depends_on_past ≡ true = subst (λ (x : SubjectValue). x.task.depends_on_past ≡ true) c.subject.view_is c.if-not-task.false in
    c.past_in.ensures ∙ past_some a s c.requires b before (sym c.if-not-is_undecided.ensures) looks
