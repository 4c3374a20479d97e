use Rattle.std.proofs.Common.{◌≡◌, ◌∙◌, ap, subst, sym, ℕ, List, []}
use Rattle.std.proofs.lemmas.Result.{err_from_is_err_and}
use Rattle.sched_model.specs.Marking.{mark}
use Rattle.sched_model.specs.Schedule.{Schedule}
use Rattle.sched_model.specs.States.{open_tries}
use Rattle.sched_draft.specs.Drafts.{DraftValue}
use Rattle.sched_laws.proofs.MarkLemmas.{mark_open}
use Rattle.sched_laws.proofs.OccupyingLemmas.{open_added}
use Rattle.sched_events.specs.Outcomes.{IsRefusal}
use Rattle.sched_events.specs.SettledAndSound.{IsSoundAndSaid}
use Rattle.sched_events.specs.declared.events.Event.TheVariants.{Mark}
use Rattle.sched_core.specs.Changes.{ScheduleValue}
use Rattle.sched_core.proofs.MarkLemmas.{mark_draft, mark_refused}
use Rattle.sched_core.proofs.PlanLemmas.{IsDraftOf, draft_sound, draft_kept, draft_planned}
use Rattle.sched_core.proofs.schedules.Schedule.plan_mark.Goals.{In_ok-pass_over}
use Rattle.sched_core.proofs.schedules.Schedule.plan_mark.Goals as goal

pub returns-in_err-pass_over-clause-refused : goal.returns-in_err-pass_over-clause-refused
returns-in_err-pass_over-clause-refused c =
    let a : Schedule = c.args.self.now.content in
    let id : List ℕ = c.args.graph.now in
    let task : List ℕ = c.args.task.now in
    let waits : IsRefusal a (Mark id c.args.logical task) c.in_err-pass_over.field-0.0 =
    mark_refused a c.draft-draft.result.content id c.args.logical task c.pass_over.new.draft.content c.in_err-pass_over.field-0.0 (ap (λ (v : DraftValue). v.content) c.draft-draft.ensures) c.in_err-pass_over.ensures.marked in
    let shown = err_from_is_err_and c.from_residual.result c.from_residual.ensures.1 in
    rw shown.1 (subst (IsRefusal a (Mark id c.args.logical task)) (sym shown.2) waits)

drafted : (c : In_ok-pass_over) → IsDraftOf (Mark c.args.graph.now c.args.logical c.args.task.now) c.args.self.now.content c.pass_over.new.draft.content
drafted c =
    mark_draft c.args.self.now.content c.draft-draft.result.content c.pass_over.new.draft.content c.args.graph.now c.args.logical c.args.task.now
    (subst (λ (s : ScheduleValue). IsSoundAndSaid s.content) c.self.view_is c.self.invariant.held.kept) (ap (λ (v : DraftValue). v.content) c.draft-draft.ensures) c.in_ok-pass_over.ensures.marked

pub finish-requires-clause-based : goal.finish-requires-clause-based
finish-requires-clause-based c = c.in_ok-pass_over.ensures.base ∙ ap (λ (v : DraftValue). v.base) c.draft-draft.ensures

pub finish-requires-clause-over : goal.finish-requires-clause-over
finish-requires-clause-over c = record {
  limits = ap (λ (s : Schedule). s.limits) c.in_ok-pass_over.ensures.marked.1 ∙ ap (λ (v : DraftValue). v.content.limits) c.draft-draft.ensures;
  graphs = ap (λ (s : Schedule). s.graphs) c.in_ok-pass_over.ensures.marked.1 ∙ ap (λ (v : DraftValue). v.content.graphs) c.draft-draft.ensures;
}

pub finish-requires-clause-sound : goal.finish-requires-clause-sound
finish-requires-clause-sound c = draft_sound (drafted (goal.at.finish-requires-clause-sound c).In_ok-pass_over)

pub finish-requires-clause-kept : goal.finish-requires-clause-kept
finish-requires-clause-kept c = draft_kept (drafted (goal.at.finish-requires-clause-kept c).In_ok-pass_over)

pub finish-requires-clause-pools : goal.finish-requires-clause-pools
finish-requires-clause-pools c = ap (λ (s : Schedule). s.pools) (drafted (goal.at.finish-requires-clause-pools c).In_ok-pass_over).is

pub finish-requires-clause-open : goal.finish-requires-clause-open
finish-requires-clause-open c =
    let a : Schedule = c.args.self.now.content in
    let id : List ℕ = c.args.graph.now in
    let task : List ℕ = c.args.task.now in
    ap (λ (s : Schedule). open_tries s) (drafted (goal.at.finish-requires-clause-open c).In_ok-pass_over).is ∙ (open_added [] (mark id c.args.logical task a) ∙ mark_open id c.args.logical task a)

pub returns-clause-accepted : goal.returns-clause-accepted
returns-clause-accepted c =
    draft_planned _ c.in_ok-finish.field-0 (drafted (goal.at.returns-clause-accepted c).In_ok-pass_over) c.quiet_answer.ensures c.in_ok-finish.ensures
