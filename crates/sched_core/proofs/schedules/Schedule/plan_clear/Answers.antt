use Rattle.std.proofs.Common.{◌≡◌, ◌∙◌, ap, subst, sym, [], nat_lt, false, Ok, arith}
use Rattle.std.proofs.lemmas.Bool.Decides.{nat_tests}
use Rattle.std.proofs.lemmas.Result.{err_from_is_err_and}
use Rattle.sched_state.specs.declared.clearings.Clearing.{Clearing}
use Rattle.sched_model.specs.Schedule.{Schedule}
use Rattle.sched_clearing.specs.Selections.{SelectionParts, IsClear}
use Rattle.sched_draft.specs.Drafts.{DraftValue}
use Rattle.sched_events.specs.Events.{set_back_by}
use Rattle.sched_events.specs.SettledAndSound.{IsSoundAndSaid}
use Rattle.sched_events.specs.Outcomes.{IsRefusal}
use Rattle.sched_events.specs.declared.answers.Answer.{Answer}
use Rattle.sched_events.specs.declared.events.Event.TheVariants.{Clear}
use Rattle.sched_core.specs.Changes.{ScheduleValue}
use Rattle.sched_model.specs.States.{open_tries}
use Rattle.sched_core.proofs.BookLemmas.{repair_open, repair_pools}
use Rattle.sched_core.proofs.PlanLemmas.{IsDraftOf, draft_sound, draft_kept, draft_planned, told_by}
use Rattle.sched_core.proofs.RepairLemmas.{cleared_is, clear_waits, IsCleared, clear_done}
use Rattle.sched_core.proofs.schedules.Schedule.plan_clear.Goals.{In_ok-cleared}
use Rattle.sched_core.proofs.schedules.Schedule.plan_clear.Goals as goal

pub returns-in_err-cleared-clause-refused : goal.returns-in_err-cleared-clause-refused
returns-in_err-cleared-clause-refused c =
    let a : Schedule = c.args.self.now.content in
    let x : Clearing = c.args.clearing.now in
    let n : SelectionParts = c.in-Ok.selection in
    let h : IsClear a x (Ok n) = cleared_is a c.draft-draft.result.content x n (ap (λ (v : DraftValue). v.content) c.draft-draft.ensures) (subst (IsClear c.draft-draft.result.content x) c.in-Ok.is c.named_by_clear.ensures) in
    let good : nat_lt x.to x.from ≡ false = grind (arith, nat_tests, c.lt.ensures, c.if-lt.false) in
    let waits : IsRefusal a (Clear x) c.in_err-cleared.field-0.0 = clear_waits a c.draft-draft.result.content c.set_back.new.draft.content x n c.in_err-cleared.field-0.0 (ap (λ (v : DraftValue). v.content) c.draft-draft.ensures) h good c.in_err-cleared.ensures.back in
    let shown = err_from_is_err_and c.from_residual.result c.from_residual.ensures.1 in
    rw shown.1 (subst (IsRefusal a (Clear x)) (sym shown.2) waits)

-- the draft, with the instances set back
cleared : (c : In_ok-cleared) → IsCleared c.args.self.now.content c.args.clearing.now c.set_back.new.draft.content c.in_ok-cleared.cleared
cleared c =
    let a : Schedule = c.args.self.now.content in
    let x : Clearing = c.args.clearing.now in
    let n : SelectionParts = c.in-Ok.selection in
    let h : IsClear a x (Ok n) = cleared_is a c.draft-draft.result.content x n (ap (λ (v : DraftValue). v.content) c.draft-draft.ensures) (subst (IsClear c.draft-draft.result.content x) c.in-Ok.is c.named_by_clear.ensures) in
    let good : nat_lt x.to x.from ≡ false = grind (arith, nat_tests, c.lt.ensures, c.if-lt.false) in
    clear_done a c.draft-draft.result.content c.set_back.new.draft.content x n c.in_ok-cleared.cleared (ap (λ (v : DraftValue). v.content) c.draft-draft.ensures) h good c.in_ok-cleared.ensures.back

drafted : (c : In_ok-cleared) → IsDraftOf (Clear c.args.clearing.now) c.args.self.now.content c.set_back.new.draft.content
drafted c =
    let done = cleared c in
    record { ranged = tt; accepted = done.accepted; kept = subst (λ (s : ScheduleValue). IsSoundAndSaid s.content) c.self.view_is c.self.invariant.held.kept; is = done.is }

pub finish-requires-clause-based : goal.finish-requires-clause-based
finish-requires-clause-based c = c.in_ok-cleared.ensures.base ∙ ap (λ (v : DraftValue). v.base) c.draft-draft.ensures

pub finish-requires-clause-over : goal.finish-requires-clause-over
finish-requires-clause-over c = record {
  limits = ap (λ (s : Schedule). s.limits) c.in_ok-cleared.ensures.back.1 ∙ ap (λ (v : DraftValue). v.content.limits) c.draft-draft.ensures;
  graphs = ap (λ (s : Schedule). s.graphs) c.in_ok-cleared.ensures.back.1 ∙ ap (λ (v : DraftValue). v.content.graphs) c.draft-draft.ensures;
}

pub finish-requires-clause-sound : goal.finish-requires-clause-sound
finish-requires-clause-sound c = draft_sound (drafted (goal.at.finish-requires-clause-sound c).In_ok-cleared)

pub finish-requires-clause-kept : goal.finish-requires-clause-kept
finish-requires-clause-kept c = draft_kept (drafted (goal.at.finish-requires-clause-kept c).In_ok-cleared)

pub finish-requires-clause-pools : goal.finish-requires-clause-pools
finish-requires-clause-pools c =
    let a : Schedule = c.args.self.now.content in
    ap (λ (s : Schedule). s.pools) (drafted (goal.at.finish-requires-clause-pools c).In_ok-cleared).is ∙ repair_pools [] (set_back_by (Clear c.args.clearing.now) a) a

pub finish-requires-clause-open : goal.finish-requires-clause-open
finish-requires-clause-open c =
    let a : Schedule = c.args.self.now.content in
    ap (λ (s : Schedule). open_tries s) (drafted (goal.at.finish-requires-clause-open c).In_ok-cleared).is ∙ repair_open [] (set_back_by (Clear c.args.clearing.now) a) a

pub returns-clause-accepted : goal.returns-clause-accepted
returns-clause-accepted c =
    let done = cleared (goal.at.returns-clause-accepted c).In_ok-cleared in
    let quiet = c.quiet_answer.ensures in
    draft_planned _ c.in_ok-finish.field-0 (drafted (goal.at.returns-clause-accepted c).In_ok-cleared)
    (told_by (Clear c.args.clearing.now) c.args.self.now.content c.quiet_answer.result _ _ c.in_ok-cleared.cleared quiet (ap (λ (q : Answer). q.made) quiet) (ap (λ (q : Answer). q.more) quiet) done.count_is) c.in_ok-finish.ensures
