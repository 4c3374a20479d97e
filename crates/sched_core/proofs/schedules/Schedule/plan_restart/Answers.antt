use Rattle.std.proofs.Common.{◌≡◌, ◌∙◌, refl, ap, subst, sym, nat_lt, false, arith}
use Rattle.std.proofs.lemmas.Bool.Decides.{nat_tests}
use Rattle.sched_model.specs.Changes.{restart}
use Rattle.sched_model.specs.Schedule.{Schedule}
use Rattle.sched_draft.specs.Drafts.{DraftValue}
use Rattle.sched_events.specs.SettledAndSound.{IsSoundAndSaid}
use Rattle.sched_events.specs.declared.events.Event.TheVariants.{Restart}
use Rattle.sched_core.specs.Books.{IsCounted}
use Rattle.sched_core.specs.Changes.{ScheduleValue}
use Rattle.sched_handout.specs.Occupied.{AreOccupied}
use Rattle.sched_core.proofs.BookLemmas.{restart_counted, restart_occupied}
use Rattle.sched_core.proofs.PlanLemmas.{restart_accepted, restart_draft, IsDraftOf, draft_sound, draft_kept, draft_planned}
use Rattle.sched_core.proofs.schedules.Schedule.plan_restart.Goals.{After-set_lanes}
use Rattle.sched_core.proofs.schedules.Schedule.plan_restart.Goals as goal

-- the draft, with the lanes and without open tries
restarted : (c : After-set_lanes) → c.set_lanes.new.self.content ≡ restart c.args.lanes c.args.self.now.content
restarted c =
    let a : Schedule = c.args.self.now.content in
    ap (λ (v : DraftValue). v.content) c.set_lanes.ensures
    ∙ (ap (λ (s : Schedule). record s { lanes = c.args.lanes }) c.in_ok-lose_all.ensures.draft
    ∙ ap (λ (v : DraftValue). restart c.args.lanes v.content) c.draft-draft.ensures)

drafted : (c : After-set_lanes) → IsDraftOf (Restart c.args.lanes) c.args.self.now.content c.set_lanes.new.self.content
drafted c =
    let a : Schedule = c.args.self.now.content in
    let lanes : c.lanes.result ≡ a.limits.lanes = c.lanes.ensures ∙ ap (λ (h : ScheduleValue). h.content.limits.lanes) c.self.view_is in
    let few : nat_lt a.limits.lanes c.args.lanes ≡ false = grind (arith, nat_tests, lanes, c.if-lanes.false) in
    record {
      ranged = tt;
      accepted = restart_accepted a c.args.lanes few;
      kept = subst (λ (h : ScheduleValue). IsSoundAndSaid h.content) c.self.view_is c.self.invariant.held.kept;
      is = restart_draft a a c.set_lanes.new.self.content c.args.lanes refl (restarted c);
    }

pub finish_with-requires-clause-based : goal.finish_with-requires-clause-based
finish_with-requires-clause-based c = ap (λ (v : DraftValue). v.base) c.set_lanes.ensures ∙ (c.in_ok-lose_all.ensures.base ∙ ap (λ (v : DraftValue). v.base) c.draft-draft.ensures)

pub finish_with-requires-clause-over : goal.finish_with-requires-clause-over
finish_with-requires-clause-over c =
    let is = restarted (goal.at.finish_with-requires-clause-over c).After-set_lanes in record { limits = ap (λ (s : Schedule). s.limits) is; graphs = ap (λ (s : Schedule). s.graphs) is }

pub finish_with-requires-clause-sound : goal.finish_with-requires-clause-sound
finish_with-requires-clause-sound c = draft_sound (drafted (goal.at.finish_with-requires-clause-sound c).After-set_lanes)

pub finish_with-requires-clause-kept : goal.finish_with-requires-clause-kept
finish_with-requires-clause-kept c = draft_kept (drafted (goal.at.finish_with-requires-clause-kept c).After-set_lanes)

pub finish_with-requires-clause-counted : goal.finish_with-requires-clause-counted
finish_with-requires-clause-counted c =
    let a : Schedule = c.args.self.now.content in
    subst IsCounted (sym (restarted (goal.at.finish_with-requires-clause-counted c).After-set_lanes)) (restart_counted c.args.lanes a)

pub finish_with-requires-clause-occupied : goal.finish_with-requires-clause-occupied
finish_with-requires-clause-occupied c =
    let a : Schedule = c.args.self.now.content in
    let pools = ap (λ (h : ScheduleValue). h.content.pools) c.self.view_is in
    subst (λ (s : Schedule). AreOccupied s c.in_ok-occupied.occupied) (sym (restarted (goal.at.finish_with-requires-clause-occupied c).After-set_lanes))
    (restart_occupied c.args.lanes a c.self.inside.occupied c.in_ok-occupied.occupied pools c.in_ok-occupied.ensures.in_flight c.in_ok-occupied.ensures.pools c.in_ok-occupied.ensures.active)

pub returns-clause-accepted : goal.returns-clause-accepted
returns-clause-accepted c = draft_planned c.quiet_answer.result c.in_ok-finish_with.field-0 (drafted (goal.at.returns-clause-accepted c).After-set_lanes) c.quiet_answer.ensures c.in_ok-finish_with.ensures
