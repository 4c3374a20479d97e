use Rattle.std.proofs.Common.{◌≡◌, ◌∙◌, ap, subst, is_none, inr, false, true}
use Rattle.sched_model.specs.Schedule.{Schedule, graph_named, graph_before}
use Rattle.sched_draft.specs.Drafts.{DraftValue}
use Rattle.sched_events.specs.SettledAndSound.{IsSoundAndSaid}
use Rattle.sched_events.specs.declared.events.Event.TheVariants.{Unpause}
use Rattle.sched_model.specs.Lists.{rises}
use Rattle.sched_core.specs.Changes.{ScheduleValue}
use Rattle.sched_model.specs.States.{open_tries}
use Rattle.sched_laws.proofs.OccupyingLemmas.{open_paused}
use Rattle.sched_core.proofs.PlanLemmas.{looked_up, pause_unknown, pause_accepted, unpause_draft, IsDraftOf, draft_sound, draft_kept, draft_planned}
use Rattle.sched_core.proofs.schedules.Schedule.plan_unpause.Goals.{After-quiet_answer}
use Rattle.sched_core.proofs.schedules.Schedule.plan_unpause.Goals as goal

pub returns-then-is_none-clause-refused : goal.returns-then-is_none-clause-refused
returns-then-is_none-clause-refused c =
    let a : Schedule = c.args.self.now.content in
    let unknown : is_none (graph_named a c.args.id.now) ≡ true =
    looked_up a c.as_slice.result.now c.args.id.now c.graph_named.result c.is_none.result (c.as_slice.ensures.value ∙ ap (λ (h : ScheduleValue). h.content.graphs) c.self.view_is)
    c.graph_named.ensures c.is_none.ensures ∙ c.if-is_none.true in
    inr (record { first = pause_unknown a c.args.id.now unknown; shown = tt })

-- the draft, in which the graph is paused no more
drafted : (c : After-quiet_answer) → IsDraftOf (Unpause c.args.id.now) c.args.self.now.content c.draft-draft.result.content
drafted c =
    let a : Schedule = c.args.self.now.content in
    let there : is_none (graph_named a c.args.id.now) ≡ false =
    looked_up a c.as_slice.result.now c.args.id.now c.graph_named.result c.is_none.result (c.as_slice.ensures.value ∙ ap (λ (h : ScheduleValue). h.content.graphs) c.self.view_is)
    c.graph_named.ensures c.is_none.ensures ∙ c.if-is_none.false in
    record {
      ranged = tt;
      accepted = pause_accepted a c.args.id.now there;
      kept = subst (λ (h : ScheduleValue). IsSoundAndSaid h.content) c.self.view_is c.self.invariant.held.kept;
      is = unpause_draft a c.draft-draft.result.content c.args.id.now (ap (λ (v : DraftValue). v.content) c.draft-draft.ensures);
    }

pub finish-requires-clause-sound : goal.finish-requires-clause-sound
finish-requires-clause-sound c = draft_sound (drafted (goal.at.finish-requires-clause-sound c).After-quiet_answer)

pub finish-requires-clause-kept : goal.finish-requires-clause-kept
finish-requires-clause-kept c = draft_kept (drafted (goal.at.finish-requires-clause-kept c).After-quiet_answer)

pub finish-requires-clause-open : goal.finish-requires-clause-open
finish-requires-clause-open c =
    let a : Schedule = c.args.self.now.content in
    ap (λ (v : DraftValue). open_tries v.content) c.draft-draft.ensures ∙ open_paused c.args.id.now false a

pub returns-clause-accepted : goal.returns-clause-accepted
returns-clause-accepted c = draft_planned c.quiet_answer.result c.in_ok-finish.field-0 (drafted (goal.at.returns-clause-accepted c).After-quiet_answer) c.quiet_answer.ensures c.in_ok-finish.ensures

pub graph_named-requires : goal.graph_named-requires
graph_named-requires c = ap (rises graph_before) c.as_slice.ensures.value ∙ c.self.invariant.held.kept.sound.graphs_by_id
