use Rattle.std.proofs.Common.{◌≡◌, ◌∙◌, refl, ap, subst, sym, is_none, inr, false, true, List, ℕ}
use Rattle.sched_model.specs.Changes.{set_paused}
use Rattle.sched_model.specs.Schedule.{Schedule, graph_named, graph_before}
use Rattle.sched_draft.specs.Drafts.{DraftValue}
use Rattle.sched_events.specs.SettledAndSound.{IsSoundAndSaid, IsSettled}
use Rattle.sched_events.specs.declared.events.Event.TheVariants.{Pause}
use Rattle.sched_model.specs.Lists.{rises}
use Rattle.sched_core.specs.Changes.{ScheduleValue, Planned}
use Rattle.sched_core.specs.Plans.{no_runs}
use Rattle.sched_core.specs.declared.changes.GraphChange.TheVariants as graphs
use Rattle.sched_model.specs.States.{open_tries}
use Rattle.sched_laws.proofs.OccupyingLemmas.{open_paused}
use Rattle.sched_core.proofs.EffectLemmas.{quiet_whole}
use Rattle.sched_core.proofs.PlanLemmas.{looked_up, pause_unknown, pause_accepted, pause_draft, change_held, IsDraftOf, draft_sound, draft_kept, draft_planned}
use Rattle.sched_core.proofs.schedules.Schedule.plan_pause.Goals.{After-quiet_answer}
use Rattle.sched_core.proofs.schedules.Schedule.plan_pause.Goals as goal

pub returns-then-is_none-clause-refused : goal.returns-then-is_none-clause-refused
returns-then-is_none-clause-refused c =
    let a : Schedule = c.args.self.now.content in
    let unknown : is_none (graph_named a c.args.id.now) ≡ true =
    looked_up a c.as_slice.result.now c.args.id.now c.graph_named.result c.is_none.result (c.as_slice.ensures.value ∙ ap (λ (h : ScheduleValue). h.content.graphs) c.self.view_is)
    c.graph_named.ensures c.is_none.ensures ∙ c.if-is_none.true in
    inr (record { first = pause_unknown a c.args.id.now unknown; shown = tt })

pub quiet_change-requires-clause-sound : goal.quiet_change-requires-clause-sound
quiet_change-requires-clause-sound c =
    let a : Schedule = c.args.self.now.content in
    let id : List ℕ = c.args.id.now in
    let kept = subst (λ (h : ScheduleValue). IsSoundAndSaid h.content) c.self.view_is c.self.invariant.held.kept in
    let there : is_none (graph_named a c.args.id.now) ≡ false =
    looked_up a c.as_slice.result.now c.args.id.now c.graph_named.result c.is_none.result (c.as_slice.ensures.value ∙ ap (λ (h : ScheduleValue). h.content.graphs) c.self.view_is)
    c.graph_named.ensures c.is_none.ensures ∙ c.if-is_none.false in
    subst (λ (n : List ℕ). IsSoundAndSaid (set_paused n true a)) (sym c.in_ok-copy.ensures) (change_held (Pause id) a (set_paused id true a) tt (pause_accepted a id there) kept refl)

pub returns-then-self-clause-accepted : goal.returns-then-self-clause-accepted
returns-then-self-clause-accepted c =
    let a : Schedule = c.args.self.now.content in
    let id : List ℕ = c.args.id.now in
    let still : IsSettled a = subst (λ (h : ScheduleValue). IsSettled h.content) c.self.view_is (c.self.invariant.held.settled c.if-self.true) in
    let kept = subst (λ (h : ScheduleValue). IsSoundAndSaid h.content) c.self.view_is c.self.invariant.held.kept in
    let there : is_none (graph_named a c.args.id.now) ≡ false =
    looked_up a c.as_slice.result.now c.args.id.now c.graph_named.result c.is_none.result (c.as_slice.ensures.value ∙ ap (λ (h : ScheduleValue). h.content.graphs) c.self.view_is)
    c.graph_named.ensures c.is_none.ensures ∙ c.if-is_none.false in
    let is : c.in_ok-quiet_change.field-0 ≡ record { before = a; after = set_paused id true a; answer = no_runs } =
    c.in_ok-quiet_change.ensures ∙ ap (λ (n : List ℕ). let p : Planned = record { before = a; after = set_paused n true a; answer = no_runs } in p) c.in_ok-copy.ensures in
    let made : IsDraftOf (Pause id) a (set_paused id true a) = record { ranged = tt; accepted = pause_accepted a id there; kept = kept; is = pause_draft a (set_paused id true a) id refl } in
    draft_planned no_runs c.in_ok-quiet_change.field-0 made refl
    (quiet_whole (graphs.Pause id true) a c.in_ok-quiet_change.field-0 refl still is)

-- the draft, in which the graph is paused
drafted : (c : After-quiet_answer) → IsDraftOf (Pause c.args.id.now) c.args.self.now.content c.draft-draft.result.content
drafted c =
    let a : Schedule = c.args.self.now.content in
    let there : is_none (graph_named a c.args.id.now) ≡ false =
    looked_up a c.as_slice.result.now c.args.id.now c.graph_named.result c.is_none.result (c.as_slice.ensures.value ∙ ap (λ (h : ScheduleValue). h.content.graphs) c.self.view_is)
    c.graph_named.ensures c.is_none.ensures ∙ c.if-is_none.false in
    record {
      ranged = tt;
      accepted = pause_accepted a c.args.id.now there;
      kept = subst (λ (h : ScheduleValue). IsSoundAndSaid h.content) c.self.view_is c.self.invariant.held.kept;
      is = pause_draft a c.draft-draft.result.content c.args.id.now (ap (λ (v : DraftValue). v.content) c.draft-draft.ensures);
    }

pub finish-requires-clause-sound : goal.finish-requires-clause-sound
finish-requires-clause-sound c = draft_sound (drafted (goal.at.finish-requires-clause-sound c).After-quiet_answer)

pub finish-requires-clause-kept : goal.finish-requires-clause-kept
finish-requires-clause-kept c = draft_kept (drafted (goal.at.finish-requires-clause-kept c).After-quiet_answer)

pub finish-requires-clause-open : goal.finish-requires-clause-open
finish-requires-clause-open c =
    let a : Schedule = c.args.self.now.content in
    ap (λ (v : DraftValue). open_tries v.content) c.draft-draft.ensures ∙ open_paused c.args.id.now true a

pub returns-clause-accepted : goal.returns-clause-accepted
returns-clause-accepted c = draft_planned c.quiet_answer.result c.in_ok-finish.field-0 (drafted (goal.at.returns-clause-accepted c).After-quiet_answer) c.quiet_answer.ensures c.in_ok-finish.ensures

pub graph_named-requires : goal.graph_named-requires
graph_named-requires c = ap (rises graph_before) c.as_slice.ensures.value ∙ c.self.invariant.held.kept.sound.graphs_by_id
