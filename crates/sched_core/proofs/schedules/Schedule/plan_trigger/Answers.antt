use Rattle.std.proofs.Common.{◌≡◌, ◌∙◌, refl, ap, subst, ℕ, List, ◌+◌, length, map, nat_lt, false, arith}
use Rattle.std.proofs.lemmas.Bool.Decides.{nat_tests}
use Rattle.sched_state.specs.declared.runs.Run.{Run}
use Rattle.sched_model.specs.Schedule.{Schedule}
use Rattle.sched_model.specs.NamedRuns.{named_by_hand, insert_runs}
use Rattle.sched_creation.proofs.ByHandLemmas.{run_named}
use Rattle.sched_draft.specs.Drafts.{DraftValue}
use Rattle.sched_events.specs.SettledAndSound.{IsSoundAndSaid}
use Rattle.sched_events.specs.declared.answers.Answer.{Answer}
use Rattle.sched_events.specs.declared.events.Event.TheVariants.{Trigger}
use Rattle.sched_core.specs.Changes.{ScheduleValue}
use Rattle.sched_core.specs.Plans.{run_id}
use Rattle.sched_model.specs.States.{open_tries}
use Rattle.sched_laws.proofs.OccupyingLemmas.{open_added}
use Rattle.sched_core.proofs.PlanLemmas.{IsDraftOf, draft_is, draft_sound, draft_kept, draft_planned, told_by}
use Rattle.sched_core.proofs.TriggerLemmas.{hand_full, trigger_draft, trigger_ids}
use Rattle.sched_core.proofs.schedules.Schedule.plan_trigger.Goals.{In_ok-made}
use Rattle.sched_core.proofs.KeptLemmas.{draft_dates}
use Rattle.sched_core.proofs.schedules.Schedule.plan_trigger.Goals as goal

-- the draft, with the run added
added : In_ok-made → Schedule
added c = record c.draft-draft.result.content { runs = insert_runs c.in_ok-runs.runs.items c.draft-draft.result.content.runs }

drafted : (c : In_ok-made) → IsDraftOf (Trigger c.args.id.now) c.args.self.now.content (added c)
unfolding added
drafted c =
    let a : Schedule = c.args.self.now.content in
    let id : List ℕ = c.args.id.now in
    let d : Schedule = c.draft-draft.result.content in
    let run : Run = c.in-Ok.run' in
    let h = run_named d id _ _ c.in-Ok.run' c.in-Some.is c.in-Ok.is c.in_ok-planned.ensures in
    let limit : c.self.inside.limits.runs ≡ a.limits.runs = ap (λ (s : ScheduleValue). s.content.limits.runs) c.self.view_is in
    let long : length c.self.inside.runs.runs ≡ length a.runs = ap (λ (s : ScheduleValue). length s.content.runs) c.self.view_is in
    let full : nat_lt a.limits.runs (length a.runs + 1) ≡ false = grind (arith, nat_tests, c.runs.ensures.value, c.len.ensures.len, limit, long, c.if-is_full.false) in
    record {
      ranged = tt;
      accepted = hand_full a d id run (ap (λ (v : DraftValue). v.content) c.draft-draft.ensures) h false full;
      kept = subst (λ (s : ScheduleValue). IsSoundAndSaid s.content) c.self.view_is c.self.invariant.held.kept;
      is = trigger_draft a d (added c) id run c.in_ok-runs.runs.items (ap (λ (v : DraftValue). v.content) c.draft-draft.ensures) h.1.1 c.in_ok-runs.ensures refl;
    }

pub add-requires : goal.add-requires
unfolding added
add-requires c = (draft_sound (drafted (goal.at.add-requires c).In_ok-made)).runs_by_key

pub finish-requires-clause-based : goal.finish-requires-clause-based
finish-requires-clause-based c = c.in_ok-add.ensures.base ∙ ap (λ (v : DraftValue). v.base) c.draft-draft.ensures

pub finish-requires-clause-over : goal.finish-requires-clause-over
finish-requires-clause-over c = record {
  limits = ap (λ (s : Schedule). s.limits) c.in_ok-add.ensures.added ∙ ap (λ (v : DraftValue). v.content.limits) c.draft-draft.ensures;
  graphs = ap (λ (s : Schedule). s.graphs) c.in_ok-add.ensures.added ∙ ap (λ (v : DraftValue). v.content.graphs) c.draft-draft.ensures;
}

pub finish-requires-clause-sound : goal.finish-requires-clause-sound
unfolding added
finish-requires-clause-sound c = draft_sound (draft_is c.add.new.draft.content (drafted (goal.at.finish-requires-clause-sound c).In_ok-made) c.in_ok-add.ensures.added)

pub finish-requires-clause-kept : goal.finish-requires-clause-kept
unfolding added
finish-requires-clause-kept c = draft_kept (draft_is c.add.new.draft.content (drafted (goal.at.finish-requires-clause-kept c).In_ok-made) c.in_ok-add.ensures.added)

pub finish-requires-clause-pools : goal.finish-requires-clause-pools
unfolding added
finish-requires-clause-pools c = ap (λ (s : Schedule). s.pools) (draft_is c.add.new.draft.content (drafted (goal.at.finish-requires-clause-pools c).In_ok-made) c.in_ok-add.ensures.added).is

pub finish-requires-clause-open : goal.finish-requires-clause-open
unfolding added
finish-requires-clause-open c =
    let a : Schedule = c.args.self.now.content in
    ap (λ (s : Schedule). open_tries s) (draft_is c.add.new.draft.content (drafted (goal.at.finish-requires-clause-open c).In_ok-made) c.in_ok-add.ensures.added).is ∙ open_added (named_by_hand a c.args.id.now) a

pub returns-clause-accepted : goal.returns-clause-accepted
unfolding added
returns-clause-accepted c =
    let a : Schedule = c.args.self.now.content in
    let id : List ℕ = c.args.id.now in
    let d : Schedule = c.draft-draft.result.content in
    let run : Run = c.in-Ok.run' in
    let h = run_named d id _ _ c.in-Ok.run' c.in-Some.is c.in-Ok.is c.in_ok-planned.ensures in
    let ids = trigger_ids a d id run c.in_ok-runs.runs.items c.in_ok-made.made (ap (λ (v : DraftValue). v.content) c.draft-draft.ensures) h.1.1 c.in_ok-runs.ensures (c.in_ok-made.ensures ∙ ap (map run_id) c.deref.ensures.value) in
    draft_planned _ c.in_ok-finish.field-0 (draft_is c.add.new.draft.content (drafted (goal.at.returns-clause-accepted c).In_ok-made) c.in_ok-add.ensures.added)
    (told_by (Trigger id) a c.quiet_answer.result c.in_ok-made.made _ _ c.quiet_answer.ensures ids (ap (λ (q : Answer). q.more) c.quiet_answer.ensures) (ap (λ (q : Answer). q.cleared) c.quiet_answer.ensures)) c.in_ok-finish.ensures

pub named_by_hand-requires : goal.named_by_hand-requires
named_by_hand-requires c = draft_dates c.self.inside c.args.self.now c.draft-draft.result.content c.as_slice.result.now (ap (λ (s : ScheduleValue). s.content) c.self.view_is) c.self.invariant.dates (ap (λ (v : DraftValue). v.content) c.draft-draft.ensures) c.as_slice.ensures.value
