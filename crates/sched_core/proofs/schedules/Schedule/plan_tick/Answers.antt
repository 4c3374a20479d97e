use Rattle.std.proofs.Common.{◌≡◌, ◌∙◌, refl, ap, subst, ℕ, length, map, nat_lt, true, false, arith}
use Rattle.std.proofs.lemmas.Bool.Decides.{nat_tests}
use Rattle.sched_model.specs.Schedule.{Schedule}
use Rattle.sched_model.specs.NamedRuns.{named_by_tick, insert_runs, leaves_more}
use Rattle.sched_model.specs.Causes.{is_full_with}
use Rattle.sched_model.specs.Sound.{is_moment}
use Rattle.sched_draft.specs.Drafts.{DraftValue}
use Rattle.sched_events.specs.SettledAndSound.{IsSoundAndSaid}
use Rattle.sched_events.specs.declared.answers.Answer.{Answer}
use Rattle.sched_events.specs.declared.events.Event.TheVariants.{Tick}
use Rattle.sched_core.specs.Changes.{ScheduleValue}
use Rattle.sched_model.specs.States.{open_tries}
use Rattle.sched_model.specs.Changes.{set_now}
use Rattle.sched_laws.proofs.OccupyingLemmas.{open_added}
use Rattle.sched_core.specs.Plans.{run_id}
use Rattle.sched_core.proofs.PlanLemmas.{tick_accepted, tick_draft, tick_ids, tick_length, IsDraftOf, draft_is, draft_sound, draft_kept, draft_planned, told_by}
use Rattle.sched_core.proofs.schedules.Schedule.plan_tick.Goals.{After-set_clock}
use Rattle.sched_core.proofs.KeptLemmas.{draft_dates}
use Rattle.sched_core.proofs.schedules.Schedule.plan_tick.Goals as goal

-- the draft, with the clock set and the runs added
added : After-set_clock → Schedule
added c = record c.set_clock.new.self.content { runs = insert_runs c.in_ok-named.named.runs.items c.set_clock.new.self.content.runs }

drafted : (c : After-set_clock) → IsDraftOf (Tick c.args.moment) c.args.self.now.content (added c)
unfolding added
drafted c =
    let a : Schedule = c.args.self.now.content in
    let t : ℕ = c.args.moment in
    let now : c.self.inside.clock ≡ a.now = ap (λ (h : ScheduleValue). h.content.now) c.self.view_is in
    let back : nat_lt t a.now ≡ false = grind (arith, nat_tests, c.secs.ensures.value, c.secs-2.ensures.value, now, c.if-secs.false) in
    let limit : c.self.inside.limits.runs ≡ a.limits.runs = ap (λ (h : ScheduleValue). h.content.limits.runs) c.self.view_is in
    let long : length c.self.inside.runs.runs ≡ length a.runs = ap (λ (h : ScheduleValue). length h.content.runs) c.self.view_is in
    let more : length c.in_ok-named.named.runs.items ≡ length (named_by_tick a t) = tick_length a c.draft-draft.result.content t c.in_ok-named.named.runs.items (ap (λ (v : DraftValue). v.content) c.draft-draft.ensures) c.in_ok-named.ensures.runs in
    let full : is_full_with a (named_by_tick a t) ≡ false = grind (arith, nat_tests, c.runs.ensures.value, c.len.ensures.len, c.len-2.ensures, limit, long, more, c.if-runs-len.false) in
    let dated : is_moment t ≡ true = grind (arith, nat_tests, c.secs.ensures.value, c.secs.ensures.bound) in
    record {
      ranged = dated;
      accepted = tick_accepted a t back full;
      kept = subst (λ (h : ScheduleValue). IsSoundAndSaid h.content) c.self.view_is c.self.invariant.held.kept;
      is = tick_draft a c.draft-draft.result.content c.set_clock.new.self.content (added c) t c.in_ok-named.named.runs.items (ap (λ (v : DraftValue). v.content) c.draft-draft.ensures) (ap (λ (v : DraftValue). v.content) c.set_clock.ensures) c.in_ok-named.ensures.runs refl;
    }

pub add-requires : goal.add-requires
unfolding added
add-requires c = (draft_sound (drafted (goal.at.add-requires c).After-set_clock)).runs_by_key

pub finish-requires-clause-based : goal.finish-requires-clause-based
finish-requires-clause-based c = c.in_ok-add.ensures.base ∙ (ap (λ (v : DraftValue). v.base) c.set_clock.ensures ∙ ap (λ (v : DraftValue). v.base) c.draft-draft.ensures)

pub finish-requires-clause-over : goal.finish-requires-clause-over
finish-requires-clause-over c = record {
  limits = ap (λ (s : Schedule). s.limits) c.in_ok-add.ensures.added ∙ (ap (λ (v : DraftValue). v.content.limits) c.set_clock.ensures ∙ ap (λ (v : DraftValue). v.content.limits) c.draft-draft.ensures);
  graphs = ap (λ (s : Schedule). s.graphs) c.in_ok-add.ensures.added ∙ (ap (λ (v : DraftValue). v.content.graphs) c.set_clock.ensures ∙ ap (λ (v : DraftValue). v.content.graphs) c.draft-draft.ensures);
}

pub finish-requires-clause-later : goal.finish-requires-clause-later
finish-requires-clause-later c =
    let end : c.add.new.draft.content.now ≡ c.args.moment = ap (λ (s : Schedule). s.now) c.in_ok-add.ensures.added ∙ ap (λ (v : DraftValue). v.content.now) c.set_clock.ensures in
    let now : c.self.inside.clock ≡ c.args.self.now.content.now = ap (λ (h : ScheduleValue). h.content.now) c.self.view_is in
    omega (arith, end, now, c.secs.ensures.value, c.secs-2.ensures.value, c.if-secs.false)

pub finish-requires-clause-sound : goal.finish-requires-clause-sound
unfolding added
finish-requires-clause-sound c = draft_sound (draft_is c.add.new.draft.content (drafted (goal.at.finish-requires-clause-sound c).After-set_clock) c.in_ok-add.ensures.added)

pub finish-requires-clause-kept : goal.finish-requires-clause-kept
unfolding added
finish-requires-clause-kept c = draft_kept (draft_is c.add.new.draft.content (drafted (goal.at.finish-requires-clause-kept c).After-set_clock) c.in_ok-add.ensures.added)

pub finish-requires-clause-pools : goal.finish-requires-clause-pools
unfolding added
finish-requires-clause-pools c = ap (λ (s : Schedule). s.pools) (draft_is c.add.new.draft.content (drafted (goal.at.finish-requires-clause-pools c).After-set_clock) c.in_ok-add.ensures.added).is

pub finish-requires-clause-open : goal.finish-requires-clause-open
unfolding added
finish-requires-clause-open c =
    let a : Schedule = c.args.self.now.content in
    let t : ℕ = c.args.moment in
    ap (λ (s : Schedule). open_tries s) (draft_is c.add.new.draft.content (drafted (goal.at.finish-requires-clause-open c).After-set_clock) c.in_ok-add.ensures.added).is ∙ open_added (named_by_tick a t) (set_now t a)

pub returns-clause-accepted : goal.returns-clause-accepted
unfolding added
returns-clause-accepted c =
    let a : Schedule = c.args.self.now.content in
    let t : ℕ = c.args.moment in
    let ids = tick_ids a c.draft-draft.result.content t c.in_ok-named.named.runs.items c.in_ok-made.made (ap (λ (v : DraftValue). v.content) c.draft-draft.ensures) c.in_ok-named.ensures.runs (c.in_ok-made.ensures ∙ ap (map run_id) c.deref.ensures.value) in
    let more = c.in_ok-named.ensures.more ∙ ap (λ (s : Schedule). leaves_more s t) (ap (λ (v : DraftValue). v.content) c.draft-draft.ensures) in
    draft_planned _ c.in_ok-finish.field-0 (draft_is c.add.new.draft.content (drafted (goal.at.returns-clause-accepted c).After-set_clock) c.in_ok-add.ensures.added)
    (told_by (Tick t) a c.quiet_answer.result c.in_ok-made.made c.in_ok-named.named.more _ c.quiet_answer.ensures ids more (ap (λ (q : Answer). q.cleared) c.quiet_answer.ensures)) c.in_ok-finish.ensures

pub named_by_tick-requires-clause-dates : goal.named_by_tick-requires-clause-dates
named_by_tick-requires-clause-dates c = draft_dates c.self.inside c.args.self.now c.draft-draft.result.content c.as_slice.result.now (ap (λ (s : ScheduleValue). s.content) c.self.view_is) c.self.invariant.dates (ap (λ (v : DraftValue). v.content) c.draft-draft.ensures) c.as_slice.ensures.value
