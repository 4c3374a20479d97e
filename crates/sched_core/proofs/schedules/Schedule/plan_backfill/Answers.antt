use Rattle.std.proofs.Common.{◌≡◌, ◌∙◌, refl, ap, subst, sym, ℕ, ◌-◌, ◌≤◌, List, length, map, nat_lt, false, Some, Ok, Err, arith}
use Rattle.std.proofs.lemmas.Bool.Decides.{nat_tests}
use Rattle.std.proofs.lemmas.Result.{err_from_is_err_and}
use Rattle.sched_model.specs.NamedRuns.{named_by_backfill, insert_runs}
use Rattle.sched_model.specs.Schedule.{Schedule}
use Rattle.sched_creation.specs.ByHand.{IsBackfillOf}
use Rattle.sched_creation.specs.declared.backfills.Backfill.{Backfill as Found}
use Rattle.sched_draft.specs.Drafts.{DraftValue}
use Rattle.sched_events.specs.Events.{set_back_by}
use Rattle.sched_events.specs.SettledAndSound.{IsSoundAndSaid}
use Rattle.sched_events.specs.Outcomes.{IsRefusal}
use Rattle.sched_events.specs.declared.answers.Answer.{Answer}
use Rattle.sched_events.specs.declared.events.Event.TheVariants.{Backfill}
use Rattle.sched_events.specs.declared.refusals.Refusal.{Refusal}
use Rattle.sched_core.specs.Changes.{ScheduleValue}
use Rattle.sched_core.specs.Plans.{run_id}
use Rattle.sched_core.specs.Repairs.{IsSetBack, reset_of}
use Rattle.sched_model.specs.States.{open_tries}
use Rattle.sched_core.proofs.BookLemmas.{repair_open, repair_pools}
use Rattle.sched_core.proofs.PlanLemmas.{IsDraftOf, draft_is, draft_sound, draft_kept, draft_planned, told_by}
use Rattle.sched_core.proofs.RepairLemmas.{found_is, back_waits, back_room, IsFilled, back_done}
use Rattle.sched_core.proofs.schedules.Schedule.plan_backfill.Goals.{In-Some, In_ok-made}
use Rattle.sched_core.proofs.KeptLemmas.{draft_dates}
use Rattle.sched_core.proofs.schedules.Schedule.plan_backfill.Goals as goal

-- what was found of the schedule that is there
found : (c : In-Some) → IsBackfillOf c.args.self.now.content c.args.graph.now c.args.from c.args.to c.saturating_sub-room.result (Some c.in-Some.named)
found c =
    found_is c.args.self.now.content c.draft-draft.result.content c.args.graph.now c.args.from c.args.to c.saturating_sub-room.result c.in-Some.named (ap (λ (v : DraftValue). v.content) c.draft-draft.ensures)
    (subst (IsBackfillOf c.draft-draft.result.content c.args.graph.now c.args.from c.args.to c.saturating_sub-room.result) c.in-Some.is c.in_ok-named.ensures)

-- the draft, with runs set back and added
added : In_ok-made → Schedule
added c = record c.reset_if.new.draft.content { runs = insert_runs c.in-Some.named.runs.items c.reset_if.new.draft.content.runs }

filled : (c : In_ok-made) → IsBackfillOf c.args.self.now.content c.args.graph.now c.args.from c.args.to c.saturating_sub-room.result (Some c.in-Some.named) → IsFilled c.args.self.now.content c.args.graph.now c.args.from c.args.to c.args.reset (added c) c.in_ok-made.made c.in_ok-cleared.cleared
unfolding added
filled c h =
    let a : Schedule = c.args.self.now.content in
    let d : Schedule = c.draft-draft.result.content in
    let e : Schedule = c.reset_if.new.draft.content in
    let id : List ℕ = c.args.graph.now in
    let b : Found = c.in-Some.named in
    let most : ℕ = c.saturating_sub-room.result in
    let kept : IsSoundAndSaid a = subst (λ (s : ScheduleValue). IsSoundAndSaid s.content) c.self.view_is c.self.invariant.held.kept in
    let good : nat_lt c.args.to c.args.from ≡ false = grind (arith, nat_tests, c.lt.ensures, c.if-lt.false) in
    let limit : c.self.inside.limits.runs ≡ a.limits.runs = ap (λ (s : ScheduleValue). s.content.limits.runs) c.self.view_is in
    let long : length c.self.inside.runs.runs ≡ length a.runs = ap (λ (s : ScheduleValue). length s.content.runs) c.self.view_is in
    let few : length a.runs ≤ a.limits.runs = grind (arith, nat_tests, kept.sound.few_runs) in
    let room : most ≡ a.limits.runs - length a.runs = omega (arith, c.saturating_sub-room.ensures, c.runs.ensures.value, c.len.ensures.len, limit, long) in
    let fits = back_room a id c.args.from c.args.to most b false h room few c.if-named.false in
    back_done a d e (added c) id c.args.from c.args.to most c.args.reset b c.in_ok-made.made c.in_ok-cleared.cleared (ap (λ (v : DraftValue). v.content) c.draft-draft.ensures) h good (subst (λ (ds : List ℕ). IsSetBack (reset_of c.args.reset id ds) d e (Ok c.in_ok-cleared.cleared)) c.deref.ensures.value c.in_ok-cleared.ensures.back) c.if-named.false fits refl (c.in_ok-made.ensures ∙ ap (map run_id) c.deref-2.ensures.value)

drafted : (c : In_ok-made) → IsBackfillOf c.args.self.now.content c.args.graph.now c.args.from c.args.to c.saturating_sub-room.result (Some c.in-Some.named) → IsDraftOf (Backfill c.args.graph.now c.args.from c.args.to c.args.reset) c.args.self.now.content (added c)
drafted c h =
    let done = filled c h in
    record { ranged = tt; accepted = done.accepted; kept = subst (λ (s : ScheduleValue). IsSoundAndSaid s.content) c.self.view_is c.self.invariant.held.kept; is = done.is }

pub returns-in_err-cleared-clause-refused : goal.returns-in_err-cleared-clause-refused
returns-in_err-cleared-clause-refused c =
    let a : Schedule = c.args.self.now.content in
    let d : Schedule = c.draft-draft.result.content in
    let id : List ℕ = c.args.graph.now in
    let b : Found = c.in-Some.named in
    let most : ℕ = c.saturating_sub-room.result in
    let h : IsBackfillOf a id c.args.from c.args.to most (Some b) = found (goal.at.returns-in_err-cleared-clause-refused c).In-Some in
    let good : nat_lt c.args.to c.args.from ≡ false = grind (arith, nat_tests, c.lt.ensures, c.if-lt.false) in
    let r : Refusal = c.in_err-cleared.field-0.0 in
    let e : Schedule = c.reset_if.new.draft.content in
    let set = subst (λ (ds : List ℕ). IsSetBack (reset_of c.args.reset id ds) d e (Err r)) c.deref.ensures.value c.in_err-cleared.ensures.back in
    let waits : IsRefusal a (Backfill id c.args.from c.args.to c.args.reset) r = back_waits a d e id c.args.from c.args.to most c.args.reset b r (ap (λ (v : DraftValue). v.content) c.draft-draft.ensures) h good set in
    let shown = err_from_is_err_and c.from_residual-in_err-cleared.result c.from_residual-in_err-cleared.ensures.1 in
    rw shown.1 (subst (IsRefusal a (Backfill id c.args.from c.args.to c.args.reset)) (sym shown.2) waits)

pub add-requires : goal.add-requires
unfolding added
add-requires c = (draft_sound (let at = goal.at.add-requires c in drafted at.In_ok-made (found at.In-Some))).runs_by_key

pub finish-requires-clause-based : goal.finish-requires-clause-based
finish-requires-clause-based c = c.in_ok-add.ensures.base ∙ (c.in_ok-cleared.ensures.base ∙ ap (λ (v : DraftValue). v.base) c.draft-draft.ensures)

pub finish-requires-clause-sound : goal.finish-requires-clause-sound
unfolding added
finish-requires-clause-sound c = draft_sound (let at = goal.at.finish-requires-clause-sound c in draft_is c.add.new.draft.content (drafted at.In_ok-made (found at.In-Some)) c.in_ok-add.ensures.added)

pub finish-requires-clause-kept : goal.finish-requires-clause-kept
unfolding added
finish-requires-clause-kept c = draft_kept (let at = goal.at.finish-requires-clause-kept c in draft_is c.add.new.draft.content (drafted at.In_ok-made (found at.In-Some)) c.in_ok-add.ensures.added)

pub finish-requires-clause-pools : goal.finish-requires-clause-pools
unfolding added
finish-requires-clause-pools c =
    let a : Schedule = c.args.self.now.content in
    ap (λ (s : Schedule). s.pools) (let at = goal.at.finish-requires-clause-pools c in draft_is c.add.new.draft.content (drafted at.In_ok-made (found at.In-Some)) c.in_ok-add.ensures.added).is
    ∙ repair_pools (named_by_backfill a c.args.graph.now c.args.from c.args.to) (set_back_by (Backfill c.args.graph.now c.args.from c.args.to c.args.reset) a) a

pub finish-requires-clause-open : goal.finish-requires-clause-open
unfolding added
finish-requires-clause-open c =
    let a : Schedule = c.args.self.now.content in
    ap (λ (s : Schedule). open_tries s) (let at = goal.at.finish-requires-clause-open c in draft_is c.add.new.draft.content (drafted at.In_ok-made (found at.In-Some)) c.in_ok-add.ensures.added).is
    ∙ repair_open (named_by_backfill a c.args.graph.now c.args.from c.args.to) (set_back_by (Backfill c.args.graph.now c.args.from c.args.to c.args.reset) a) a

pub returns-clause-accepted : goal.returns-clause-accepted
unfolding added
returns-clause-accepted c =
    let a : Schedule = c.args.self.now.content in
    let at = goal.at.returns-clause-accepted c in
    let h = found at.In-Some in
    let done = filled at.In_ok-made h in
    draft_planned _ c.in_ok-finish.field-0 (draft_is c.add.new.draft.content (drafted at.In_ok-made h) c.in_ok-add.ensures.added)
    (told_by (Backfill c.args.graph.now c.args.from c.args.to c.args.reset) a c.quiet_answer.result c.in_ok-made.made _ c.in_ok-cleared.cleared c.quiet_answer.ensures done.ids_is (ap (λ (q : Answer). q.more) c.quiet_answer.ensures) done.count_is) c.in_ok-finish.ensures

pub named_by_backfill-requires : goal.named_by_backfill-requires
named_by_backfill-requires c = draft_dates c.self.inside c.args.self.now c.draft-draft.result.content c.as_slice-dates.result.now (ap (λ (s : ScheduleValue). s.content) c.self.view_is) c.self.invariant.dates (ap (λ (v : DraftValue). v.content) c.draft-draft.ensures) c.as_slice-dates.ensures.value
