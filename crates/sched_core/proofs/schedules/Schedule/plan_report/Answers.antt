use Rattle.std.proofs.Common.{◌≡◌, ◌∙◌, refl, sym, ap, subst, inr, is_some, true, false, ◌<◌, option_map, length}
use Rattle.std.specs.Prelude.{IfSome}
use Rattle.instance_machine.specs.Instances.{map_tries}
use Rattle.instance_machine.specs.Reports.{report_try, reported_try}
use Rattle.sched_draft.specs.Drafts.{DraftValue}
use Rattle.sched_model.specs.Changes.{report}
use Rattle.sched_model.specs.Handout.{in_instance}
use Rattle.sched_model.specs.Lists.{at}
use Rattle.sched_model.specs.Schedule.{Schedule}
use Rattle.sched_events.specs.declared.events.Event.TheVariants.{Report}
use Rattle.sched_core.specs.Books.{IsCounted}
use Rattle.sched_core.specs.Finding.{IsFoundAt}
use Rattle.sched_core.specs.declared.finding.Found.{Found}
use Rattle.sched_handout.specs.Occupied.{AreOccupied}
use Rattle.sched_core.proofs.BookLemmas.{report_counted}
use Rattle.sched_core.proofs.PlanLemmas.{not_in_flight, out_of_turn, in_turn, report_draft, IsDraftOf, draft_sound, draft_kept, draft_planned}
use Rattle.sched_core.proofs.ReportLemmas.{report_at, found_run, found_instance}
use Rattle.sched_core.proofs.schedules.Schedule.plan_report.Goals.{In-Some, After-report_at}
use Rattle.sched_core.proofs.schedules.Schedule.plan_report.Goals as goal

pub returns-in_default-clause-refused : goal.returns-in_default-clause-refused
returns-in_default-clause-refused c =
    let a : Schedule = c.args.self.now.content in
    let found = c.open_try.ensures.one in
    inr (record { first = not_in_flight a c.args.serial c.args.stage (sym (ap (option_map (λ (f : Found). f.one)) c.in_default.is) ∙ found); shown = tt })

pub returns-then-not-takes-clause-refused : goal.returns-then-not-takes-clause-refused
returns-then-not-takes-clause-refused c =
    let a : Schedule = c.args.self.now.content in
    let found = c.open_try.ensures.one in
    let turn : is_some (report_try c.args.stage a.now c.in-Some.found.one) ≡ false = sym (c.if-not-takes.ensures a.now) in
    inr (record { first = out_of_turn a c.args.serial c.args.stage c.in-Some.found.one (sym (ap (option_map (λ (f : Found). f.one)) c.in-Some.is) ∙ found) turn; shown = tt })

-- where the try stands
stands : (c : In-Some) → IsFoundAt c.args.serial c.args.self.now.content.runs c.in-Some.found
stands c = subst (λ o. IfSome o (IsFoundAt c.args.serial c.args.self.now.content.runs)) c.in-Some.is c.open_try.ensures.place

pub own-requires : goal.own-requires
own-requires c =
    let a : Schedule = c.args.self.now.content in
    subst (λ (v : DraftValue). c.in-Some.found.position < length v.content.runs) (sym c.draft-draft.ensures) (found_run c.args.serial a.runs c.in-Some.found (stands (goal.at.own-requires c).In-Some))

pub report_at-requires-clause-instance : goal.report_at-requires-clause-instance
report_at-requires-clause-instance c =
    found_instance c.args.serial c.args.self.now.content c.own.new.self.content c.in-Some.found (ap (λ (v : DraftValue). v.content) c.in_ok-own.ensures.ok ∙ ap (λ (v : DraftValue). v.content) c.draft-draft.ensures)
    (stands (goal.at.report_at-requires-clause-instance c).In-Some)

-- the draft, with what is reported
reported : (c : After-report_at) → IsFoundAt c.args.serial c.args.self.now.content.runs c.in-Some.found → c.report_at.new.self.content ≡ report c.args.serial c.args.stage c.args.self.now.content
reported c found =
    let a : Schedule = c.args.self.now.content in
    let own : c.own.new.self.content ≡ a = ap (λ (v : DraftValue). v.content) c.in_ok-own.ensures.ok ∙ ap (λ (v : DraftValue). v.content) c.draft-draft.ensures in
    report_at c.args.serial c.args.stage a c.report_at.new.self.content c.in-Some.found c.open_try.ensures.kept.sound found
    (ap (λ (v : DraftValue). v.content) c.report_at.ensures
    ∙ ap (λ (s : Schedule). record s { runs = at (in_instance (map_tries (reported_try c.args.serial c.args.stage s.now)) c.in-Some.found.place) c.in-Some.found.position s.runs }) own)

drafted : (c : After-report_at) → IsFoundAt c.args.serial c.args.self.now.content.runs c.in-Some.found → IsDraftOf (Report c.args.serial c.args.stage) c.args.self.now.content c.report_at.new.self.content
drafted c place =
    let a : Schedule = c.args.self.now.content in
    let found = c.open_try.ensures.one in
    let turn : is_some (report_try c.args.stage a.now c.in-Some.found.one) ≡ true = sym (c.if-not-takes.ensures a.now) in
    record {
      ranged = tt;
      accepted = in_turn a c.args.serial c.args.stage c.in-Some.found.one (sym (ap (option_map (λ (f : Found). f.one)) c.in-Some.is) ∙ found) turn;
      kept = c.open_try.ensures.kept;
      is = report_draft a a c.report_at.new.self.content c.args.serial c.args.stage refl (reported c place);
    }

pub finish_with-requires-clause-based : goal.finish_with-requires-clause-based
finish_with-requires-clause-based c = ap (λ (v : DraftValue). v.base) c.report_at.ensures ∙ (ap (λ (v : DraftValue). v.base) c.in_ok-own.ensures.ok ∙ ap (λ (v : DraftValue). v.base) c.draft-draft.ensures)

pub finish_with-requires-clause-over : goal.finish_with-requires-clause-over
finish_with-requires-clause-over c = record {
  limits = ap (λ (v : DraftValue). v.content.limits) c.report_at.ensures ∙ (ap (λ (v : DraftValue). v.content.limits) c.in_ok-own.ensures.ok ∙ ap (λ (v : DraftValue). v.content.limits) c.draft-draft.ensures);
  graphs = ap (λ (v : DraftValue). v.content.graphs) c.report_at.ensures ∙ (ap (λ (v : DraftValue). v.content.graphs) c.in_ok-own.ensures.ok ∙ ap (λ (v : DraftValue). v.content.graphs) c.draft-draft.ensures);
}

pub finish_with-requires-clause-sound : goal.finish_with-requires-clause-sound
finish_with-requires-clause-sound c = draft_sound (let at = goal.at.finish_with-requires-clause-sound c in drafted at.After-report_at (stands at.In-Some))

pub finish_with-requires-clause-kept : goal.finish_with-requires-clause-kept
finish_with-requires-clause-kept c = draft_kept (let at = goal.at.finish_with-requires-clause-kept c in drafted at.After-report_at (stands at.In-Some))

pub finish_with-requires-clause-counted : goal.finish_with-requires-clause-counted
finish_with-requires-clause-counted c =
    let a : Schedule = c.args.self.now.content in
    let counted : IsCounted a = c.open_try.ensures.counted in
    subst IsCounted (sym (let at = goal.at.finish_with-requires-clause-counted c in reported at.After-report_at (stands at.In-Some))) (report_counted c.args.serial c.args.stage a counted)

pub occupied_after-requires-clause-found : goal.occupied_after-requires-clause-found
occupied_after-requires-clause-found c = stands (goal.at.occupied_after-requires-clause-found c).In-Some

pub occupied_after-requires-clause-turn : goal.occupied_after-requires-clause-turn
occupied_after-requires-clause-turn c = sym (c.if-not-takes.ensures c.args.self.now.content.now)

pub finish_with-requires-clause-occupied : goal.finish_with-requires-clause-occupied
finish_with-requires-clause-occupied c =
    subst (λ (s : Schedule). AreOccupied s c.in_ok-occupied.occupied) (sym (let at = goal.at.finish_with-requires-clause-occupied c in reported at.After-report_at (stands at.In-Some))) c.in_ok-occupied.ensures

pub returns-clause-accepted : goal.returns-clause-accepted
returns-clause-accepted c =
    draft_planned c.quiet_answer.result c.in_ok-finish_with.field-0 (let at = goal.at.returns-clause-accepted c in drafted at.After-report_at (stands at.In-Some)) c.quiet_answer.ensures c.in_ok-finish_with.ensures
