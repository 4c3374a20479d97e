use Rattle.std.proofs.Common.{◌≡◌, ◌≤◌, ◌∙◌, IfErr, IsOk, List, MatchResult, OnOk, Result, Ok, Err, length, map, not, refl, vec_items, ap, subst, sym}
use Rattle.ruled_dispatch.specs.Lanes.{sent_of, heard_of}
use Rattle.ruled_dispatch.specs.declared.items.WorkerReport.{WorkerReport}
use Rattle.sched_events.specs.Steps.{handed_along, AreAccepted}
use Rattle.sched_events.specs.declared.events.Event.{Event}
use Rattle.sched_model.specs.Schedule.{Schedule}
use Rattle.minutes.specs.Minutes.{reports_in}
use Rattle.slot_desk.specs.Holds.{in_hand}
use Rattle.sessions.specs.declared.faults.ConductFault.{ConductFault}
use Rattle.sessions.specs.declared.faults.ConductFault.TheVariants as fault
use Rattle.workers.specs.declared.crews.WorkerEnd.{WorkerEnd}
use Rattle.conduct.specs.Ends.{logged, EachStandsInALog}
use Rattle.conduct.specs.Faults.{all_started}
use Rattle.conduct.proofs.Composition.{started_err, refused_err}
use Rattle.conduct.proofs.Logs.{passed_on, both_passed_on, counted, jobs_stand, are_logs, told_own}
use Rattle.conduct.proofs.closing.close.Goals as goal

-- what holds anyway holds of an outcome that is well
always : {A F P : Type 0} (r : Result A F) → P → OnOk r P
always (Ok v) p = p
always (Err f) p = tt

pub returns-in-Ok-clause-ok : goal.returns-in-Ok-clause-ok
returns-in-Ok-clause-ok g c = always c.unless_missed.result (subst IsOk (sym c.in-Ok.is) refl)

pub returns-in-Ok-clause-fault : goal.returns-in-Ok-clause-fault
returns-in-Ok-clause-fault g c =
    subst (λ (o : Result (Unit {0}) ConductFault). IfErr c.unless_missed.result (λ f. MatchResult o (λ _. f ≡ fault.Unequal) (λ h. f ≡ h))) (sym c.in-Ok.is) c.unless_missed.ensures.fault

pub account-ends-requires-clause-back : goal.account-ends-requires-clause-back
account-ends-requires-clause-back g c = c.requires.back (ap all_started c.in-Ok.is)

pub returns-in-Ok-clause-once : goal.returns-in-Ok-clause-once
returns-in-Ok-clause-once g c =
    let pass = c.args.managed.parted.pass in
    let accounted = c.account-ends.result in
    passed_on accounted.desk c.unless_missed.result c.unless_missed.ensures.desk c.account-ends.ensures.once (λ stand h old stopped.
    subst (λ (l : List Event). EachStandsInALog (handed_along l old.schedule.content) (vec_items accounted.ends)) (sym stopped.minutes) (jobs_stand (vec_items accounted.ends) (sent_of pass) _ _ stopped.sent stand))

pub returns-in-Ok-clause-own : goal.returns-in-Ok-clause-own
returns-in-Ok-clause-own g c =
    let e = c.account-ends.ensures in
    let law = c.each_report_is_its_workers_own.ensures in
    let session = c.args.managed.parted in
    let es = session.minutes.items in
    let heard = heard_of session.pass in
    let ends = vec_items c.account-ends.result.ends in
    both_passed_on c.account-ends.result.desk c.unless_missed.result c.unless_missed.ensures.desk c.unless_missed.ensures.missed e.once e.heard
    (λ none stand told h old sound stopped.
    let a : Schedule = old.schedule.content in
    let right = c.a_right_history_is_of_its_events.ensures in
    let are : AreAccepted es a = subst (λ (l : List Event). AreAccepted l a) (sym stopped.minutes) (right.accepted h a stopped.right) in
    let reported : map (λ (t : WorkerReport). t.report) heard ≡ reports_in es =
    ap (map (λ (t : WorkerReport). t.report)) stopped.heard ∙ right.in_order h a stopped.right (sym stopped.missed ∙ none) ∙ ap reports_in (sym stopped.minutes) in
    let each0 = jobs_stand ends (sent_of session.pass) _ _ stopped.sent stand in
    let each : EachStandsInALog (handed_along es a) ends = subst (λ (l : List Event). EachStandsInALog (handed_along l a) ends) (sym stopped.minutes) each0 in
    told_own ends heard es told
    (λ k below. law es a (map (λ (x : WorkerEnd g.row.G.Denot g.row.O.Denot). logged x.log.items) ends) heard are sound (are_logs ends heard es a each told reported) k below))

pub returns-in-Ok-clause-desk : goal.returns-in-Ok-clause-desk
returns-in-Ok-clause-desk g c =
    counted c.account-ends.result.desk (λ d. d.slots ≡ in_hand (map (λ r. r.2) (vec_items c.args.managed.results))) (λ d. length (vec_items d.holds) ≤ d.slots) c.unless_missed.result c.unless_missed.ensures.desk c.account-ends.ensures.in_hand c.account-ends.ensures.each_has_one

pub account_after-ends-requires-clause-back : goal.account_after-ends-requires-clause-back
account_after-ends-requires-clause-back g c = λ none. c.requires.back (ap all_started c.in-Err.is ∙ ap not none)

pub account_after-ends-requires-clause-workers : goal.account_after-ends-requires-clause-workers
account_after-ends-requires-clause-workers g c = λ none. c.requires.workers (ap all_started c.in-Err.is ∙ ap not none)

pub account_after-ends-requires-clause-all : goal.account_after-ends-requires-clause-all
account_after-ends-requires-clause-all g c = λ none. c.requires.all (ap all_started c.in-Err.is ∙ ap not none)

pub returns-in-Ok-clause-ends : goal.returns-in-Ok-clause-ends
returns-in-Ok-clause-ends g c = λ started. c.account-ends.ensures.ends

pub returns-in-Ok-clause-sent : goal.returns-in-Ok-clause-sent
returns-in-Ok-clause-sent g c = λ started. c.account-ends.ensures.sent

pub returns-in-Ok-clause-told : goal.returns-in-Ok-clause-told
returns-in-Ok-clause-told g c = λ started. c.account-ends.ensures.told

pub returns-in-Err-clause-ends : goal.returns-in-Err-clause-ends
returns-in-Err-clause-ends g c = λ started. c.account_after-ends.ensures.ends (started_err c.in-Err.fault (sym (ap all_started c.in-Err.is) ∙ started))

pub returns-in-Err-clause-none : goal.returns-in-Err-clause-none
returns-in-Err-clause-none g c = λ refused. c.account_after-ends.ensures.none (refused_err c.in-Err.fault (sym (ap all_started c.in-Err.is) ∙ refused))

pub returns-in-Err-clause-sent : goal.returns-in-Err-clause-sent
returns-in-Err-clause-sent g c = λ started. c.account_after-ends.ensures.sent (started_err c.in-Err.fault (sym (ap all_started c.in-Err.is) ∙ started))

pub returns-in-Err-clause-told : goal.returns-in-Err-clause-told
returns-in-Err-clause-told g c = λ started. c.account_after-ends.ensures.told (started_err c.in-Err.fault (sym (ap all_started c.in-Err.is) ∙ started))
