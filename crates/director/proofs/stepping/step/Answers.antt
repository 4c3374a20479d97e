use Rattle.sched_events.specs.declared.events.Event.{Event}
use Rattle.sched_model.specs.Schedule.{Schedule}
use Rattle.sqlite.specs.Held.{state}
use Rattle.meta_store.specs.Stores.{CommitsBy, Writes}
use Rattle.meta_store.proofs.CommitLemmas.{failed, transacts_on}
use Rattle.director.specs.Directors.{StepsIn}
use Rattle.director.proofs.ListLemmas.{nothing_done}
use Rattle.director.proofs.StepLemmas.{is_stepped, is_no_refusal, keeps_promises, stands_against}
use Rattle.director.proofs.GivenLemmas.{refusal_given}
use Rattle.director.proofs.stepping.step.Goals as goal

pub returns-clause-accepted : goal.returns-clause-accepted
returns-clause-accepted g c = is_stepped c.args.schedule.now.content _ c.args.event.now c.in_ok-change.change c.keep.result c.in_ok-change.ensures.accepted c.keep.ensures.answer c.keep.ensures.after

pub returns-clause-promises : goal.returns-clause-promises
returns-clause-promises g c =
    let e : Event = c.args.event.now in
    let a : Schedule = c.args.schedule.now.content in
    keeps_promises a _ e c.in_ok-change.change c.keep.result c.in_ok-change.ensures.accepted c.runs-kept.ensures.kept c.keep.ensures.after (c.accepted_events_keep_the_promises.ensures.each e a)

pub returns-clause-fault : goal.returns-clause-fault
returns-clause-fault g c = stands_against c.args.schedule.now.content c.args.event.now c.keep.result c.in_ok-change.ensures.accepted.accepted c.keep.ensures.fault

pub returns-clause-untouched : goal.returns-clause-untouched
returns-clause-untouched g c = is_no_refusal _ c.keep.result c.keep.ensures.fault

pub returns-clause-transacts : goal.returns-clause-transacts
returns-clause-transacts g c =
    let e : Event = c.args.event.now in
    let a : Schedule = c.args.schedule.now.content in
    let old = state g.S.Store c.args.store.now in
    transacts_on (Writes c.in_ok-change.change) (StepsIn e a) old (state g.S.Store c.keep.new.store)
    (λ new writes. c.a_planned_event_is_written.ensures e a c.in_ok-change.change old.now new c.in_ok-change.ensures.accepted c.runs-kept.ensures.kept writes) c.keep.result c.keep.ensures.transacts

pub returns-in_err-change-clause-transacts : goal.returns-in_err-change-clause-transacts
returns-in_err-change-clause-transacts g c =
    let old = state g.S.Store c.args.store.now in
    failed c.from_residual.result _ _ _ c.from_residual.ensures.1 (nothing_done (CommitsBy (StepsIn c.args.event.now c.args.schedule.now.content) old) old)

pub returns-in_err-change-clause-given : goal.returns-in_err-change-clause-given
returns-in_err-change-clause-given g c clean =
    let old = state g.S.Store c.args.store.now in
    refusal_given old old c.in_err-change.field-0.0 c.from_residual.result c.from_residual.ensures.1
