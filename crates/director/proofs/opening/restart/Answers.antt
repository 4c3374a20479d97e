use Rattle.std.proofs.Common.{ap, ◌∙◌, arith}
use Rattle.sqlite.specs.Held.{state}
use Rattle.sqlite.specs.State.{HasCleanDisk}
use Rattle.sched_model.specs.Schedule.{Schedule}
use Rattle.meta_store.specs.Stores.{CommitsBy, Migrates}
use Rattle.meta_store.proofs.CommitLemmas.{failed}
use Rattle.director.specs.Directors.{RestartsIn}
use Rattle.director.specs.Faults.{IsOpenFault, IsGivenFault}
use Rattle.director.proofs.LimitLemmas.{restarted}
use Rattle.director.proofs.OpenLemmas.{committed_by, handed_on, if_refused, load_told, looked_after, opens_told, perhaps_migrated, restart_told, undone_by, unopened}
use Rattle.meta_store.proofs.GivenLemmas.{fault_since}
use Rattle.director.proofs.GivenLemmas.{given_later, store_given}
use Rattle.director.proofs.opening.restart.Goals as goal

-- ---- not migrated
pub returns-in_err-migrate-clause-fault : goal.returns-in_err-migrate-clause-fault
returns-in_err-migrate-clause-fault g c clean =
    handed_on (IsOpenFault c.args.limits c.args.lanes (state g.S.Store c.args.store.now).now) c.in_err-migrate.field-0.0 c.from_residual.result (c.in_err-migrate.ensures.fault clean c.args.limits c.args.lanes) c.from_residual.ensures.1

pub returns-in_err-migrate-clause-transacts : goal.returns-in_err-migrate-clause-transacts
returns-in_err-migrate-clause-transacts g c =
    let old = state g.S.Store c.args.store.now in
    let new = state g.S.Store c.migrate.new.store in
    failed c.from_residual.result _ _ _ c.from_residual.ensures.1 (unopened (RestartsIn c.args.limits c.args.lanes) old new (perhaps_migrated (CommitsBy Migrates old) old new c.in_err-migrate.ensures.transacts))

pub returns-in_err-migrate-clause-refused_crash : goal.returns-in_err-migrate-clause-refused_crash
returns-in_err-migrate-clause-refused_crash g c = if_refused c.from_residual.result _ c.in_err-migrate.ensures.transacts.crash

-- ---- not loaded
pub returns-in_err-schedule-clause-fault : goal.returns-in_err-schedule-clause-fault
returns-in_err-schedule-clause-fault g c clean =
    let looks = c.load.ensures.looks in
    let two = looks.crash in
    let before : HasCleanDisk (state g.S.Store c.migrate.new.store) = omega (arith, two.clean) in
    load_told c.args.limits c.args.lanes (state g.S.Store c.args.store.now).now (state g.S.Store c.migrate.new.store).now c.in_err-schedule.field-0.0 c.from_residual-in_err-schedule.result (c.in_ok-migrate.ensures.done before)
    (c.in_err-schedule.ensures.fault clean) c.from_residual-in_err-schedule.ensures.1

pub returns-in_err-schedule-clause-transacts : goal.returns-in_err-schedule-clause-transacts
returns-in_err-schedule-clause-transacts g c =
    let old = state g.S.Store c.args.store.now in
    let new = state g.S.Store c.load.new.self in
    failed c.from_residual-in_err-schedule.result _ _ _ c.from_residual-in_err-schedule.ensures.1
    (unopened (RestartsIn c.args.limits c.args.lanes) old new (looked_after old (state g.S.Store c.migrate.new.store) new c.in_ok-migrate.ensures.transacts c.load.ensures.looks))

-- ---- restarted, or not
pub returns-in-Err-clause-fault : goal.returns-in-Err-clause-fault
returns-in-Err-clause-fault g c =
    restart_told c.args.limits c.args.lanes (state g.S.Store c.args.store.now) (state g.S.Store c.migrate.new.store) (state g.S.Store c.load.new.self) (state g.S.Store c.step.new.store) c.in_ok-schedule.schedule.content c.in_ok-migrate.ensures.done
    c.in_ok-schedule.ensures.schedule c.load.ensures.looks.crash c.in-Err.fault c.in-Err.ensures.transacts.crash c.in-Err.ensures.fault

pub returns-in-Err-clause-refused_crash : goal.returns-in-Err-clause-refused_crash
returns-in-Err-clause-refused_crash g c refused =
    rw (c.in-Err.ensures.untouched refused)
    (looked_after (state g.S.Store c.args.store.now) (state g.S.Store c.migrate.new.store) (state g.S.Store c.load.new.self) c.in_ok-migrate.ensures.transacts c.load.ensures.looks).crash

pub returns-in-Err-clause-transacts : goal.returns-in-Err-clause-transacts
returns-in-Err-clause-transacts g c =
    let old = state g.S.Store c.args.store.now in
    let mid = state g.S.Store c.migrate.new.store in
    let read = state g.S.Store c.load.new.self in
    undone_by c.args.limits c.args.lanes old mid read (state g.S.Store c.step.new.store) c.in_ok-schedule.schedule.content c.in_ok-migrate.ensures.done c.in_ok-schedule.ensures.schedule c.load.ensures.looks.crash
    (looked_after old mid read c.in_ok-migrate.ensures.transacts c.load.ensures.looks) c.load.ensures.looks.kept c.in-Err.ensures.transacts

pub returns-in-Ok-clause-transacts : goal.returns-in-Ok-clause-transacts
returns-in-Ok-clause-transacts g c =
    let old = state g.S.Store c.args.store.now in
    let mid = state g.S.Store c.migrate.new.store in
    let read = state g.S.Store c.load.new.self in
    committed_by c.args.limits c.args.lanes old mid read (state g.S.Store c.step.new.store) c.in_ok-schedule.schedule.content c.in_ok-migrate.ensures.done c.in_ok-schedule.ensures.schedule c.load.ensures.looks.crash
    (looked_after old mid read c.in_ok-migrate.ensures.transacts c.load.ensures.looks) c.load.ensures.looks.kept c.in-Ok.ensures.transacts

pub returns-in-Ok-clause-opened : goal.returns-in-Ok-clause-opened
returns-in-Ok-clause-opened g c =
    opens_told c.args.limits c.args.lanes (state g.S.Store c.args.store.now) (state g.S.Store c.migrate.new.store) (state g.S.Store c.load.new.self) (state g.S.Store c.step.new.store) c.in_ok-schedule.schedule.content c.in_ok-migrate.ensures.done
    c.in_ok-schedule.ensures.schedule c.load.ensures.looks.crash c.step.new.schedule.content c.in-Ok.answer c.in-Ok.ensures.transacts.crash c.in-Ok.ensures.accepted

pub returns-in-Ok-clause-limits : goal.returns-in-Ok-clause-limits
returns-in-Ok-clause-limits g c =
    ap (λ (x : Schedule). x.limits) c.in-Ok.ensures.accepted.after ∙ restarted c.args.lanes c.in_ok-schedule.schedule.content ∙ c.in_ok-schedule.ensures.limits

-- ---- its errors are those that SQLite gave
pub returns-in_err-migrate-clause-given : goal.returns-in_err-migrate-clause-given
returns-in_err-migrate-clause-given g c clean =
    handed_on (IsGivenFault (state g.S.Store c.args.store.now) (state g.S.Store c.migrate.new.store)) c.in_err-migrate.field-0.0 c.from_residual.result (c.in_err-migrate.ensures.given clean) c.from_residual.ensures.1

pub returns-in_err-schedule-clause-given : goal.returns-in_err-schedule-clause-given
returns-in_err-schedule-clause-given g c clean =
    let old = state g.S.Store c.args.store.now in
    let mid = state g.S.Store c.migrate.new.store in
    let new = state g.S.Store c.load.new.self in
    let two = c.load.ensures.looks.crash in
    let before : HasCleanDisk mid = omega (arith, two.clean) in
    store_given old new c.in_err-schedule.field-0.0 c.from_residual-in_err-schedule.result
    (fault_since old mid new c.in_err-schedule.field-0.0 c.in_ok-migrate.ensures.transacts.crash two before (c.in_err-schedule.ensures.given clean)) c.from_residual-in_err-schedule.ensures.1

pub returns-in-Err-clause-given : goal.returns-in-Err-clause-given
returns-in-Err-clause-given g c clean =
    let old = state g.S.Store c.args.store.now in
    let mid = state g.S.Store c.migrate.new.store in
    let read = state g.S.Store c.load.new.self in
    let new = state g.S.Store c.step.new.store in
    let three = c.in-Err.ensures.transacts.crash in
    let before : HasCleanDisk read = omega (arith, three.clean) in
    given_later old read new c.in-Err.fault (looked_after old mid read c.in_ok-migrate.ensures.transacts c.load.ensures.looks).crash three before (c.in-Err.ensures.given clean)
