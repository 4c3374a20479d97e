use Rattle.std.proofs.Common.{◌≡◌, rules, inl, inr, refl, true, false}
use Rattle.sqlite.specs.Held.{state}
use Rattle.meta_store.specs.Schedules.{has_limits}
use Rattle.meta_store.proofs.CommitLemmas.{failed}
use Rattle.director.proofs.ListLemmas.{survives_itself}
use Rattle.director.proofs.OpenLemmas.{did_migrate, did_settle, migration_fails}
use Rattle.director.proofs.GivenLemmas.{store_given}
use Rattle.director.proofs.opening.migrate.Goals as goal

pub returns-then-has_limits-clause-done : goal.returns-then-has_limits-clause-done
returns-then-has_limits-clause-done g c clean =
    let has : has_limits c.args.store.now.schema ≡ true = search rules in
    inl (has, refl)

pub returns-then-has_limits-clause-transacts : goal.returns-then-has_limits-clause-transacts
returns-then-has_limits-clause-transacts g c = record { kept = λ clean is_open. inl (refl, refl); was_open = λ clean is_open. is_open; crash = survives_itself (state g.S.Store c.args.store.now) }

pub returns-in_err-_did-clause-transacts : goal.returns-in_err-_did-clause-transacts
returns-in_err-_did-clause-transacts g c = failed c.from_residual.result _ _ _ c.from_residual.ensures.1 c.in_err-_did.ensures.transacts

pub returns-in_err-_did-clause-fault : goal.returns-in_err-_did-clause-fault
returns-in_err-_did-clause-fault g c clean =
    migration_fails (state g.S.Store c.args.store.now).now c.in_err-_did.field-0.0 c.from_residual.result (c.in_err-_did.ensures.fault clean) c.from_residual.ensures.1

pub returns-clause-done : goal.returns-clause-done
returns-clause-done g c clean =
    let lacks : has_limits c.args.store.now.schema ≡ false = search rules in
    inr (did_migrate c.in_ok-_did._did (state g.S.Store c.args.store.now) (state g.S.Store c.migrate.new.self) lacks c.in_ok-_did.ensures.which c.in_ok-_did.ensures.transacts clean)

pub returns-clause-transacts : goal.returns-clause-transacts
returns-clause-transacts g c =
    let lacks : has_limits c.args.store.now.schema ≡ false = search rules in
    did_settle c.in_ok-_did._did (state g.S.Store c.args.store.now) (state g.S.Store c.migrate.new.self) lacks c.in_ok-_did.ensures.which c.in_ok-_did.ensures.transacts

pub returns-in_err-_did-clause-given : goal.returns-in_err-_did-clause-given
returns-in_err-_did-clause-given g c clean =
    store_given (state g.S.Store c.args.store.now) (state g.S.Store c.migrate.new.self) c.in_err-_did.field-0.0 c.from_residual.result (c.in_err-_did.ensures.given clean) c.from_residual.ensures.1
