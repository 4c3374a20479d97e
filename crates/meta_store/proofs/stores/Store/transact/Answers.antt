use Rattle.std.proofs.Common.{IsOk}
use Rattle.sqlite.specs.Held.{state}
use Rattle.sqlite.specs.Listing.{understood}
use Rattle.meta_store.specs.Stores.{CommitsBy, CommitsFrom}
use Rattle.meta_store.specs.Transactions.{does}
use Rattle.meta_store.proofs.CommitLemmas.{asked, asked_known, failed, looks_undone}
use Rattle.record_tables.specs.Given.{IsGiven}
use Rattle.meta_store.proofs.GivenLemmas.{given_asked}
use Rattle.meta_store.proofs.ReadLemmas.{handed_on}
use Rattle.meta_store.proofs.stores.Store.transact.Goals as goal

pub returns-in_err-ask-clause-transacts : goal.returns-in_err-ask-clause-transacts
returns-in_err-ask-clause-transacts g c =
    failed c.from_residual.result _ _ _ c.from_residual.ensures.1
    (looks_undone (CommitsBy (does c.args.work c.args.rows.now) (state g.S.Store c.args.self.now)) (state g.S.Store c.args.self.now) (state g.S.Store c.ask.new.self) c.in_err-ask.ensures.looks)

pub returns-clause-transacts : goal.returns-clause-transacts
returns-clause-transacts g c =
    asked (does c.args.work c.args.rows.now) (state g.S.Store c.args.self.now) (state g.S.Store c.ask.new.self) (state g.S.Store c.begin.new.self) c.in_ok-ask.ensures.shows c.in_ok-ask.ensures.looks c.begin.result c.begin.ensures.transacts

pub returns-clause-known : goal.returns-clause-known
returns-clause-known g c =
    asked_known (does c.args.work c.args.rows.now) (state g.S.Store c.args.self.now) (state g.S.Store c.ask.new.self) (state g.S.Store c.begin.new.self) c.in_ok-ask.ensures.shows c.in_ok-ask.ensures.looks
    (IsOk (understood (state g.S.Store c.args.self.now).now.schema c.args.asked.now)) c.begin.result c.begin.ensures.transacts c.in_ok-ask.ensures.known

pub returns-in_err-ask-clause-given : goal.returns-in_err-ask-clause-given
returns-in_err-ask-clause-given g c clean ours =
    handed_on (IsGiven (state g.S.Store c.args.self.now) (state g.S.Store c.ask.new.self)) c.in_err-ask.field-0.0 c.from_residual.result (c.in_err-ask.ensures.given clean ours) c.from_residual.ensures.1

pub returns-clause-given : goal.returns-clause-given
returns-clause-given g c clean ours =
    let mid = state g.S.Store c.ask.new.self in
    let R = does c.args.work c.args.rows.now in
    given_asked R (CommitsFrom R mid.now) (state g.S.Store c.args.self.now) mid (state g.S.Store c.begin.new.self) c.in_ok-ask.ensures.looks c.begin.result c.begin.ensures.transacts c.begin.ensures.given clean
