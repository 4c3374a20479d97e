use Rattle.sqlite.specs.Held.{state}
use Rattle.meta_store.specs.Stores.{CommitsBy, Writes}
use Rattle.meta_store.proofs.CommitLemmas.{failed}
use Rattle.director.proofs.ListLemmas.{nothing_done}
use Rattle.director.proofs.StepLemmas.{store_fails}
use Rattle.director.specs.Faults.{IsGivenFault}
use Rattle.director.proofs.GivenLemmas.{store_given}
use Rattle.director.specs.declared.faults.Fault.TheVariants.{Memory}
use Rattle.director.proofs.OpenLemmas.{handed_on}
use Rattle.director.proofs.keeping.write.Goals as goal

pub returns-in_err-write-clause-fault : goal.returns-in_err-write-clause-fault
returns-in_err-write-clause-fault g c = store_fails c.in_err-write.field-0.0 c.from_residual-in_err-write.result c.in_err-write.ensures.fault c.from_residual-in_err-write.ensures.1

pub returns-in_err-reserve-clause-transacts : goal.returns-in_err-reserve-clause-transacts
returns-in_err-reserve-clause-transacts g c =
    let old = state g.S.Store c.args.store.now in
    failed c.from_residual.result _ _ _ c.from_residual.ensures.1 (nothing_done (CommitsBy (Writes c.args.change.now) old) old)

pub returns-in_err-write-clause-transacts : goal.returns-in_err-write-clause-transacts
returns-in_err-write-clause-transacts g c = failed c.from_residual-in_err-write.result _ _ _ c.from_residual-in_err-write.ensures.1 c.in_err-write.ensures.transacts

pub returns-in_err-reserve-clause-given : goal.returns-in_err-reserve-clause-given
returns-in_err-reserve-clause-given g c clean =
    let old = state g.S.Store c.args.store.now in
    handed_on (IsGivenFault old old) Memory c.from_residual.result tt c.from_residual.ensures.1

pub returns-in_err-write-clause-given : goal.returns-in_err-write-clause-given
returns-in_err-write-clause-given g c clean =
    store_given (state g.S.Store c.args.store.now) (state g.S.Store c.write.new.self) c.in_err-write.field-0.0 c.from_residual-in_err-write.result (c.in_err-write.ensures.given clean) c.from_residual-in_err-write.ensures.1
