use Rattle.std.proofs.Common.{subst, inr, refl}
use Rattle.sqlite.specs.Held.{state}
use Rattle.record_rows.specs.Rows.{Rows}
use Rattle.record_rules.specs.Changes.{put_rows}
use Rattle.record_tables.specs.Puts.{PutsIn}
use Rattle.meta_store.specs.Stores.{CommitsBy, IsAsBefore}
use Rattle.meta_store.specs.Transactions.{Commits, Undone}
use Rattle.meta_store.proofs.AskLemmas.{unbounded}
use Rattle.record_tables.specs.Given.{Asks}
use Rattle.meta_store.proofs.GivenLemmas.{fault_given}
use Rattle.meta_store.proofs.stores.Store.write.Goals as goal

pub returns-in-Ok-clause-transacts : goal.returns-in-Ok-clause-transacts
returns-in-Ok-clause-transacts g c =
    let old = state g.S.Store c.args.self.now in
    let new = state g.S.Store c.transact.new.self in
    subst (λ (r : Rows). Commits (PutsIn (put_rows r)) (CommitsBy (PutsIn (put_rows r)) old) old new) c.rows.ensures c.in-Ok.ensures.transacts

pub returns-in-Err-clause-transacts : goal.returns-in-Err-clause-transacts
returns-in-Err-clause-transacts g c =
    let old = state g.S.Store c.args.self.now in
    let new = state g.S.Store c.transact.new.self in
    subst (λ (r : Rows). Undone IsAsBefore (CommitsBy (PutsIn (put_rows r)) old) old new) c.rows.ensures c.in-Err.ensures.transacts

pub returns-in-Ok-clause-guarded : goal.returns-in-Ok-clause-guarded
returns-in-Ok-clause-guarded g c clean is = unbounded c.args.self.now.schema is (c.in-Ok.ensures.known clean)

pub returns-in-Err-clause-given : goal.returns-in-Err-clause-given
returns-in-Err-clause-given g c clean =
    fault_given (state g.S.Store c.args.self.now) (state g.S.Store c.transact.new.self) c.in-Err.error c.fault_of.result c.fault_of.ensures (c.in-Err.ensures.given clean (Asks (inr refl)))
