use Rattle.std.proofs.Common.{◌≡◌, false, true, inr, pos, refl, rules}
use Rattle.sqlite.specs.Held.{state}
use Rattle.record_tables.specs.Holds.{Stores}
use Rattle.record_tables.specs.Loads.{is_version}
use Rattle.meta_store.proofs.ReadLemmas.{load_fault, metas_of_version}
use Rattle.meta_store.proofs.GivenLemmas.{load_given}
use Rattle.meta_store.proofs.stores.Store.look_at_second.Goals as goal

pub returns-then-is_version-clause-version : goal.returns-then-is_version-clause-version
returns-then-is_version-clause-version g c clean =
    let test : is_version (pos 2) c.in-Ok.metas.items ≡ true = search rules in
    metas_of_version (pos 2) true c.in-Ok.metas.items (Stores (state g.S.Store c.args.self.now).now) (c.in-Ok.ensures.list clean) test

pub returns-in-Ok-clause-fault : goal.returns-in-Ok-clause-fault
returns-in-Ok-clause-fault g c clean =
    let test : is_version (pos 2) c.in-Ok.metas.items ≡ false = search rules in
    inr (refl, λ rows stored texts. metas_of_version (pos 2) false c.in-Ok.metas.items (Stores (state g.S.Store c.args.self.now).now) (c.in-Ok.ensures.list clean) test rows stored)

pub returns-clause-fault : goal.returns-clause-fault
returns-clause-fault g c clean = load_fault _ c.in-Err.fault c.fault_of_load.result c.fault_of_load.ensures (λ is rows stored texts. absurd (c.in-Err.ensures.fault clean is rows stored))

pub returns-clause-given : goal.returns-clause-given
returns-clause-given g c clean =
    load_given (state g.S.Store c.args.self.now) (state g.S.Store c.read_metas.new.self) c.in-Err.fault c.fault_of_load.result c.fault_of_load.ensures (c.in-Err.ensures.given clean)
