use Rattle.std.proofs.Common.{◌≡◌, false, inr, pos, refl, rules}
use Rattle.sqlite.specs.Held.{state}
use Rattle.record_tables.specs.Holds.{Stores}
use Rattle.record_tables.specs.Loads.{is_version}
use Rattle.meta_store.proofs.ReadLemmas.{load_fault, of_version}
use Rattle.meta_store.proofs.GivenLemmas.{load_given}
use Rattle.meta_store.proofs.stores.Store.load_second.Goals as goal

pub returns-in-Err-clause-fault : goal.returns-in-Err-clause-fault
returns-in-Err-clause-fault g c clean = load_fault _ c.in-Err.fault c.fault_of_load.result c.fault_of_load.ensures (λ is rows stored texts. absurd (c.in-Err.ensures.fault clean is rows stored texts))

pub returns-then-not-is_version-clause-fault : goal.returns-then-not-is_version-clause-fault
returns-then-not-is_version-clause-fault g c clean =
    let test : is_version (pos 2) c.in-Ok.rows.metas ≡ false = search rules in
    inr (refl, λ rows stored texts. of_version (pos 2) false c.in-Ok.rows (Stores (state g.S.Store c.args.self.now).now) (c.in-Ok.ensures.list clean) test rows stored)

pub returns-in-Err-clause-given : goal.returns-in-Err-clause-given
returns-in-Err-clause-given g c clean =
    load_given (state g.S.Store c.args.self.now) (state g.S.Store c.read_rows.new.self) c.in-Err.fault c.fault_of_load.result c.fault_of_load.ensures (c.in-Err.ensures.given clean)
