use Rattle.std.proofs.Common.{◌≡◌, ◌∙◌, false, true, inr, pos, refl, rules, subst, sym, ap}
use Rattle.sqlite.specs.Held.{state}
use Rattle.record_rules.specs.Cells.{AreTexts}
use Rattle.record_tables.specs.Holds.{StoresFirst}
use Rattle.record_tables.specs.Loads.{is_version}
use Rattle.meta_store.specs.Upgraded.{upgraded}
use Rattle.meta_store.proofs.BackLemmas.{texts_upgraded}
use Rattle.meta_store.proofs.ReadLemmas.{load_fault, of_version}
use Rattle.meta_store.proofs.GivenLemmas.{load_given}
use Rattle.meta_store.proofs.stores.Store.load_first.Goals as goal

pub returns-in-Err-clause-fault : goal.returns-in-Err-clause-fault
returns-in-Err-clause-fault g c clean =
    load_fault _ c.in-Err.fault c.fault_of_load.result c.fault_of_load.ensures (λ is rows stored texts. absurd (c.in-Err.ensures.fault clean is rows stored texts))

pub returns-then-not-is_version-clause-fault : goal.returns-then-not-is_version-clause-fault
returns-then-not-is_version-clause-fault g c clean =
    let test : is_version (pos 1) c.in-Ok.rows.metas ≡ false = search rules in
    inr (refl, λ rows stored texts. of_version (pos 1) false c.in-Ok.rows (StoresFirst (state g.S.Store c.args.self.now).now) (c.in-Ok.ensures.list clean) test rows stored)

pub returns-in-Ok-upgrade_rows-clause-list : goal.returns-in-Ok-upgrade_rows-clause-list
returns-in-Ok-upgrade_rows-clause-list g c clean = λ rows stored. c.in-Ok-upgrade_rows.ensures ∙ ap upgraded (c.in-Ok.ensures.list clean rows stored)

pub returns-in-Ok-upgrade_rows-clause-found : goal.returns-in-Ok-upgrade_rows-clause-found
returns-in-Ok-upgrade_rows-clause-found g c clean =
    let test : is_version (pos 1) c.in-Ok.rows.metas ≡ true = search rules in
    of_version (pos 1) true c.in-Ok.rows (StoresFirst (state g.S.Store c.args.self.now).now) (c.in-Ok.ensures.list clean) test

pub returns-in-Ok-upgrade_rows-clause-texts : goal.returns-in-Ok-upgrade_rows-clause-texts
returns-in-Ok-upgrade_rows-clause-texts g c = subst AreTexts (sym c.in-Ok-upgrade_rows.ensures) (texts_upgraded c.in-Ok.rows c.in-Ok.ensures.texts)

pub returns-in-Err-clause-given : goal.returns-in-Err-clause-given
returns-in-Err-clause-given g c clean =
    load_given (state g.S.Store c.args.self.now) (state g.S.Store c.read_first.new.self) c.in-Err.fault c.fault_of_load.result c.fault_of_load.ensures (c.in-Err.ensures.given clean)
