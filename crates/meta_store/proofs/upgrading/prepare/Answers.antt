use Rattle.std.proofs.Common.{◌≡◌, false, true, pos, rules}
use Rattle.sqlite.specs.Held.{state}
use Rattle.record_rows.specs.Rows.{Rows}
use Rattle.record_rows.specs.declared.tables.Table.TheVariants.{Meta, Dag}
use Rattle.record_rules.specs.Cells.{AreTexts}
use Rattle.record_tables.specs.Holds.{StoresFirst}
use Rattle.record_tables.specs.Loads.{is_version}
use Rattle.record_tables.specs.declared.faults.LoadFault.TheVariants as fault
use Rattle.record_tables.proofs.StepLemmas.{stops_then}
use Rattle.meta_store.specs.Upgraded.{second_rows}
use Rattle.meta_store.proofs.MigrateLemmas.{adds_stay, on_err}
use Rattle.meta_store.proofs.ReadLemmas.{handed_on, prepared, table_fault, version_after}
use Rattle.record_tables.specs.Given.{IsGivenLoadFault}
use Rattle.record_tables.proofs.GivenLemmas.{load_then}
use Rattle.meta_store.proofs.upgrading.prepare.Goals as goal

pub returns-in_err-metas-clause-err : goal.returns-in_err-metas-clause-err
returns-in_err-metas-clause-err g c =
    on_err c.from_residual-in_err-metas.result _ (stops_then _ (state g.S.Store c.args.tx.now.conn.now) (state g.S.Store c.add_table.new.tx.conn.now) (state g.S.Store c.load_all.new.tx.conn.now) c.in_ok-add_table.ensures.ok c.in_err-metas.ensures.err)

pub returns-in_err-dags-clause-err : goal.returns-in_err-dags-clause-err
returns-in_err-dags-clause-err g c =
    on_err c.from_residual-in_err-dags.result _ (stops_then _ (state g.S.Store c.args.tx.now.conn.now) (state g.S.Store c.add_table.new.tx.conn.now) (state g.S.Store c.load_all-2.new.tx.conn.now) c.in_ok-add_table.ensures.ok
    (stops_then _ (state g.S.Store c.add_table.new.tx.conn.now) (state g.S.Store c.load_all.new.tx.conn.now) (state g.S.Store c.load_all-2.new.tx.conn.now) c.in_ok-metas.ensures.ok c.in_err-dags.ensures.err))

pub returns-in-Ok-clause-ok : goal.returns-in-Ok-clause-ok
returns-in-Ok-clause-ok g c =
    let a = state g.S.Store c.args.tx.now.conn.now in
    let b = state g.S.Store c.add_table.new.tx.conn.now in
    let d = state g.S.Store c.load_all.new.tx.conn.now in
    let e = state g.S.Store c.load_all-2.new.tx.conn.now in
    adds_stay a d e (adds_stay a b d c.in_ok-add_table.ensures.ok c.in_ok-metas.ensures.ok) c.in_ok-dags.ensures.ok

pub returns-in_err-metas-clause-fault : goal.returns-in_err-metas-clause-fault
returns-in_err-metas-clause-fault g c clean inside =
    let a = state g.S.Store c.args.tx.now.conn.now in
    let b = state g.S.Store c.add_table.new.tx.conn.now in
    let d = state g.S.Store c.load_all.new.tx.conn.now in
    handed_on (λ e. e ≡ fault.NotOurs → (rows : Rows) → StoresFirst a.now rows → AreTexts rows → is_version (pos 1) rows.metas ≡ false) c.in_err-metas.field-0.0 c.from_residual-in_err-metas.result
    (table_fault a b d c.in_ok-add_table.ensures.ok Meta c.in_err-metas.field-0.0 c.in_err-metas.ensures.err c.in_err-metas.ensures.fault clean inside) c.from_residual-in_err-metas.ensures.1

pub returns-then-not-is_version-clause-fault : goal.returns-then-not-is_version-clause-fault
returns-then-not-is_version-clause-fault g c clean inside =
    let a = state g.S.Store c.args.tx.now.conn.now in
    let b = state g.S.Store c.add_table.new.tx.conn.now in
    let d = state g.S.Store c.load_all.new.tx.conn.now in
    let test : is_version (pos 1) c.in_ok-metas.metas.items ≡ false = search rules in
    λ is rows stored texts. version_after a b d c.in_ok-add_table.ensures.ok false c.in_ok-metas.metas.items c.in_ok-metas.ensures.ok c.in_ok-metas.ensures.list test clean inside rows stored

pub returns-in_err-dags-clause-fault : goal.returns-in_err-dags-clause-fault
returns-in_err-dags-clause-fault g c clean inside =
    let a = state g.S.Store c.args.tx.now.conn.now in
    let b = state g.S.Store c.add_table.new.tx.conn.now in
    let d = state g.S.Store c.load_all.new.tx.conn.now in
    let e = state g.S.Store c.load_all-2.new.tx.conn.now in
    handed_on (λ why. why ≡ fault.NotOurs → (rows : Rows) → StoresFirst a.now rows → AreTexts rows → is_version (pos 1) rows.metas ≡ false) c.in_err-dags.field-0.0 c.from_residual-in_err-dags.result
    (table_fault a d e (adds_stay a b d c.in_ok-add_table.ensures.ok c.in_ok-metas.ensures.ok) Dag c.in_err-dags.field-0.0 c.in_err-dags.ensures.err c.in_err-dags.ensures.fault clean inside) c.from_residual-in_err-dags.ensures.1

pub returns-in-Ok-clause-rows : goal.returns-in-Ok-clause-rows
returns-in-Ok-clause-rows g c =
    let a = state g.S.Store c.args.tx.now.conn.now in
    let b = state g.S.Store c.add_table.new.tx.conn.now in
    let d = state g.S.Store c.load_all.new.tx.conn.now in
    let e = state g.S.Store c.load_all-2.new.tx.conn.now in
    let test : is_version (pos 1) c.in_ok-metas.metas.items ≡ true = search rules in
    let is : c.in-Ok.made ≡ second_rows c.in_ok-metas.metas.items c.in_ok-dags.dags.items = search rules in
    prepared a b d e c.in_ok-add_table.ensures.ok c.in_ok-metas.ensures.ok c.in_ok-dags.ensures.ok c.in_ok-metas.metas.items c.in_ok-dags.dags.items c.in-Ok.made c.in_ok-metas.ensures.list c.in_ok-dags.ensures.list test is

pub returns-in_err-add_table-clause-given : goal.returns-in_err-add_table-clause-given
returns-in_err-add_table-clause-given g c clean inside =
    handed_on (IsGivenLoadFault (state g.S.Store c.args.tx.now.conn.now) (state g.S.Store c.add_table.new.tx.conn.now)) c.in_err-add_table.field-0.0 c.from_residual.result (c.in_err-add_table.ensures.given clean inside) c.from_residual.ensures.1

pub returns-in_err-metas-clause-given : goal.returns-in_err-metas-clause-given
returns-in_err-metas-clause-given g c clean inside =
    let a = state g.S.Store c.args.tx.now.conn.now in
    let b = state g.S.Store c.add_table.new.tx.conn.now in
    let d = state g.S.Store c.load_all.new.tx.conn.now in
    handed_on (IsGivenLoadFault a d) c.in_err-metas.field-0.0 c.from_residual-in_err-metas.result
    (load_then _ a b d c.in_ok-add_table.ensures.ok c.in_err-metas.ensures.err c.in_err-metas.field-0.0 c.in_err-metas.ensures.given clean inside) c.from_residual-in_err-metas.ensures.1

pub returns-in_err-dags-clause-given : goal.returns-in_err-dags-clause-given
returns-in_err-dags-clause-given g c clean inside =
    let a = state g.S.Store c.args.tx.now.conn.now in
    let b = state g.S.Store c.add_table.new.tx.conn.now in
    let d = state g.S.Store c.load_all.new.tx.conn.now in
    let e = state g.S.Store c.load_all-2.new.tx.conn.now in
    handed_on (IsGivenLoadFault a e) c.in_err-dags.field-0.0 c.from_residual-in_err-dags.result
    (load_then _ a d e (adds_stay a b d c.in_ok-add_table.ensures.ok c.in_ok-metas.ensures.ok) c.in_err-dags.ensures.err c.in_err-dags.field-0.0 c.in_err-dags.ensures.given clean inside) c.from_residual-in_err-dags.ensures.1
