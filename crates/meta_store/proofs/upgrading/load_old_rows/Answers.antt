use Rattle.sqlite.specs.Held.{state}
use Rattle.meta_store.proofs.CommitLemmas.{looked}
use Rattle.meta_store.proofs.MigrateLemmas.{anyhow_after, stops_after}
use Rattle.meta_store.proofs.ReadLemmas.{fault_after, list_after, handed_on}
use Rattle.record_tables.specs.Given.{IsGivenLoadFault}
use Rattle.record_tables.proofs.GivenLemmas.{tells_load_last}
use Rattle.meta_store.proofs.upgrading.load_old_rows.Goals as goal

pub returns-clause-list : goal.returns-clause-list
returns-clause-list g c =
    let b = state g.S.Store c.add_table.new.tx.conn.now in
    let d = state g.S.Store c.load_rows.new.tx.conn.now in
    list_after (state g.S.Store c.args.tx.now.conn.now) b d c.in_ok-add_table.ensures.ok c.load_rows.result (looked _ b d c.load_rows.result c.load_rows.ensures.ok c.load_rows.ensures.err) c.load_rows.ensures.list

pub returns-clause-fault : goal.returns-clause-fault
returns-clause-fault g c =
    let b = state g.S.Store c.add_table.new.tx.conn.now in
    let d = state g.S.Store c.load_rows.new.tx.conn.now in
    fault_after (state g.S.Store c.args.tx.now.conn.now) b d c.in_ok-add_table.ensures.ok c.load_rows.result (looked _ b d c.load_rows.result c.load_rows.ensures.ok c.load_rows.ensures.err) c.load_rows.ensures.fault

pub returns-clause-ok : goal.returns-clause-ok
returns-clause-ok g c = anyhow_after _ _ (state g.S.Store c.args.tx.now.conn.now) (state g.S.Store c.add_table.new.tx.conn.now) (state g.S.Store c.load_rows.new.tx.conn.now) c.load_rows.result c.in_ok-add_table.ensures.ok c.load_rows.ensures.ok

pub returns-clause-err : goal.returns-clause-err
returns-clause-err g c = stops_after _ (state g.S.Store c.args.tx.now.conn.now) (state g.S.Store c.add_table.new.tx.conn.now) (state g.S.Store c.load_rows.new.tx.conn.now) c.load_rows.result c.in_ok-add_table.ensures.ok c.load_rows.ensures.err

pub returns-in_err-add_table-clause-given : goal.returns-in_err-add_table-clause-given
returns-in_err-add_table-clause-given g c clean inside =
    handed_on (IsGivenLoadFault (state g.S.Store c.args.tx.now.conn.now) (state g.S.Store c.add_table.new.tx.conn.now)) c.in_err-add_table.field-0.0 c.from_residual.result (c.in_err-add_table.ensures.given clean inside) c.from_residual.ensures.1

pub returns-clause-given : goal.returns-clause-given
returns-clause-given g c =
    tells_load_last _ (state g.S.Store c.args.tx.now.conn.now) (state g.S.Store c.add_table.new.tx.conn.now) (state g.S.Store c.load_rows.new.tx.conn.now) c.load_rows.result c.in_ok-add_table.ensures.ok c.load_rows.ensures.err c.load_rows.ensures.given
