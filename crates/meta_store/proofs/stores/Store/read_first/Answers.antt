use Rattle.std.proofs.Common.{◌≡◌, IsTrue, IfErr}
use Rattle.record_rows.specs.Rows.{Rows}
use Rattle.record_rules.specs.Cells.{AreTexts}
use Rattle.record_tables.specs.Holds.{StoresFirst}
use Rattle.record_tables.specs.declared.faults.LoadFault.TheVariants as unread
use Rattle.sqlite.specs.Held.{state}
use Rattle.meta_store.proofs.CommitLemmas.{dropped, looked}
use Rattle.meta_store.proofs.ReadLemmas.{told_before}
use Rattle.meta_store.proofs.GivenLemmas.{load_dropped}
use Rattle.meta_store.proofs.stores.Store.read_first.Goals as goal

pub returns-clause-looks : goal.returns-clause-looks
returns-clause-looks g c =
    let auto : IsTrue c.is_autocommit-settled.result = cc in
    dropped g.S.Store c.args.self.now c.transaction-tx.result.conn.now c.load_old_rows.new.tx.conn.now c.drop-tx.new.self.0 (rw (← c.self.view_is) c.transaction-tx.ensures.begun) (rw (← c.self.view_is) (c.is_autocommit-settled.ensures.settled auto)) (λ _. ⊥)
    (looked _ (state g.S.Store c.transaction-tx.result.conn.now) (state g.S.Store c.load_old_rows.new.tx.conn.now) c.load_old_rows.result c.load_old_rows.ensures.ok c.load_old_rows.ensures.err) c.drop-tx.ensures.undone c.drop-tx.ensures.survives

pub returns-clause-fault : goal.returns-clause-fault
returns-clause-fault g c =
    told_before g.S.Store c.args.self.now c.transaction-tx.result.conn.now c.load_old_rows.new.tx.conn.now c.drop-tx.new.self.0 (rw (← c.self.view_is) c.transaction-tx.ensures.begun) c.drop-tx.ensures.survives
    (λ db. IfErr c.load_old_rows.result (λ e. e ≡ unread.NotOurs → (rows : Rows) → StoresFirst db rows → AreTexts rows → ⊥)) c.load_old_rows.ensures.fault

pub returns-clause-given : goal.returns-clause-given
returns-clause-given g c =
    load_dropped g.S.Store c.args.self.now c.transaction-tx.result.conn.now c.load_old_rows.new.tx.conn.now c.drop-tx.new.self.0 (rw (← c.self.view_is) c.transaction-tx.ensures.begun) c.load_old_rows.result c.load_old_rows.ensures.given c.drop-tx.ensures.survives
