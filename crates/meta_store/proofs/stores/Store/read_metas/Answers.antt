use Rattle.std.proofs.Common.{◌≡◌, IsTrue, IfErr, IfOk}
use Rattle.record_rows.specs.Rows.{Rows}
use Rattle.record_tables.specs.Holds.{Stores}
use Rattle.record_tables.specs.declared.faults.LoadFault.TheVariants as unread
use Rattle.sqlite.specs.Held.{state}
use Rattle.meta_store.proofs.CommitLemmas.{dropped, looked}
use Rattle.meta_store.proofs.MigrateLemmas.{none_read}
use Rattle.meta_store.proofs.ReadLemmas.{told_before}
use Rattle.meta_store.proofs.GivenLemmas.{load_dropped}
use Rattle.meta_store.proofs.stores.Store.read_metas.Goals as goal

pub returns-clause-looks : goal.returns-clause-looks
returns-clause-looks g c =
    let auto : IsTrue c.is_autocommit-settled.result = cc in
    dropped g.S.Store c.args.self.now c.transaction-tx.result.conn.now c.load_all.new.tx.conn.now c.drop-tx.new.self.0 (rw (← c.self.view_is) c.transaction-tx.ensures.begun) (rw (← c.self.view_is) (c.is_autocommit-settled.ensures.settled auto)) (λ _. ⊥)
    (looked _ (state g.S.Store c.transaction-tx.result.conn.now) (state g.S.Store c.load_all.new.tx.conn.now) c.load_all.result c.load_all.ensures.ok c.load_all.ensures.err) c.drop-tx.ensures.undone c.drop-tx.ensures.survives

pub returns-clause-list : goal.returns-clause-list
returns-clause-list g c =
    told_before g.S.Store c.args.self.now c.transaction-tx.result.conn.now c.load_all.new.tx.conn.now c.drop-tx.new.self.0 (rw (← c.self.view_is) c.transaction-tx.ensures.begun) c.drop-tx.ensures.survives
    (λ db. IfOk c.load_all.result (λ v. (rows : Rows) → Stores db rows → v.items ≡ rows.metas)) (λ clean inside. c.load_all.ensures.list clean)

pub returns-clause-fault : goal.returns-clause-fault
returns-clause-fault g c =
    told_before g.S.Store c.args.self.now c.transaction-tx.result.conn.now c.load_all.new.tx.conn.now c.drop-tx.new.self.0 (rw (← c.self.view_is) c.transaction-tx.ensures.begun) c.drop-tx.ensures.survives
    (λ db. IfErr c.load_all.result (λ e. e ≡ unread.NotOurs → (rows : Rows) → Stores db rows → ⊥)) (λ clean inside. none_read (state g.S.Store c.transaction-tx.result.conn.now).now c.load_all.result (c.load_all.ensures.fault clean))

pub returns-clause-given : goal.returns-clause-given
returns-clause-given g c =
    load_dropped g.S.Store c.args.self.now c.transaction-tx.result.conn.now c.load_all.new.tx.conn.now c.drop-tx.new.self.0 (rw (← c.self.view_is) c.transaction-tx.ensures.begun) c.load_all.result c.load_all.ensures.given c.drop-tx.ensures.survives
