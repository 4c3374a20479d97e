use Rattle.sqlite.specs.Held.{state}
use Rattle.meta_store.proofs.UpgradeLemmas.{upgrades_by}
use Rattle.record_tables.specs.Given.{IsGivenLoadFault}
use Rattle.record_tables.proofs.GivenLemmas.{given_refused, given_then}
use Rattle.meta_store.proofs.ReadLemmas.{handed_on, not_ours}
use Rattle.meta_store.proofs.upgrading.upgrade.Goals as goal

pub returns-in-Ok-clause-ok : goal.returns-in-Ok-clause-ok
returns-in-Ok-clause-ok g c =
    upgrades_by c.in_ok-made.made (state g.S.Store c.args.tx.now.conn.now) (state g.S.Store c.prepare.new.tx.conn.now) (state g.S.Store c.put_rows.new.tx.conn.now)
    c.in_ok-made.ensures.rows c.in_ok-made.ensures.ok c.in-Ok.ensures.ok

pub returns-in_err-made-clause-given : goal.returns-in_err-made-clause-given
returns-in_err-made-clause-given g c clean inside =
    handed_on (IsGivenLoadFault (state g.S.Store c.args.tx.now.conn.now) (state g.S.Store c.prepare.new.tx.conn.now)) c.in_err-made.field-0.0 c.from_residual.result (c.in_err-made.ensures.given clean inside) c.from_residual.ensures.1

pub returns-clause-fault : goal.returns-clause-fault
returns-clause-fault g c clean inside = λ is rows stored texts. absurd (not_ours c.in-Err.error c.refused.result c.refused.ensures is)

pub returns-clause-given : goal.returns-clause-given
returns-clause-given g c clean inside =
    let a = state g.S.Store c.args.tx.now.conn.now in
    let b = state g.S.Store c.prepare.new.tx.conn.now in
    let d = state g.S.Store c.put_rows.new.tx.conn.now in
    given_refused a d c.in-Err.error c.refused.result c.refused.ensures (given_then _ a b d c.in_ok-made.ensures.ok c.in-Err.ensures.err c.in-Err.error c.in-Err.ensures.given clean inside)
