use Rattle.sqlite.specs.Held.{state}
use Rattle.record_tables.proofs.GivenLemmas.{given_refused}
use Rattle.meta_store.proofs.upgrading.add_table.Goals as goal

pub returns-in-Err-clause-given : goal.returns-in-Err-clause-given
returns-in-Err-clause-given g c clean inside =
    given_refused (state g.S.Store c.args.tx.now.conn.now) (state g.S.Store c.add_limits.new.tx.conn.now) c.in-Err.error c.refused.result c.refused.ensures (c.in-Err.ensures.given clean inside)
