use Rattle.sqlite.specs.Held.{state}
use Rattle.record_tables.proofs.GivenLemmas.{given_queries, given_refused}
use Rattle.record_tables.proofs.QueryLemmas.{goes_anyhow, query_stops}
use Rattle.record_tables.proofs.queries.query_all.Goals as goal

pub returns-in-Ok-clause-ok : goal.returns-in-Ok-clause-ok
returns-in-Ok-clause-ok g c = goes_anyhow _ _ (state g.S.Store c.args.tx.now.conn.now) (state g.S.Store c.query_all.new.self.conn.now) _ c.in-Ok.ensures.ok c.query_all.ensures.survives

pub returns-in-Err-clause-err : goal.returns-in-Err-clause-err
returns-in-Err-clause-err g c = query_stops _ _ (state g.S.Store c.args.tx.now.conn.now) (state g.S.Store c.query_all.new.self.conn.now) _ c.in-Err.ensures.err c.query_all.ensures.survives

pub returns-in-Err-clause-given : goal.returns-in-Err-clause-given
returns-in-Err-clause-given g c ours clean inside =
    let old = state g.S.Store c.args.tx.now.conn.now in
    let new = state g.S.Store c.query_all.new.self.conn.now in
    given_refused old new c.in-Err.error c.refused.result c.refused.ensures (given_queries c.args.text.now ours old new c.in-Err.error _ (c.in-Err.ensures.err clean))
