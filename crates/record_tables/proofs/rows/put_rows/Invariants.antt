use Rattle.std.proofs.Common.{◌≡◌}
use Rattle.sqlite.specs.Held.{state}
use Rattle.record_tables.specs.Puts.{GoesBy, PutsIn, put_first}
use Rattle.record_tables.proofs.rows.put_rows.Given as goal

-- the tables so far were put
abbrev pub invariant-loop-at : goal.invariant-loop-at
invariant-loop-at g l = record {
  same_reference : l.tx.conn.ghost_name ≡ l.fn.tx.conn.ghost_name;
  goes : GoesBy (PutsIn (put_first l.at l.fn.rows)) (state g.S.Store l.fn.tx.conn.now) (state g.S.Store l.tx.conn.now);
}
