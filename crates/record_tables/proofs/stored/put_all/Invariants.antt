use Rattle.std.proofs.Common.{◌≡◌, take}
use Rattle.sqlite.specs.Held.{state}
use Rattle.record_tables.specs.Puts.{GoesBy, PutsIn, put_in}
use Rattle.record_tables.proofs.stored.put_all.Given as goal

-- the rows so far were put
abbrev pub invariant-loop-row : goal.invariant-loop-row
invariant-loop-row g l = record {
  same_reference : l.tx.conn.ghost_name ≡ l.fn.tx.conn.ghost_name;
  goes : GoesBy (PutsIn (put_in g.X.Stored.among g.X.Stored.with_rows g.X.Keyed.before (take l.row-index l.rows))) (state g.S.Store l.fn.tx.conn.now) (state g.S.Store l.tx.conn.now);
}
