use Rattle.std.proofs.Common.{◌≡◌, IsTrue}
use Rattle.sqlite.specs.Held.{state}
use Rattle.sqlite.specs.State.{HasCleanDisk}
use Rattle.record_rows.specs.Rows.{Rows}
use Rattle.record_rules.specs.Cells.{AreTexts}
use Rattle.record_tables.specs.Holds.{Stores}
use Rattle.record_tables.specs.Loads.{Stays}
use Rattle.record_rules.specs.Changes.{no_rows}
use Rattle.record_tables.specs.Puts.{GoesBy, take_first}
use Rattle.record_tables.proofs.rows.load_rows.Given as goal

-- the tables so far were read
abbrev pub invariant-loop-at : goal.invariant-loop-at
invariant-loop-at g l = record {
  same_reference : l.tx.conn.ghost_name ≡ l.fn.tx.conn.ghost_name;
  goes : GoesBy Stays (state g.S.Store l.fn.tx.conn.now) (state g.S.Store l.tx.conn.now);
  loaded : HasCleanDisk (state g.S.Store l.tx.conn.now) → IsTrue (state g.S.Store l.fn.tx.conn.now).in_transaction → (stored : Rows) → Stores (state g.S.Store l.fn.tx.conn.now).now stored → l.rows ≡ take_first l.at stored no_rows;
  texts : AreTexts l.rows;
}
