-- When a database has these rows, by their keys, in the tables of the record.
use Rattle.std.specs.Prelude.{◌≡◌, Some, None, [], ◌∷◌, List, ℕ, Option, map, drop, Bool, true, false, IsTrue}
use Rattle.std.specs.List.Sorted.{IsPermutation}
use Rattle.sqlite.specs.Effect.{Database, IsDatabase}
use Rattle.sqlite.specs.Order.{Row}
use Rattle.sqlite.specs.Table.{Table as Kept}
use Rattle.sqlite.specs.Tree.{Trees}
use Rattle.sqlite_trees.specs.Tree.{rowid}
use Rattle.sqlite_trees.specs.View.{IsShaped}
use Rattle.sqlite_trees.specs.declared.store.Shape.TheVariants as shape
use Rattle.record_rules.specs.Keys.{rises_in}
use Rattle.record_rows.specs.Rows.{Rows}
use Rattle.record_rows.specs.declared.tables.Table.{Table}
use Rattle.record_rows.specs.declared.tables.Table.TheVariants.{DagLimit}
use Rattle.record_rules.specs.Cells.{cells_in}
use Rattle.record_tables.specs.Forms.{form_of, values_of}
use Rattle.record_tables.specs.Schema.{first_schema}
use Rattle.record_tables.specs.Others.{Others, with_others, are_apart}

-- the columns of a stored row, of a table whose key is that column; an INTEGER PRIMARY KEY is kept as the rowid, which stands first
abbrev pub columns_at : Option ℕ → Row → Row
columns_at None row = drop 1 row
columns_at (Some at) row = rowid row ∷ drop 2 row

abbrev pub columns_of : Kept → Row → Row
columns_of table = columns_at table.key

-- the rowids are integers and rise
abbrev pub IsRising : List Row → Type 0
IsRising = IsShaped shape.Table

-- the table has these rows and no others, each as often, in any order
pub record Shows (table : Kept) (db : Trees) (shown : List Row) : Type 0 where
  pub rising : IsRising (db table.tree)
  pub is : IsPermutation (map (columns_of table) (db table.tree)) shown

-- the database has the tables of the record and these rows, each table by its key, beside objects of others that leave them alone; and it is one that SQLite has
pub record Stores (db : Database) (rows : Rows) : Type 0 where
  pub beside : Others
  pub schema : (db.schema ≡ with_others beside) × IsTrue (are_apart beside)
  pub shows : (t : Table) → Shows (form_of t).table db.trees (map values_of (cells_in t rows))
  pub keys : (t : Table) → IsTrue (rises_in t rows)
  pub sound : IsDatabase db

-- the tables of version 1
abbrev pub is_first : Table → Bool
is_first DagLimit = false
is_first _ = true

-- the database has the tables of a record of version 1 and nothing else, and these rows, each table by its key; of bounds it has none
pub record StoresFirst (db : Database) (rows : Rows) : Type 0 where
  pub schema : db.schema ≡ first_schema
  pub shows : (t : Table) → IsTrue (is_first t) → Shows (form_of t).table db.trees (map values_of (cells_in t rows))
  pub none : rows.dag_limits ≡ []
  pub keys : (t : Table) → IsTrue (rises_in t rows)

-- a record of version 1 gets the table that it lacks, empty, and has the rows that it had
abbrev pub AddsLimits : Database → Database → Type 0
AddsLimits old new = (rows : Rows) → StoresFirst old rows → Stores new rows
