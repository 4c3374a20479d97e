-- How each table of the record is kept in SQLite: its place in the schema, its columns and its texts.
use Rattle.std.specs.Prelude.{ℕ, zero, suc, ℤ, List, [], ◌∷◌, map, drop, length, codes, Option, Some, None}
use Rattle.sqlite.specs.declared.types.Value.{Value}
use Rattle.sqlite.specs.declared.types.Value.TheVariants.{Null, Int, Text}
use Rattle.sqlite.specs.Order.{Row}
use Rattle.sqlite.specs.Table.{Table as Kept}
use Rattle.sqlite.specs.Term.{Term, lit, col}
use Rattle.sqlite_value.specs.Order.{column}
use Rattle.sqlite_rules.specs.Edit.{next_rowid}
use Rattle.record_rows.specs.declared.tables.Table.{Table}
use Rattle.record_rows.specs.declared.tables.Table.TheVariants.{Meta, Pool, Dag, DagLimit, Run, Instance, Attempt}
use Rattle.record_rules.specs.Cells.{Cell, Number, Words, Perhaps}
use Rattle.record_tables.specs.Schema.{meta_table, pool_table, dag_table, dag_limit_table, run_table, instance_table, attempt_table, create_meta, create_pool, create_dag, create_dag_limit, create_run, create_instance, create_attempt}

-- how a table is kept: `at` is its place among the tables of the schema
pub record Form : Type 0 where
  pub at : ℕ
  pub table : Kept
  pub columns : List (List ℕ)
  pub create : List ℕ
  pub put : List ℕ
  pub select : List ℕ

abbrev pub meta_form : Form
meta_form = record {
  at = 0;
  table = meta_table 0;
  columns = codes "one" ∷ codes "version" ∷ codes "now" ∷ codes "next_serial" ∷ codes "lanes" ∷ [];
  create = create_meta;
  put = codes "INSERT OR REPLACE INTO meta VALUES (?1, ?2, ?3, ?4, ?5)";
  select = codes "SELECT one, version, now, next_serial, lanes FROM meta";
}

abbrev pub pool_form : Form
pool_form = record {
  at = 1;
  table = pool_table 1;
  columns = codes "name" ∷ codes "size" ∷ [];
  create = create_pool;
  put = codes "INSERT OR REPLACE INTO pool VALUES (?1, ?2)";
  select = codes "SELECT name, size FROM pool";
}

abbrev pub dag_form : Form
dag_form = record {
  at = 2;
  table = dag_table 3;
  columns = codes "dag_id" ∷ codes "body" ∷ codes "paused" ∷ [];
  create = create_dag;
  put = codes "INSERT OR REPLACE INTO dag VALUES (?1, ?2, ?3)";
  select = codes "SELECT dag_id, body, paused FROM dag";
}

abbrev pub dag_limit_form : Form
dag_limit_form = record {
  at = 6;
  table = dag_limit_table 11;
  columns = codes "dag_id" ∷ codes "max_active_tasks" ∷ [];
  create = create_dag_limit;
  put = codes "INSERT OR REPLACE INTO dag_limit VALUES (?1, ?2)";
  select = codes "SELECT dag_id, max_active_tasks FROM dag_limit";
}

abbrev pub run_form : Form
run_form = record {
  at = 3;
  table = run_table 5;
  columns = codes "dag_id" ∷ codes "logical" ∷ codes "data_start" ∷ codes "data_end" ∷ codes "kind" ∷ codes "phase" ∷ [];
  create = create_run;
  put = codes "INSERT OR REPLACE INTO run VALUES (?1, ?2, ?3, ?4, ?5, ?6)";
  select = codes "SELECT dag_id, logical, data_start, data_end, kind, phase FROM run";
}

abbrev pub instance_form : Form
instance_form = record {
  at = 4;
  table = instance_table 7;
  columns = codes "dag_id" ∷ codes "logical" ∷ codes "task_id" ∷ codes "verdict" ∷ codes "since" ∷ [];
  create = create_instance;
  put = codes "INSERT OR REPLACE INTO instance VALUES (?1, ?2, ?3, ?4, ?5)";
  select = codes "SELECT dag_id, logical, task_id, verdict, since FROM instance";
}

abbrev pub attempt_form : Form
attempt_form = record {
  at = 5;
  table = attempt_table 9;
  columns = codes "serial" ∷ codes "dag_id" ∷ codes "logical" ∷ codes "task_id" ∷ codes "try_number" ∷ codes "slots" ∷ codes "started" ∷ codes "ended" ∷ codes "outcome" ∷ [];
  create = create_attempt;
  put = codes "INSERT OR REPLACE INTO attempt VALUES (?1, ?2, ?3, ?4, ?5, ?6, ?7, ?8, ?9)";
  select = codes "SELECT serial, dag_id, logical, task_id, try_number, slots, started, ended, outcome FROM attempt";
}

abbrev pub form_of : Table → Form
form_of Meta = meta_form
form_of Pool = pool_form
form_of Dag = dag_form
form_of DagLimit = dag_limit_form
form_of Run = run_form
form_of Instance = instance_form
form_of Attempt = attempt_form

-- ---- the values of a row, column by column
abbrev pub or_null : Option ℤ → Value
or_null None = Null
or_null (Some n) = Int n

abbrev pub value_of : Cell → Value
value_of (Number n) = Int n
value_of (Words t) = Text t
value_of (Perhaps o) = or_null o

abbrev pub values_of : List Cell → Row
values_of = map value_of

-- so many places from that one on
abbrev pub places_from : ℕ → ℕ → List ℕ
places_from at zero = []
places_from at (suc n) = at ∷ places_from (suc at) n

-- where the columns of a table stand in the rows that it keeps: an INTEGER PRIMARY KEY is the rowid, which stands first
abbrev pub places_at : Option ℕ → ℕ → List ℕ
places_at None n = places_from 1 n
places_at (Some at) n = 0 ∷ drop 1 (places_from 1 n)

abbrev pub places_of : Form → List ℕ
places_of f = places_at f.table.key (length f.columns)

-- the columns that the query of a table shows
abbrev pub shown_of : Form → List Term
shown_of f = map (col 1) (places_of f)

-- what the statement that puts a row writes, from its parameters
abbrev pub terms_at : Option ℕ → ℕ → List Term
terms_at None n = lit Null ∷ map (col 0) (places_from 0 n)
terms_at (Some at) n = col 0 0 ∷ lit Null ∷ map (col 0) (drop 1 (places_from 0 n))

abbrev pub terms_of : Form → List Term
terms_of f = terms_at f.table.key (length f.columns)

abbrev pub width_of : Form → ℕ
width_of f = suc (length f.columns)

-- the row that those terms give, of these values
abbrev pub source_at : Option ℕ → Row → Row
source_at None vs = Null ∷ vs
source_at (Some at) vs = column vs 0 ∷ Null ∷ drop 1 vs

abbrev pub source_of : Form → Row → Row
source_of f vs = source_at f.table.key vs

-- the row that the table keeps, beside these rows
abbrev pub row_at : Option ℕ → List Row → Row → Row
row_at None rows vs = Int (next_rowid rows) ∷ vs
row_at (Some at) rows vs = source_at (Some at) vs

abbrev pub row_of : Form → List Row → Row → Row
row_of f rows vs = row_at f.table.key rows vs

-- the first columns of a row that a query shows, and those of a row that a table keeps
abbrev pub first_of : Form → Row → Row
first_of f r = map (column r) (places_from 0 (length f.columns))

abbrev pub pick : Form → Row → Row
pick f r = map (column r) (places_of f)
