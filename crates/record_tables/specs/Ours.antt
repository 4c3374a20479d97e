-- When a schema has the tables of the record, with each of their columns. SQL goes by names without case.
use Rattle.std.specs.Prelude.{Bool, ◌&&◌, ◌||◌, not, fold, List, ℕ, codes}
use Rattle.std.specs.List.{list_any}
use Rattle.sqlite.specs.Schema.{Schema}
use Rattle.sqlite.specs.Table.{Table as Kept}
use Rattle.sqlite_schema.specs.Names.{same_name}
use Rattle.record_tables.specs.Forms.{Form, meta_form, pool_form, dag_form, dag_limit_form, run_form, instance_form, attempt_form}

abbrev pub has_column : Kept → List ℕ → Bool
has_column table name = list_any (λ c. same_name c.name name) table.columns

-- it has the name of that table, and each of its columns
abbrev pub is_table_of : Form → Kept → Bool
is_table_of f table = fold (λ b name. b && has_column table name) (same_name table.name f.table.name) f.columns

abbrev pub has_table : Form → Schema → Bool
has_table f schema = list_any (is_table_of f) schema.tables

-- a table is named `dag_limit`, which version 1 has not
abbrev pub has_limits : Schema → Bool
has_limits schema = list_any (λ (t : Kept). same_name t.name (codes "dag_limit")) schema.tables

abbrev pub has_first_tables : Schema → Bool
has_first_tables schema =
    (((((has_table meta_form schema && has_table pool_form schema) && has_table dag_form schema) && has_table run_form schema) && has_table instance_form schema) && has_table attempt_form schema)

-- the six tables of version 1 are there with their columns, and `dag_limit` with its columns where a table has that name
abbrev pub is_ours : Schema → Bool
is_ours schema = has_first_tables schema && (not (has_limits schema) || has_table dag_limit_form schema)
