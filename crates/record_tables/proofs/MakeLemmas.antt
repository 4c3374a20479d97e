-- What the texts of the statements that make the record mean.
use Rattle.std.proofs.Common.{◌≡◌, ℕ, List, Ok, refl}
use Rattle.sqlite.specs.Command.TheVariants.{CreateTable, CreateIndex}
use Rattle.sqlite.specs.Schema.{Schema}
use Rattle.sqlite.specs.Table.{Table}
use Rattle.sqlite_schema.specs.declared.schema.Index.{Index}
use Rattle.sqlite.specs.Compile.{table_defined_by}
use Rattle.sqlite_resolve.specs.Compile.{index_defined_by}
use Rattle.sqlite.specs.Change.{created}
use Rattle.sqlite_catalog.specs.Change.{indexed}
use Rattle.sqlite_tied.specs.Compute.{everything}
use Rattle.sqlite.specs.Listing.{understood}
use Rattle.sqlite.proofs.Callers.{IsPlain, command_of, statement_of}
use Rattle.record_tables.specs.Schema.{create_meta, create_pool, create_dag, create_dag_limit, create_run, create_instance, create_attempt, create_index, meta_table, pool_table, dag_table, dag_limit_table, run_table, instance_table, attempt_table, by_instance, no_schema, schema_1, schema_2, schema_3, schema_4, schema_5, schema_6, first_schema, record_schema}

-- the text makes this table where the schema is that one
abbrev pub Makes : Schema → List ℕ → Table → Schema → Type 0
Makes old sql table new =
    (command_of (understood old sql) ≡ CreateTable) × (statement_of sql (understood old sql) ≡ sql) × IsPlain (understood old sql) × (table_defined_by sql ≡ Ok table) × (created old table ≡ new)

pub make_meta : Makes no_schema create_meta (meta_table 0) schema_1
unfolding understood everything
make_meta = (refl, refl, (refl, refl), refl, refl)

pub make_pool : Makes schema_1 create_pool (pool_table 0) schema_2
unfolding understood everything
make_pool = (refl, refl, (refl, refl), refl, refl)

pub make_dag : Makes schema_2 create_dag (dag_table 0) schema_3
unfolding understood everything
make_dag = (refl, refl, (refl, refl), refl, refl)

pub make_run : Makes schema_3 create_run (run_table 0) schema_4
unfolding understood everything
make_run = (refl, refl, (refl, refl), refl, refl)

pub make_instance : Makes schema_4 create_instance (instance_table 0) schema_5
unfolding understood everything
make_instance = (refl, refl, (refl, refl), refl, refl)

pub make_attempt : Makes schema_5 create_attempt (attempt_table 0) schema_6
unfolding understood everything
make_attempt = (refl, refl, (refl, refl), refl, refl)

-- the text makes this index of the table at that place
abbrev pub Indexes : Schema → List ℕ → ℕ → Table → Index → Schema → Type 0
Indexes old sql at table index new =
    (command_of (understood old sql) ≡ CreateIndex at) × (statement_of sql (understood old sql) ≡ sql) × IsPlain (understood old sql) × (index_defined_by table sql ≡ Ok index) × (indexed old table index ≡ new)

pub make_index : Indexes schema_6 create_index 5 (attempt_table 9) (by_instance 9 0) first_schema
unfolding understood everything
make_index = (refl, refl, (refl, refl), refl, refl)

pub make_dag_limit : Makes first_schema create_dag_limit (dag_limit_table 0) record_schema
unfolding understood everything
make_dag_limit = (refl, refl, (refl, refl), refl, refl)
