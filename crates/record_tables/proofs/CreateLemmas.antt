-- What the statements that make the record do to a database whose schema is known.
use Rattle.std.proofs.Common.{◌≡◌, ℕ, zero, suc, ◌+◌, ◌<◌, List, [], ◌∷◌, ◌++◌, map, false, None, Ok, Err, Result, OnOk, IsTrue, refl, sym, ap, subst, ◌∙◌, arith}
use Rattle.std.specs.List.{AllByRecursion}
use Rattle.sqlite_trees.specs.Tree.{Trees}
use Rattle.sqlite_schema.specs.declared.schema.Schema.{Schema}
use Rattle.sqlite_schema.specs.declared.schema.Table.{Table as Kept}
use Rattle.sqlite_schema.specs.declared.command.Command.TheVariants.{CreateTable, CreateIndex}
use Rattle.sqlite_catalog.specs.Calls.{CreatesIndex}
use Rattle.sqlite_catalog.specs.Change.{indexed}
use Rattle.sqlite_rules.proofs.ListLemmas.{all_has, all_from}
use Rattle.sqlite.specs.Change.{created, next_tree, KeepsRows}
use Rattle.sqlite.specs.declared.error.Error.{Error}
use Rattle.sqlite.specs.Effect.{Database, IsDatabase}
use Rattle.sqlite.specs.Does.{Tally, Does, Defines, MakesIndex, lacks_sequence}
use Rattle.sqlite.specs.State.{State, mode_of, Writes, ExecutesInside}
use Rattle.sqlite.proofs.Callers.{runs_as}
use Rattle.record_tables.specs.Schema.{meta_table, pool_table, dag_table, dag_limit_table, run_table, instance_table, attempt_table, by_instance, create_meta, create_pool, create_dag, create_dag_limit, create_run, create_instance, create_attempt, create_index, no_schema, schema_1, schema_2, schema_3, schema_4, schema_5, schema_6, first_schema, record_schema, text_at, schema_at}
use Rattle.record_rows.specs.Rows.{Rows}
use Rattle.record_rows.specs.declared.tables.Table.{Table}
use Rattle.record_rows.specs.declared.tables.Table.TheVariants.{Meta, Pool, Dag, DagLimit, Run, Instance, Attempt}
use Rattle.record_rules.specs.Cells.{cells_in, dag_limit_cells}
use Rattle.record_tables.specs.Forms.{form_of, values_of}
use Rattle.record_tables.specs.Holds.{Shows, Stores, StoresFirst, AddsLimits, is_first}
use Rattle.record_tables.specs.Empties.{IsEmpty, Extends}
use Rattle.record_tables.proofs.MakeLemmas.{Makes, make_meta, make_pool, make_dag, make_dag_limit, make_run, make_instance, make_attempt, make_index}
use Rattle.record_tables.proofs.ReplaceLemmas.{went, same_value}
use Rattle.record_tables.proofs.PutLemmas.{shows_still}
use Rattle.record_tables.proofs.StoredLemmas.{shows_none}

pub creates : (schema after : Schema) (sql : List ℕ) (table : Kept) → Makes schema sql table after → lacks_sequence after ≡ false → (old new : State) (r : Result ℕ Error) → old.now.schema ≡ schema
    → ExecutesInside 0 sql [] old new r → OnOk r ((new.now.schema ≡ after) × (new.now.trees (next_tree schema) ≡ []) × KeepsRows schema.tables old.now.trees new.now.trees × IsDatabase new.now)
creates schema after sql table m unsequenced old new (Err e) has h = tt
creates schema after sql table m unsequenced old new (Ok count) has h =
    let w = subst (λ t. Writes old new None CreateTable t [] count) m.1 (runs_as sql [] old new schema has CreateTable m.0 m.2 count h.0) in
    let all = went w.changed in
    let first = went all.1 in
    let made = first.1 in
    let same : made.table ≡ table = same_value (sym made.defined ∙ m.3) in
    let is : first.0.schema ≡ after = made.is ∙ ap (λ s. created s made.table) has ∙ ap (created schema) same ∙ m.4 in
    let plain : lacks_sequence first.0.schema ≡ false = ap lacks_sequence is ∙ unsequenced in
    let now : new.now ≡ first.0 = ap (λ (p : Tally × Database). p.1) (same_value all.2) ∙ same_value (rw plain at first.2) in (
      ap (λ (d : Database). d.schema) now ∙ is,
      ap (λ (d : Database). d.trees (next_tree schema)) now ∙ subst (λ s. first.0.trees (next_tree s) ≡ []) has made.empty,
      subst (λ (d : Database). KeepsRows schema.tables old.now.trees d.trees) (sym now) (subst (λ s. KeepsRows s.tables old.now.trees first.0.trees) has made.others),
      w.sound,
    )

-- the index leaves the rows of each table
pub indexes : (old new : State) (count : ℕ) → old.now.schema ≡ schema_6 → ExecutesInside 0 create_index [] old new (Ok count) → (new.now.schema ≡ first_schema) × KeepsRows schema_6.tables old.now.trees new.now.trees × IsDatabase new.now
indexes old new count has h =
    let w = subst (λ t. Writes old new None (CreateIndex 5) t [] count) make_index.1 (runs_as create_index [] old new schema_6 has (CreateIndex 5) make_index.0 make_index.2 count h.0) in
    let done = subst (λ s. Does old.step_limit (mode_of old) [] (record old.now { schema = s }) create_index None (CreateIndex 5) (Ok (w.tally, new.now))) has w.changed in
    let on : Defines (mode_of old) (MakesIndex create_index (record old.now { schema = schema_6 }) (attempt_table 9)) (Ok (w.tally, new.now)) = done in
    let all = went on in
    let made : CreatesIndex schema_6 (attempt_table 9) create_index old.now.trees all.0.schema all.0.trees = all.1 in
    let same : made.index ≡ by_instance 9 0 = same_value (sym made.defined ∙ make_index.3) in
    let now : new.now ≡ all.0 = ap (λ (p : Tally × Database). p.1) (same_value all.2) in (
      ap (λ (d : Database). d.schema) now ∙ made.is ∙ ap (indexed schema_6 (attempt_table 9)) same ∙ make_index.4,
      subst (λ (d : Database). KeepsRows schema_6.tables old.now.trees d.trees) (sym now) made.rows,
      w.sound,
    )

abbrev AreEmpty : List Kept → Trees → Type 0
AreEmpty tables db = AllByRecursion (λ t. db t.tree ≡ []) tables

still_empty : (tables : List Kept) (old new : Trees) → KeepsRows tables old new → AreEmpty tables old → AreEmpty tables new
still_empty tables old new same empty = all_from _ tables (λ t h. all_has _ tables t same h ∙ all_has _ tables t empty h)

one_more : (tables : List Kept) (table : Kept) (db : Trees) → AreEmpty tables db → db table.tree ≡ [] → AreEmpty (tables ++ table ∷ []) db
one_more [] table db empty none = (none, tt)
one_more (t ∷ tables) table db empty none = (empty.0, one_more tables table db empty.1 none)

extends : (schema after : Schema) (sql : List ℕ) (table : Kept) → Makes schema sql table after → lacks_sequence after ≡ false → (old new : State) (r : Result ℕ Error) → ExecutesInside 0 sql [] old new r
    → OnOk r (Extends schema after old.now new.now)
extends schema after sql table m unsequenced old new (Err e) h = tt
extends schema after sql table m unsequenced old new (Ok count) h = λ was.
    let it = creates schema after sql table m unsequenced old new (Ok count) was.is h in
    let left = still_empty schema.tables old.now.trees new.now.trees it.2 was.empty in
    let all = one_more schema.tables (record table { tree = next_tree schema }) new.now.trees left it.1 in
    (record { is = it.0; empty = subst (λ (s : Schema). AreEmpty s.tables new.now.trees) m.4 all }, it.3)

-- each statement takes the empty tables before it to those after it
pub made : (at : ℕ) → at < 8 → (old new : State) (r : Result ℕ Error) → ExecutesInside 0 (text_at at) [] old new r → OnOk r (Extends (schema_at at) (schema_at (at + 1)) old.now new.now)
made zero low = extends no_schema schema_1 create_meta (meta_table 0) make_meta refl
made (suc zero) low = extends schema_1 schema_2 create_pool (pool_table 0) make_pool refl
made (suc (suc zero)) low = extends schema_2 schema_3 create_dag (dag_table 0) make_dag refl
made (suc (suc (suc zero))) low = extends schema_3 schema_4 create_run (run_table 0) make_run refl
made (suc (suc (suc (suc zero)))) low = extends schema_4 schema_5 create_instance (instance_table 0) make_instance refl
made (suc (suc (suc (suc (suc zero))))) low = extends schema_5 schema_6 create_attempt (attempt_table 0) make_attempt refl
made (suc (suc (suc (suc (suc (suc zero)))))) low = indexed_empty
  where
    indexed_empty : (old new : State) (r : Result ℕ Error) → ExecutesInside 0 create_index [] old new r → OnOk r (Extends schema_6 first_schema old.now new.now)
    indexed_empty old new (Err e) h = tt
    indexed_empty old new (Ok count) h = λ was.
        let it = indexes old new count was.is h in
        (record { is = it.0; empty = still_empty schema_6.tables old.now.trees new.now.trees it.1 was.empty }, it.2)
made (suc (suc (suc (suc (suc (suc (suc zero))))))) low = extends first_schema record_schema create_dag_limit (dag_limit_table 0) make_dag_limit refl
made (suc (suc (suc (suc (suc (suc (suc (suc n)))))))) low = absurd (omega (arith, low))

-- what is left of the tables of version 1
shows_added : {db : Database} (old new : Trees) (rows : Rows) → KeepsRows first_schema.tables old new → new 11 ≡ [] → StoresFirst db rows → db.trees ≡ old → (t : Table) → Shows (form_of t).table new (map values_of (cells_in t rows))
shows_added old new rows kept none stored same = by
  where
    here : (t : Table) → IsTrue (is_first t) → Shows (form_of t).table old (map values_of (cells_in t rows))
    here t first = subst (λ trees. Shows (form_of t).table trees (map values_of (cells_in t rows))) same (stored.shows t first)

    by : (t : Table) → Shows (form_of t).table new (map values_of (cells_in t rows))
    by Meta = shows_still (form_of Meta).table old new _ kept.0 (here Meta refl)
    by Pool = shows_still (form_of Pool).table old new _ kept.1.0 (here Pool refl)
    by Dag = shows_still (form_of Dag).table old new _ kept.1.1.0 (here Dag refl)
    by DagLimit = subst (λ l. Shows (form_of DagLimit).table new (map values_of (map dag_limit_cells l))) (sym stored.none) (shows_none (form_of DagLimit).table new none)
    by Run = shows_still (form_of Run).table old new _ kept.1.1.1.0 (here Run refl)
    by Instance = shows_still (form_of Instance).table old new _ kept.1.1.1.1.0 (here Instance refl)
    by Attempt = shows_still (form_of Attempt).table old new _ kept.1.1.1.1.1.0 (here Attempt refl)

-- a record of version 1 keeps its rows, and the table that it lacked is empty
pub adds_limits : (old new : State) (r : Result ℕ Error) → ExecutesInside 0 create_dag_limit [] old new r → OnOk r (AddsLimits old.now new.now)
adds_limits old new (Err e) h = tt
adds_limits old new (Ok count) h = λ rows stored.
    let it = creates first_schema record_schema create_dag_limit (dag_limit_table 0) make_dag_limit refl old new (Ok count) stored.schema h in
    let kept = it.2 in
    let was = old.now.trees in
    let now = new.now.trees in
    record {
      beside = record { tables = []; indexes = []; views = [] };
      schema = (it.0, refl);
      shows = shows_added was now rows kept it.1 stored refl;
      keys = stored.keys;
      sound = it.3;
    }
