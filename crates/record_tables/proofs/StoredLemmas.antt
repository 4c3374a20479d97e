-- The rows that a database stores.
use Rattle.std.proofs.Common.{◌≡◌, refl, sym, ap, subst, ◌∙◌, List, [], map, Bool, IsTrue}
use Rattle.std.proofs.lemmas.List.Sorted.{IsPermutation-refl}
use Rattle.sqlite_trees.specs.Tree.{Trees}
use Rattle.sqlite_schema.specs.declared.schema.Table.{Table as Kept}
use Rattle.sqlite.specs.Effect.{Database, IsDatabase}
use Rattle.record_rules.specs.Keys.{IsByKey, meta_row_before, pool_row_before, dag_row_before, dag_limit_row_before, run_row_before, instance_row_before, attempt_row_before}
use Rattle.record_rules.specs.sched_model.Lists.{rises}
use Rattle.record_rows.specs.Rows.{Rows}
use Rattle.record_rows.specs.declared.tables.Table.{Table}
use Rattle.record_rows.specs.declared.tables.Table.TheVariants.{Meta, Pool, Dag, DagLimit, Run, Instance, Attempt}
use Rattle.record_rules.specs.Cells.{Cell, cells_in, meta_cells, pool_cells, dag_cells, dag_limit_cells, run_cells, instance_cells, attempt_cells}
use Rattle.record_tables.specs.Empties.{IsEmpty}
use Rattle.record_tables.specs.Forms.{form_of, values_of}
use Rattle.record_rules.specs.Keys.{rises_in}
use Rattle.record_tables.specs.Holds.{Shows, Stores, StoresFirst, is_first}
use Rattle.record_tables.specs.Kept.{IsKept}
use Rattle.record_rules.specs.Changes.{no_rows}
use Rattle.record_tables.specs.Schema.{record_schema}
use Rattle.record_tables.proofs.MetaLemmas as meta
use Rattle.record_tables.proofs.PoolLemmas as pool
use Rattle.record_tables.proofs.DagLemmas as dag
use Rattle.record_tables.proofs.DagLimitLemmas as dag_limit
use Rattle.record_tables.proofs.RunLemmas as run
use Rattle.record_tables.proofs.InstanceLemmas as instance
use Rattle.record_tables.proofs.AttemptLemmas as attempt
use Rattle.record_tables.proofs.OnceLemmas.{once}
use Rattle.record_tables.proofs.PutLemmas.{cells_among}

module _ {X : Type 0} (w : Table) (cells : X → List Cell) (before : X → X → Bool) (among : Rows → List X) (with_rows : Rows → List X → Rows) (k : IsKept w cells before among with_rows) where
  among_once : (db : Trees) (s t : Rows) → Shows (form_of w).table db (map values_of (cells_in w s)) → Shows (form_of w).table db (map values_of (cells_in w t)) → IsTrue (rises_in w s) → IsTrue (rises_in w t) → among s ≡ among t
  among_once db s t a b ups upt =
      once k.order (λ x. values_of (cells x)) k.inj (form_of w).table db (among s) (among t) (subst (Shows (form_of w).table db) (cells_among w cells before among with_rows k s) a) (subst (Shows (form_of w).table db) (cells_among w cells before among with_rows k t) b)
      (sym (k.are s).1 ∙ ups) (sym (k.are t).1 ∙ upt)

abbrev ShowsFirst : Trees → Rows → Type 0
ShowsFirst db rows = (t : Table) → IsTrue (is_first t) → Shows (form_of t).table db (map values_of (cells_in t rows))

-- the tables of version 1 show the rows of one record
rows_once : (db : Trees) (s t : Rows) → ShowsFirst db s → ShowsFirst db t → ((w : Table) → IsTrue (rises_in w s)) → ((w : Table) → IsTrue (rises_in w t)) → s.dag_limits ≡ t.dag_limits → s ≡ t
rows_once db s t a b ups upt dag_limits_same =
    let metas_same : s.metas ≡ t.metas = among_once Meta meta_cells meta_row_before (λ rows. rows.metas) (λ rows these. record rows { metas = these }) meta.kept db s t (a Meta refl) (b Meta refl) (ups Meta) (upt Meta) in
    let pools_same : s.pools ≡ t.pools = among_once Pool pool_cells pool_row_before (λ rows. rows.pools) (λ rows these. record rows { pools = these }) pool.kept db s t (a Pool refl) (b Pool refl) (ups Pool) (upt Pool) in
    let dags_same : s.dags ≡ t.dags = among_once Dag dag_cells dag_row_before (λ rows. rows.dags) (λ rows these. record rows { dags = these }) dag.kept db s t (a Dag refl) (b Dag refl) (ups Dag) (upt Dag) in
    let runs_same : s.runs ≡ t.runs = among_once Run run_cells run_row_before (λ rows. rows.runs) (λ rows these. record rows { runs = these }) run.kept db s t (a Run refl) (b Run refl) (ups Run) (upt Run) in
    let instances_same : s.instances ≡ t.instances = among_once Instance instance_cells instance_row_before (λ rows. rows.instances) (λ rows these. record rows { instances = these }) instance.kept db s t (a Instance refl) (b Instance refl) (ups Instance) (upt Instance) in
    let attempts_same : s.attempts ≡ t.attempts = among_once Attempt attempt_cells attempt_row_before (λ rows. rows.attempts) (λ rows these. record rows { attempts = these }) attempt.kept db s t (a Attempt refl) (b Attempt refl) (ups Attempt) (upt Attempt) in
    λ i. record { metas = metas_same i; pools = pools_same i; dags = dags_same i; dag_limits = dag_limits_same i; runs = runs_same i; instances = instances_same i; attempts = attempts_same i }

pub stores_once : (db : Database) (s t : Rows) → Stores db s → Stores db t → s ≡ t
stores_once db s t a b =
    rows_once db.trees s t (λ w first. a.shows w) (λ w first. b.shows w) a.keys b.keys
    (among_once DagLimit dag_limit_cells dag_limit_row_before (λ rows. rows.dag_limits) (λ rows these. record rows { dag_limits = these }) dag_limit.kept db.trees s t (a.shows DagLimit) (b.shows DagLimit) (a.keys DagLimit) (b.keys DagLimit))

-- the same of a record of version 1
pub first_once : (db : Database) (s t : Rows) → StoresFirst db s → StoresFirst db t → s ≡ t
first_once db s t a b = rows_once db.trees s t a.shows b.shows a.keys b.keys (a.none ∙ sym b.none)

-- ---- no rows
none_in : (t : Table) → cells_in t no_rows ≡ []
none_in Meta = refl
none_in Pool = refl
none_in Dag = refl
none_in DagLimit = refl
none_in Run = refl
none_in Instance = refl
none_in Attempt = refl

none_rise : (t : Table) → IsTrue (rises_in t no_rows)
none_rise Meta = refl
none_rise Pool = refl
none_rise Dag = refl
none_rise DagLimit = refl
none_rise Run = refl
none_rise Instance = refl
none_rise Attempt = refl

empty_at : (db : Database) → IsEmpty record_schema db → (t : Table) → db.trees (form_of t).table.tree ≡ []
empty_at db e Meta = e.empty.0
empty_at db e Pool = e.empty.1.0
empty_at db e Dag = e.empty.1.1.0
empty_at db e DagLimit = e.empty.1.1.1.1.1.1.0
empty_at db e Run = e.empty.1.1.1.0
empty_at db e Instance = e.empty.1.1.1.1.0
empty_at db e Attempt = e.empty.1.1.1.1.1.0

pub shows_none : (table : Kept) (db : Trees) → db table.tree ≡ [] → Shows table db []
shows_none table db none = record { rising = rw none (tt, tt); is = rw none (IsPermutation-refl []) }

pub stores_none : (db : Database) → IsEmpty record_schema db → IsDatabase db → Stores db no_rows
stores_none db e is = record {
  beside = record { tables = []; indexes = []; views = [] };
  schema = (e.is, refl);
  shows = λ t. subst (λ cells. Shows (form_of t).table db.trees (map values_of cells)) (sym (none_in t)) (shows_none (form_of t).table db.trees (empty_at db e t));
  keys = none_rise;
  sound = is;
}

-- ---- a record's rows by key
pub by_key_rises : (rows : Rows) → IsByKey rows → (t : Table) → IsTrue (rises_in t rows)
by_key_rises rows k Meta = ap (rises meta_row_before) k.meta.1
by_key_rises rows k Pool = k.pools
by_key_rises rows k Dag = k.dags
by_key_rises rows k DagLimit = k.dag_limits
by_key_rises rows k Run = k.runs
by_key_rises rows k Instance = k.instances
by_key_rises rows k Attempt = k.attempts
