-- What is known of a database before a migration by what it is after it, for an opening.
use Rattle.std.proofs.Common.{◌≡◌, ◌∙◌, refl, sym, ap, subst, inl, inr, pos, true, false, true≢false, Bool, ◌&&◌, List, [], ◌∷◌, map, int_eq}
use Rattle.std.specs.List.{AllByRecursion}
use Rattle.sqlite.specs.Effect.{Database}
use Rattle.record_rows.specs.Rows.{Rows, MetaRow, DagRow, DagLimitRow}
use Rattle.record_tables.specs.Holds.{Stores}
use Rattle.record_rows.specs.declared.tables.Table.TheVariants.{Meta, Pool, Dag, DagLimit, Run, Instance, Attempt}
use Rattle.record_rules.specs.Cells.{AreText, AreTexts, dag_cells, dag_limit_cells}
use Rattle.record_tables.specs.Loads.{is_version}
use Rattle.record_tables.specs.Ours.{has_limits, is_ours}
use Rattle.record_tables.proofs.OursLemmas.{ours}
use Rattle.meta_store.specs.Stores.{HasRows, IsNoRecord, Migrates}
use Rattle.meta_store.specs.Upgraded.{old_limit, second, upgraded}
use Rattle.meta_store.proofs.MigrateLemmas.{meta_texts, no_first, no_second}

-- where the table of version 2 is there, the rows are stored as they are
pub second_rows : (db : Database) (rows : Rows) → has_limits db.schema ≡ true → HasRows db rows → Stores db rows
second_rows db rows has (inl stored) = stored
second_rows db rows has (inr first) = absurd (no_first db first.0 has first.1)

-- ---- rows as version 2 has them
limit_texts : (ds : List DagRow) → AllByRecursion AreText (map dag_cells ds) → AllByRecursion AreText (map dag_limit_cells (map old_limit ds))
limit_texts [] all = tt
limit_texts (d ∷ ds) all = ((all.0.0, (tt, tt)), limit_texts ds all.1)

pub texts_upgraded : (rows : Rows) → AreTexts rows → AreTexts (upgraded rows)
texts_upgraded rows texts Meta = meta_texts (map second rows.metas)
texts_upgraded rows texts Pool = texts Pool
texts_upgraded rows texts Dag = texts Dag
texts_upgraded rows texts DagLimit = limit_texts rows.dags (texts Dag)
texts_upgraded rows texts Run = texts Run
texts_upgraded rows texts Instance = texts Instance
texts_upgraded rows texts Attempt = texts Attempt

-- the texts of a record of version 1, which has no bounds, are among those of version 2
pub texts_before : (rows : Rows) → rows.dag_limits ≡ [] → AreTexts (upgraded rows) → AreTexts rows
texts_before rows none texts Meta = meta_texts rows.metas
texts_before rows none texts Pool = texts Pool
texts_before rows none texts Dag = texts Dag
texts_before rows none texts DagLimit = subst (λ (l : List DagLimitRow). AllByRecursion AreText (map dag_limit_cells l)) (sym none) tt
texts_before rows none texts Run = texts Run
texts_before rows none texts Instance = texts Instance
texts_before rows none texts Attempt = texts Attempt

neither : (a b : Bool) → (a && true) ≡ false → (a && b) ≡ false
neither true b h = absurd (true≢false h)
neither false b h = refl

version_before : (ms : List MetaRow) → is_version (pos 2) (map second ms) ≡ false → is_version (pos 1) ms ≡ false
version_before [] h = refl
version_before (m ∷ []) h = neither (int_eq m.one (pos 1)) (int_eq m.version (pos 1)) h
version_before (m ∷ n ∷ ms) h = refl

version_after : (db : Database) (rows : Rows) → IsNoRecord db → Stores db rows → AreTexts rows → is_version (pos 2) rows.metas ≡ false
version_after db rows (inl not_ours) stored texts = absurd (true≢false (sym (ap is_ours stored.schema.0 ∙ ours stored.beside) ∙ not_ours))
version_after db rows (inr none) stored texts = none.second rows stored texts

-- a database that is no record once it was migrated was none before
pub no_record_back : (old new : Database) → Migrates old new → IsNoRecord new → IsNoRecord old
no_record_back old new migrates none = inr (record {
  second = λ rows stored texts. absurd (no_second old rows migrates.was stored);
  first = λ rows first texts. version_before rows.metas (version_after new (upgraded rows) none (migrates.stored rows first).1 (texts_upgraded rows texts));
})
