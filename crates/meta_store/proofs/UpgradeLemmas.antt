-- Rows of version 1 put as those of version 2.
use Rattle.std.proofs.Common.{◌≡◌, refl, sym, ap, ap₂, subst, ◌∙◌, pos, List, [], ◌∷◌, map, cond, ◌&&◌, true, IsTrue, arith}
use Rattle.std.specs.List.{list_all}
use Rattle.sqlite.specs.Effect.{Database}
use Rattle.sqlite.specs.State.{State, HasCleanDisk}
use Rattle.record_rows.specs.declared.tables.Table.TheVariants.{Pool, Dag, Run, Instance, Attempt}
use Rattle.record_rows.specs.Rows.{Rows, MetaRow, DagRow, DagLimitRow}
use Rattle.record_rules.specs.Between.{puts}
use Rattle.record_rules.specs.Changes.{put_rows}
use Rattle.record_rules.specs.Keys.{IsByKey, meta_row_before, dag_row_before, dag_limit_row_before}
use Rattle.record_rules.proofs.NumberLemmas.{less_itself}
use Rattle.sched_model.specs.Lists.{rises}
use Rattle.record_tables.specs.Holds.{Stores, StoresFirst, AddsLimits}
use Rattle.record_tables.specs.Puts.{GoesBy, PutsIn}
use Rattle.record_tables.proofs.LastLemmas.{puts_last}
use Rattle.record_rules.proofs.OrderLemmas.{dag_limit_order}
use Rattle.record_tables.proofs.StepLemmas.{by_then}
use Rattle.record_tables.specs.Loads.{is_version}
use Rattle.record_tables.proofs.VersionLemmas.{one_row}
use Rattle.meta_store.specs.Stores.{Upgrades}
use Rattle.meta_store.specs.Upgraded.{old_limit, second, second_rows, upgraded}

-- the bounds rise as their graphs do
limit_before : (d : DagRow) (ds : List DagRow) → list_all (dag_limit_row_before (old_limit d)) (map old_limit ds) ≡ list_all (dag_row_before d) ds
limit_before d [] = refl
limit_before d (e ∷ es) = ap (λ b. dag_row_before d e && b) (limit_before d es)

limits_rise : (ds : List DagRow) → rises dag_limit_row_before (map old_limit ds) ≡ rises dag_row_before ds
limits_rise [] = refl
limits_rise (d ∷ ds) = ap₂ (λ a b. a && b) (limit_before d ds) (limits_rise ds)

-- the one row of `meta` is put in its place
meta_put : (ms : List MetaRow) → is_version (pos 1) ms ≡ true → puts meta_row_before (map second ms) ms ≡ map second ms
meta_put ms version =
    let it = one_row (pos 1) ms version in
    let m = it.0 in
    let one : puts meta_row_before (map second (m ∷ [])) (m ∷ []) ≡ map second (m ∷ []) =
    ap (λ b. cond b (m ∷ second m ∷ []) (cond b (second m ∷ m ∷ []) (second m ∷ []))) (less_itself m.one) in
    subst (λ l. puts meta_row_before (map second l) l ≡ map second l) (sym it.1) one

upgraded_is : (rows : Rows) (db : Database) → StoresFirst db rows → is_version (pos 1) rows.metas ≡ true → put_rows (second_rows rows.metas rows.dags) rows ≡ upgraded rows
upgraded_is rows db stored version =
    let metas = meta_put rows.metas version in
    let limits : puts dag_limit_row_before (map old_limit rows.dags) rows.dag_limits ≡ map old_limit rows.dags =
    ap (puts dag_limit_row_before (map old_limit rows.dags)) stored.none ∙ puts_last dag_limit_order [] (map old_limit rows.dags) (limits_rise rows.dags ∙ stored.keys Dag) in
    ap₂ (λ ms ls. let r : Rows = record rows { metas = ms; dag_limits = ls } in r) metas limits

-- rows of version 1 are by key as version 2 has them
pub upgraded_by_key : (db : Database) (rows : Rows) → StoresFirst db rows → is_version (pos 1) rows.metas ≡ true → IsByKey (upgraded rows)
upgraded_by_key db rows stored version =
    let it = one_row (pos 1) rows.metas version in
    record {
      meta = (second it.0, ap (map second) it.1, it.2, refl);
      pools = stored.keys Pool;
      dags = stored.keys Dag;
      dag_limits = limits_rise rows.dags ∙ stored.keys Dag;
      runs = stored.keys Run;
      instances = stored.keys Instance;
      attempts = stored.keys Attempt;
    }

-- ---- the table is added, and then the rows are put
abbrev Added : (Rows → Rows) → Database → Database → Type 0
Added f old new = (rows : Rows) → StoresFirst old rows → Stores new (f rows)

pub upgrades_by : (made : Rows) (a b c : State)
    → (HasCleanDisk b → IsTrue a.in_transaction → (rows : Rows) → StoresFirst a.now rows → (is_version (pos 1) rows.metas ≡ true) × (made ≡ second_rows rows.metas rows.dags))
    → GoesBy AddsLimits a b → GoesBy (PutsIn (put_rows made)) b c → GoesBy Upgrades a c
upgrades_by made a b c found p q =
    let went : GoesBy (Added (put_rows made)) a c = by_then AddsLimits (PutsIn (put_rows made)) (Added (put_rows made)) (λ x y z p q rows stored. (q rows (p rows stored)).0) a b c p q in
    record {
      survives = went.survives;
      kept = went.kept;
      inside = went.inside;
      changed = λ clean inside rows stored.
          let before : HasCleanDisk b = omega (arith, q.survives.clean) in
          let it = found before inside rows stored in
          let known : Stores c.now (put_rows (second_rows rows.metas rows.dags) rows) = subst (λ (m : Rows). Stores c.now (put_rows m rows)) it.1 (went.changed clean inside rows stored) in
          (it.0, subst (λ (r : Rows). Stores c.now r) (upgraded_is rows a.now stored it.0) known);
    }
