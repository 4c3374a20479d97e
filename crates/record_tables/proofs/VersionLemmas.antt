-- The rows of a record of a version.
use Rattle.std.proofs.Common.{◌≡◌, refl, sym, pos, ℤ, int_eq, true, true≢false, List, [], ◌∷◌}
use Rattle.sqlite.specs.Effect.{Database}
use Rattle.record_rows.specs.declared.tables.Table.TheVariants.{Pool, Dag, DagLimit, Run, Instance, Attempt}
use Rattle.record_rows.specs.Rows.{Rows, MetaRow}
use Rattle.sched_state.proofs.OrderLemmas.{and_left, and_right}
use Rattle.record_rules.specs.Keys.{IsByKey}
use Rattle.record_rules.proofs.NumberLemmas.{same_number}
use Rattle.record_tables.specs.Holds.{Stores}
use Rattle.record_tables.specs.Loads.{is_version}

pub one_row : (v : ℤ) (ms : List MetaRow) → is_version v ms ≡ true → (m : MetaRow) × (ms ≡ m ∷ []) × (m.one ≡ pos 1) × (m.version ≡ v)
one_row v [] h = absurd (true≢false (sym h))
one_row v (m ∷ []) h = (m, refl, same_number m.one (pos 1) (and_left _ _ h), same_number m.version v (and_right (int_eq m.one (pos 1)) _ h))
one_row v (m ∷ n ∷ ms) h = absurd (true≢false (sym h))

pub by_key : (db : Database) (rows : Rows) → Stores db rows → is_version (pos 2) rows.metas ≡ true → IsByKey rows
by_key db rows stored version = record {
  meta = one_row (pos 2) rows.metas version;
  pools = stored.keys Pool;
  dags = stored.keys Dag;
  dag_limits = stored.keys DagLimit;
  runs = stored.keys Run;
  instances = stored.keys Instance;
  attempts = stored.keys Attempt;
}
