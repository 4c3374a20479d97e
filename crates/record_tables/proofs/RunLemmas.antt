-- What is so of the table `run`.
use Rattle.std.proofs.Common.{◌≡◌, ◌≢◌, List, refl, sym, ◌∙◌}
use Rattle.std.specs.Str.{bytes_eq}
use Rattle.std.specs.Ordering.{int_eq}
use Rattle.sqlite_value.specs.Order.{Row}
use Rattle.sqlite_value.specs.Keys.{first_key}
use Rattle.sqlite.specs.Listing.{understood}
use Rattle.sqlite_tied.specs.Compute.{everything}
use Rattle.sqlite_rules.specs.Cast.{cast_row}
use Rattle.sqlite_rules.specs.Edit.{next_rowid}
use Rattle.record_rules.specs.Keys.{run_row_before}
use Rattle.record_rows.specs.Rows.{Rows, RunRow}
use Rattle.record_rows.specs.declared.tables.Table.{Table}
use Rattle.record_rows.specs.declared.tables.Table.TheVariants.{Meta, Pool, Dag, DagLimit, Run, Instance, Attempt}
use Rattle.record_rules.specs.Cells.{run_cells, cells_in}
use Rattle.record_tables.specs.Forms.{run_form, values_of, terms_of, shown_of, source_of, row_of}
use Rattle.record_rules.specs.Keys.{rises_in}
use Rattle.record_tables.specs.Holds.{IsRising}
use Rattle.record_tables.specs.Kept.{IsKept, Replaces, Selects, as_stored, Clash}
use Rattle.record_tables.specs.Others.{Others, with_others}
use Rattle.record_tables.specs.Schema.{record_schema}
use Rattle.record_rules.proofs.TellLemmas.{run_apart}
use Rattle.record_tables.proofs.ApartLemmas.{values_apart}
use Rattle.record_tables.proofs.ClashLemmas.{tail_at, key_2, apart_new}
use Rattle.record_rules.proofs.OrderLemmas.{run_order, run_tied}
use Rattle.record_tables.proofs.RowLemmas.{cast_null, cast_int, equal_ints, equal_texts}

puts : (o : Others) → Replaces (with_others o) run_form.put 3 (terms_of run_form) 7
unfolding understood everything
puts o = (refl, (refl, refl))

selects : (o : Others) → Selects (with_others o) run_form.select 5 (shown_of run_form) run_form.columns
unfolding understood everything
selects o = (refl, (refl, refl), refl)

inj : (x y : RunRow) → values_of (run_cells x) ≡ values_of (run_cells y) → x ≡ y
inj x y h = run_apart x y (values_apart (run_cells x) (run_cells y) refl h)

stored : (rows : List Row) (x : RunRow) → as_stored run_form.table rows (source_of run_form (values_of (run_cells x))) ≡ row_of run_form rows (values_of (run_cells x))
stored rows x = rw (cast_null, cast_int x.logical, cast_int x.data_start, cast_int x.data_end, cast_int x.kind, cast_int x.phase)

stable : (rows : List Row) (x : RunRow) → cast_row run_form.table (row_of run_form rows (values_of (run_cells x))) ≡ row_of run_form rows (values_of (run_cells x))
stable rows x = rw (cast_int (next_rowid rows), cast_int x.logical, cast_int x.data_start, cast_int x.data_end, cast_int x.kind, cast_int x.phase)

clash : (rows : List Row) (x : RunRow) → IsRising rows → Clash (λ y. values_of (run_cells y)) run_row_before record_schema run_form.table (row_of run_form rows (values_of (run_cells x))) x rows
unfolding first_key
clash rows x rising y p has is =
    let apart = apart_new rows (values_of (run_cells x)) y rising has in
    rw (apart, tail_at y _ _ 0 is, tail_at y _ _ 1 is, equal_texts p.dag_id x.dag_id, equal_ints p.logical x.logical) (key_2 (bytes_eq p.dag_id x.dag_id) (int_eq p.logical x.logical) ∙ sym (run_tied p x))

abbrev with_runs : Rows → List RunRow → Rows
with_runs rows these = record rows { runs = these }

elsewhere : (t : Table) (rows : Rows) (xs : List RunRow) → t ≢ Run → (cells_in t (with_runs rows xs) ≡ cells_in t rows) × (rises_in t (with_runs rows xs) ≡ rises_in t rows)
elsewhere Meta rows xs other = (refl, refl)
elsewhere Pool rows xs other = (refl, refl)
elsewhere Dag rows xs other = (refl, refl)
elsewhere DagLimit rows xs other = (refl, refl)
elsewhere Run rows xs other = absurd (other refl)
elsewhere Instance rows xs other = (refl, refl)
elsewhere Attempt rows xs other = (refl, refl)

pub kept : IsKept Run run_cells run_row_before (λ rows. rows.runs) with_runs
kept = record {
  puts = puts;
  selects = selects;
  order = run_order;
  inj = inj;
  wide = λ x. refl;
  given = λ x. refl;
  shape = λ rows x. refl;
  stored = stored;
  stable = stable;
  clash = clash;
  here = λ rows xs. refl;
  are = λ rows. (refl, refl);
  elsewhere = elsewhere;
  back = λ rows. refl;
  again = λ rows xs ys. refl;
}
