-- What is so of the table `dag`.
use Rattle.std.proofs.Common.{◌≡◌, ◌≢◌, List, refl, sym, ◌∙◌}
use Rattle.std.specs.Str.{bytes_eq}
use Rattle.sqlite_value.specs.Order.{Row}
use Rattle.sqlite_value.specs.Keys.{first_key}
use Rattle.sqlite.specs.Listing.{understood}
use Rattle.sqlite_tied.specs.Compute.{everything}
use Rattle.sqlite_rules.specs.Cast.{cast_row}
use Rattle.sqlite_rules.specs.Edit.{next_rowid}
use Rattle.record_rules.specs.Keys.{dag_row_before}
use Rattle.record_rows.specs.Rows.{Rows, DagRow}
use Rattle.record_rows.specs.declared.tables.Table.{Table}
use Rattle.record_rows.specs.declared.tables.Table.TheVariants.{Meta, Pool, Dag, DagLimit, Run, Instance, Attempt}
use Rattle.record_rules.specs.Cells.{dag_cells, cells_in}
use Rattle.record_tables.specs.Forms.{dag_form, values_of, terms_of, shown_of, source_of, row_of}
use Rattle.record_rules.specs.Keys.{rises_in}
use Rattle.record_tables.specs.Holds.{IsRising}
use Rattle.record_tables.specs.Kept.{IsKept, Replaces, Selects, as_stored, Clash}
use Rattle.record_tables.specs.Others.{Others, with_others}
use Rattle.record_tables.specs.Schema.{record_schema}
use Rattle.record_rules.proofs.TellLemmas.{dag_apart}
use Rattle.record_tables.proofs.ApartLemmas.{values_apart}
use Rattle.record_tables.proofs.ClashLemmas.{tail_at, key_1, apart_new}
use Rattle.record_rules.proofs.OrderLemmas.{dag_order, dag_tied}
use Rattle.record_tables.proofs.RowLemmas.{cast_null, cast_int, equal_texts}

puts : (o : Others) → Replaces (with_others o) dag_form.put 2 (terms_of dag_form) 4
unfolding understood everything
puts o = (refl, (refl, refl))

selects : (o : Others) → Selects (with_others o) dag_form.select 3 (shown_of dag_form) dag_form.columns
unfolding understood everything
selects o = (refl, (refl, refl), refl)

inj : (x y : DagRow) → values_of (dag_cells x) ≡ values_of (dag_cells y) → x ≡ y
inj x y h = dag_apart x y (values_apart (dag_cells x) (dag_cells y) refl h)

stored : (rows : List Row) (x : DagRow) → as_stored dag_form.table rows (source_of dag_form (values_of (dag_cells x))) ≡ row_of dag_form rows (values_of (dag_cells x))
stored rows x = rw (cast_null, cast_int x.paused)

stable : (rows : List Row) (x : DagRow) → cast_row dag_form.table (row_of dag_form rows (values_of (dag_cells x))) ≡ row_of dag_form rows (values_of (dag_cells x))
stable rows x = rw (cast_int (next_rowid rows), cast_int x.paused)

clash : (rows : List Row) (x : DagRow) → IsRising rows → Clash (λ y. values_of (dag_cells y)) dag_row_before record_schema dag_form.table (row_of dag_form rows (values_of (dag_cells x))) x rows
unfolding first_key
clash rows x rising y p has is =
    let apart = apart_new rows (values_of (dag_cells x)) y rising has in
    rw (apart, tail_at y _ _ 0 is, equal_texts p.dag_id x.dag_id) (key_1 (bytes_eq p.dag_id x.dag_id) ∙ sym (dag_tied p x))

abbrev with_dags : Rows → List DagRow → Rows
with_dags rows these = record rows { dags = these }

elsewhere : (t : Table) (rows : Rows) (xs : List DagRow) → t ≢ Dag → (cells_in t (with_dags rows xs) ≡ cells_in t rows) × (rises_in t (with_dags rows xs) ≡ rises_in t rows)
elsewhere Meta rows xs other = (refl, refl)
elsewhere Pool rows xs other = (refl, refl)
elsewhere Dag rows xs other = absurd (other refl)
elsewhere DagLimit rows xs other = (refl, refl)
elsewhere Run rows xs other = (refl, refl)
elsewhere Instance rows xs other = (refl, refl)
elsewhere Attempt rows xs other = (refl, refl)

pub kept : IsKept Dag dag_cells dag_row_before (λ rows. rows.dags) with_dags
kept = record {
  puts = puts;
  selects = selects;
  order = dag_order;
  inj = inj;
  wide = λ x. refl;
  given = λ x. refl;
  shape = λ rows x. refl;
  stored = stored;
  stable = stable;
  clash = clash;
  here = λ rows xs. refl;
  are = λ rows. (refl, refl);
  elsewhere = elsewhere;
  back = λ rows. refl;
  again = λ rows xs ys. refl;
}
