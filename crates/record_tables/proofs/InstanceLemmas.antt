-- What is so of the table `instance`.
use Rattle.std.proofs.Common.{◌≡◌, ◌≢◌, List, refl, sym, ◌∙◌}
use Rattle.std.specs.Str.{bytes_eq}
use Rattle.std.specs.Ordering.{int_eq}
use Rattle.sqlite_value.specs.Order.{Row}
use Rattle.sqlite_value.specs.Keys.{first_key}
use Rattle.sqlite.specs.Listing.{understood}
use Rattle.sqlite_tied.specs.Compute.{everything}
use Rattle.sqlite_rules.specs.Cast.{cast_row}
use Rattle.sqlite_rules.specs.Edit.{next_rowid}
use Rattle.record_rules.specs.Keys.{instance_row_before}
use Rattle.record_rows.specs.Rows.{Rows, InstanceRow}
use Rattle.record_rows.specs.declared.tables.Table.{Table}
use Rattle.record_rows.specs.declared.tables.Table.TheVariants.{Meta, Pool, Dag, DagLimit, Run, Instance, Attempt}
use Rattle.record_rules.specs.Cells.{instance_cells, cells_in}
use Rattle.record_tables.specs.Forms.{instance_form, values_of, terms_of, shown_of, source_of, row_of}
use Rattle.record_rules.specs.Keys.{rises_in}
use Rattle.record_tables.specs.Holds.{IsRising}
use Rattle.record_tables.specs.Kept.{IsKept, Replaces, Selects, as_stored, Clash}
use Rattle.record_tables.specs.Others.{Others, with_others}
use Rattle.record_tables.specs.Schema.{record_schema}
use Rattle.record_rules.proofs.TellLemmas.{instance_apart}
use Rattle.record_tables.proofs.ApartLemmas.{values_apart}
use Rattle.record_tables.proofs.ClashLemmas.{tail_at, key_3, apart_new}
use Rattle.record_rules.proofs.OrderLemmas.{instance_order, instance_tied}
use Rattle.record_tables.proofs.RowLemmas.{cast_null, cast_int, equal_ints, equal_texts}

puts : (o : Others) → Replaces (with_others o) instance_form.put 4 (terms_of instance_form) 6
unfolding understood everything
puts o = (refl, (refl, refl))

selects : (o : Others) → Selects (with_others o) instance_form.select 7 (shown_of instance_form) instance_form.columns
unfolding understood everything
selects o = (refl, (refl, refl), refl)

inj : (x y : InstanceRow) → values_of (instance_cells x) ≡ values_of (instance_cells y) → x ≡ y
inj x y h = instance_apart x y (values_apart (instance_cells x) (instance_cells y) refl h)

stored : (rows : List Row) (x : InstanceRow) → as_stored instance_form.table rows (source_of instance_form (values_of (instance_cells x))) ≡ row_of instance_form rows (values_of (instance_cells x))
stored rows x = rw (cast_null, cast_int x.logical, cast_int x.verdict, cast_int x.since)

stable : (rows : List Row) (x : InstanceRow) → cast_row instance_form.table (row_of instance_form rows (values_of (instance_cells x))) ≡ row_of instance_form rows (values_of (instance_cells x))
stable rows x = rw (cast_int (next_rowid rows), cast_int x.logical, cast_int x.verdict, cast_int x.since)

clash : (rows : List Row) (x : InstanceRow) → IsRising rows → Clash (λ y. values_of (instance_cells y)) instance_row_before record_schema instance_form.table (row_of instance_form rows (values_of (instance_cells x))) x rows
unfolding first_key
clash rows x rising y p has is =
    let apart = apart_new rows (values_of (instance_cells x)) y rising has in
    rw (apart, tail_at y _ _ 0 is, tail_at y _ _ 1 is, tail_at y _ _ 2 is, equal_texts p.dag_id x.dag_id, equal_ints p.logical x.logical, equal_texts p.task_id x.task_id) (key_3 (bytes_eq p.dag_id x.dag_id) (int_eq p.logical x.logical) (bytes_eq p.task_id x.task_id) ∙ sym (instance_tied p x))

abbrev with_instances : Rows → List InstanceRow → Rows
with_instances rows these = record rows { instances = these }

elsewhere : (t : Table) (rows : Rows) (xs : List InstanceRow) → t ≢ Instance → (cells_in t (with_instances rows xs) ≡ cells_in t rows) × (rises_in t (with_instances rows xs) ≡ rises_in t rows)
elsewhere Meta rows xs other = (refl, refl)
elsewhere Pool rows xs other = (refl, refl)
elsewhere Dag rows xs other = (refl, refl)
elsewhere DagLimit rows xs other = (refl, refl)
elsewhere Run rows xs other = (refl, refl)
elsewhere Instance rows xs other = absurd (other refl)
elsewhere Attempt rows xs other = (refl, refl)

pub kept : IsKept Instance instance_cells instance_row_before (λ rows. rows.instances) with_instances
kept = record {
  puts = puts;
  selects = selects;
  order = instance_order;
  inj = inj;
  wide = λ x. refl;
  given = λ x. refl;
  shape = λ rows x. refl;
  stored = stored;
  stable = stable;
  clash = clash;
  here = λ rows xs. refl;
  are = λ rows. (refl, refl);
  elsewhere = elsewhere;
  back = λ rows. refl;
  again = λ rows xs ys. refl;
}
