-- What is so of the table `meta`.
use Rattle.std.proofs.Common.{◌≡◌, ◌≢◌, List, ◌&&◌, ◌||◌, true, ap₂, refl, sym, ◌∙◌}
use Rattle.std.specs.Ordering.{int_eq}
use Rattle.sqlite_value.specs.declared.value.Value.TheVariants.{Int}
use Rattle.sqlite_value.specs.declared.keys.Collation.TheVariants.{Binary}
use Rattle.sqlite_value.specs.Order.{Row, column}
use Rattle.sqlite_value.specs.Keys.{first_key}
use Rattle.sqlite_trees.specs.Tree.{rowid}
use Rattle.sqlite_schema.specs.Rules.{equal}
use Rattle.sqlite.specs.Listing.{understood}
use Rattle.sqlite_tied.specs.Compute.{everything}
use Rattle.sqlite_rules.specs.Cast.{cast_row}
use Rattle.record_rules.specs.Keys.{meta_row_before}
use Rattle.record_rows.specs.Rows.{Rows, MetaRow}
use Rattle.record_rows.specs.declared.tables.Table.{Table}
use Rattle.record_rows.specs.declared.tables.Table.TheVariants.{Meta, Pool, Dag, DagLimit, Run, Instance, Attempt}
use Rattle.record_rules.specs.Cells.{meta_cells, cells_in}
use Rattle.record_tables.specs.Forms.{meta_form, values_of, terms_of, shown_of, source_of, row_of}
use Rattle.record_rules.specs.Keys.{rises_in}
use Rattle.record_tables.specs.Holds.{IsRising, columns_of}
use Rattle.record_tables.specs.Kept.{IsKept, Replaces, Selects, as_stored, Clash}
use Rattle.record_tables.specs.Others.{Others, with_others}
use Rattle.record_tables.specs.Schema.{record_schema}
use Rattle.record_rules.proofs.TellLemmas.{meta_apart}
use Rattle.record_tables.proofs.ApartLemmas.{values_apart}
use Rattle.record_tables.proofs.ClashLemmas.{key_1}
use Rattle.record_rules.proofs.OrderLemmas.{meta_order, meta_tied}
use Rattle.record_tables.proofs.RowLemmas.{cast_null, cast_int, equal_ints}

puts : (o : Others) → Replaces (with_others o) meta_form.put 0 (terms_of meta_form) 6
unfolding understood everything
puts o = (refl, (refl, refl))

selects : (o : Others) → Selects (with_others o) meta_form.select 0 (shown_of meta_form) meta_form.columns
unfolding understood everything
selects o = (refl, (refl, refl), refl)

inj : (x y : MetaRow) → values_of (meta_cells x) ≡ values_of (meta_cells y) → x ≡ y
inj x y h = meta_apart x y (values_apart (meta_cells x) (meta_cells y) refl h)

stored : (rows : List Row) (x : MetaRow) → as_stored meta_form.table rows (source_of meta_form (values_of (meta_cells x))) ≡ row_of meta_form rows (values_of (meta_cells x))
stored rows x = rw (cast_null, cast_int x.one, cast_int x.version, cast_int x.now, cast_int x.next_serial, cast_int x.lanes)

stable : (rows : List Row) (x : MetaRow) → cast_row meta_form.table (row_of meta_form rows (values_of (meta_cells x))) ≡ row_of meta_form rows (values_of (meta_cells x))
stable rows x = rw (cast_null, cast_int x.one, cast_int x.version, cast_int x.now, cast_int x.next_serial, cast_int x.lanes)

-- the first column is the rowid
clash : (rows : List Row) (x : MetaRow) → IsRising rows → Clash (λ y. values_of (meta_cells y)) meta_row_before record_schema meta_form.table (row_of meta_form rows (values_of (meta_cells x))) x rows
unfolding first_key
clash rows x rising y p has is = ap₂ (λ a b. (a && true) || b) (one y is) refl ∙ key_1 (int_eq p.one x.one) ∙ sym (meta_tied p x)
  where
    one : (y : Row) → columns_of meta_form.table y ≡ values_of (meta_cells p) → equal Binary (column y 0) (Int x.one) ≡ int_eq p.one x.one
    one y is = let id : rowid y ≡ Int p.one = cc in rw id (equal_ints p.one x.one)

abbrev with_metas : Rows → List MetaRow → Rows
with_metas rows these = record rows { metas = these }

elsewhere : (t : Table) (rows : Rows) (xs : List MetaRow) → t ≢ Meta → (cells_in t (with_metas rows xs) ≡ cells_in t rows) × (rises_in t (with_metas rows xs) ≡ rises_in t rows)
elsewhere Meta rows xs other = absurd (other refl)
elsewhere Pool rows xs other = (refl, refl)
elsewhere Dag rows xs other = (refl, refl)
elsewhere DagLimit rows xs other = (refl, refl)
elsewhere Run rows xs other = (refl, refl)
elsewhere Instance rows xs other = (refl, refl)
elsewhere Attempt rows xs other = (refl, refl)

pub kept : IsKept Meta meta_cells meta_row_before (λ rows. rows.metas) with_metas
kept = record {
  puts = puts;
  selects = selects;
  order = meta_order;
  inj = inj;
  wide = λ x. refl;
  given = λ x. refl;
  shape = λ rows x. refl;
  stored = stored;
  stable = stable;
  clash = clash;
  here = λ rows xs. refl;
  are = λ rows. (refl, refl);
  elsewhere = elsewhere;
  back = λ rows. refl;
  again = λ rows xs ys. refl;
}
