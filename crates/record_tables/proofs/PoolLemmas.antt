-- What is so of the table `pool`.
use Rattle.std.proofs.Common.{◌≡◌, ◌≢◌, List, refl, sym, ◌∙◌}
use Rattle.std.specs.Str.{bytes_eq}
use Rattle.sqlite_value.specs.Order.{Row}
use Rattle.sqlite_value.specs.Keys.{first_key}
use Rattle.sqlite.specs.Listing.{understood}
use Rattle.sqlite_tied.specs.Compute.{everything}
use Rattle.sqlite_rules.specs.Cast.{cast_row}
use Rattle.sqlite_rules.specs.Edit.{next_rowid}
use Rattle.record_rules.specs.Keys.{pool_row_before}
use Rattle.record_rows.specs.Rows.{Rows, PoolRow}
use Rattle.record_rows.specs.declared.tables.Table.{Table}
use Rattle.record_rows.specs.declared.tables.Table.TheVariants.{Meta, Pool, Dag, DagLimit, Run, Instance, Attempt}
use Rattle.record_rules.specs.Cells.{pool_cells, cells_in}
use Rattle.record_tables.specs.Forms.{pool_form, values_of, terms_of, shown_of, source_of, row_of}
use Rattle.record_rules.specs.Keys.{rises_in}
use Rattle.record_tables.specs.Holds.{IsRising}
use Rattle.record_tables.specs.Kept.{IsKept, Replaces, Selects, as_stored, Clash}
use Rattle.record_tables.specs.Others.{Others, with_others}
use Rattle.record_tables.specs.Schema.{record_schema}
use Rattle.record_rules.proofs.TellLemmas.{pool_apart}
use Rattle.record_tables.proofs.ApartLemmas.{values_apart}
use Rattle.record_tables.proofs.ClashLemmas.{tail_at, key_1, apart_new}
use Rattle.record_rules.proofs.OrderLemmas.{pool_order, pool_tied}
use Rattle.record_tables.proofs.RowLemmas.{cast_null, cast_int, equal_texts}

puts : (o : Others) → Replaces (with_others o) pool_form.put 1 (terms_of pool_form) 3
unfolding understood everything
puts o = (refl, (refl, refl))

selects : (o : Others) → Selects (with_others o) pool_form.select 1 (shown_of pool_form) pool_form.columns
unfolding understood everything
selects o = (refl, (refl, refl), refl)

inj : (x y : PoolRow) → values_of (pool_cells x) ≡ values_of (pool_cells y) → x ≡ y
inj x y h = pool_apart x y (values_apart (pool_cells x) (pool_cells y) refl h)

stored : (rows : List Row) (x : PoolRow) → as_stored pool_form.table rows (source_of pool_form (values_of (pool_cells x))) ≡ row_of pool_form rows (values_of (pool_cells x))
stored rows x = rw (cast_null, cast_int x.size)

stable : (rows : List Row) (x : PoolRow) → cast_row pool_form.table (row_of pool_form rows (values_of (pool_cells x))) ≡ row_of pool_form rows (values_of (pool_cells x))
stable rows x = rw (cast_int (next_rowid rows), cast_int x.size)

clash : (rows : List Row) (x : PoolRow) → IsRising rows → Clash (λ y. values_of (pool_cells y)) pool_row_before record_schema pool_form.table (row_of pool_form rows (values_of (pool_cells x))) x rows
unfolding first_key
clash rows x rising y p has is =
    let apart = apart_new rows (values_of (pool_cells x)) y rising has in
    rw (apart, tail_at y _ _ 0 is, equal_texts p.name x.name) (key_1 (bytes_eq p.name x.name) ∙ sym (pool_tied p x))

abbrev with_pools : Rows → List PoolRow → Rows
with_pools rows these = record rows { pools = these }

elsewhere : (t : Table) (rows : Rows) (xs : List PoolRow) → t ≢ Pool → (cells_in t (with_pools rows xs) ≡ cells_in t rows) × (rises_in t (with_pools rows xs) ≡ rises_in t rows)
elsewhere Meta rows xs other = (refl, refl)
elsewhere Pool rows xs other = absurd (other refl)
elsewhere Dag rows xs other = (refl, refl)
elsewhere DagLimit rows xs other = (refl, refl)
elsewhere Run rows xs other = (refl, refl)
elsewhere Instance rows xs other = (refl, refl)
elsewhere Attempt rows xs other = (refl, refl)

pub kept : IsKept Pool pool_cells pool_row_before (λ rows. rows.pools) with_pools
kept = record {
  puts = puts;
  selects = selects;
  order = pool_order;
  inj = inj;
  wide = λ x. refl;
  given = λ x. refl;
  shape = λ rows x. refl;
  stored = stored;
  stable = stable;
  clash = clash;
  here = λ rows xs. refl;
  are = λ rows. (refl, refl);
  elsewhere = elsewhere;
  back = λ rows. refl;
  again = λ rows xs ys. refl;
}
