-- What is so of the table `attempt`.
use Rattle.std.proofs.Common.{◌≡◌, ◌≢◌, List, ◌&&◌, ◌||◌, true, Option, Some, None, ℤ, refl, sym, ap, ap₂, ◌∙◌}
use Rattle.std.specs.Ordering.{int_eq}
use Rattle.sqlite_value.specs.declared.value.Value.TheVariants.{Int}
use Rattle.sqlite_value.specs.declared.keys.Collation.TheVariants.{Binary}
use Rattle.sqlite_value.specs.Order.{Row, column}
use Rattle.sqlite_value.specs.Keys.{first_key}
use Rattle.sqlite_trees.specs.Tree.{rowid}
use Rattle.sqlite_schema.specs.Rules.{equal}
use Rattle.sqlite.specs.Listing.{understood}
use Rattle.sqlite_tied.specs.Compute.{everything}
use Rattle.sqlite_rules.specs.Cast.{cast_row}
use Rattle.record_rules.specs.Keys.{attempt_row_before}
use Rattle.record_rows.specs.Rows.{Rows, AttemptRow}
use Rattle.record_rows.specs.declared.tables.Table.{Table}
use Rattle.record_rows.specs.declared.tables.Table.TheVariants.{Meta, Pool, Dag, DagLimit, Run, Instance, Attempt}
use Rattle.record_rules.specs.Cells.{attempt_cells, cells_in}
use Rattle.record_tables.specs.Forms.{attempt_form, values_of, or_null, terms_of, shown_of, source_of, row_of}
use Rattle.record_rules.specs.Keys.{rises_in}
use Rattle.record_tables.specs.Holds.{IsRising, columns_of}
use Rattle.record_tables.specs.Kept.{IsKept, Replaces, Selects, as_stored, Clash}
use Rattle.record_tables.specs.Others.{Others, with_others}
use Rattle.record_tables.specs.Schema.{record_schema}
use Rattle.record_rules.proofs.TellLemmas.{attempt_apart}
use Rattle.record_tables.proofs.ApartLemmas.{values_apart}
use Rattle.record_tables.proofs.ClashLemmas.{key_1}
use Rattle.record_rules.proofs.OrderLemmas.{attempt_order, attempt_tied}
use Rattle.record_tables.proofs.RowLemmas.{cast_null, cast_int, cast_or_null, equal_ints}

puts : (o : Others) → Replaces (with_others o) attempt_form.put 5 (terms_of attempt_form) 10
unfolding understood everything
puts o = (refl, (refl, refl))

selects : (o : Others) → Selects (with_others o) attempt_form.select 9 (shown_of attempt_form) attempt_form.columns
unfolding understood everything
selects o = (refl, (refl, refl), refl)

inj : (x y : AttemptRow) → values_of (attempt_cells x) ≡ values_of (attempt_cells y) → x ≡ y
inj x y h = attempt_apart x y (values_apart (attempt_cells x) (attempt_cells y) refl h)

stored : (rows : List Row) (x : AttemptRow) → as_stored attempt_form.table rows (source_of attempt_form (values_of (attempt_cells x))) ≡ row_of attempt_form rows (values_of (attempt_cells x))
stored rows x =
    rw (cast_null, cast_int x.serial, cast_int x.logical, cast_int x.try_number, cast_int x.slots, cast_or_null x.started, cast_or_null x.ended, cast_or_null x.outcome)

stable : (rows : List Row) (x : AttemptRow) → cast_row attempt_form.table (row_of attempt_form rows (values_of (attempt_cells x))) ≡ row_of attempt_form rows (values_of (attempt_cells x))
stable rows x =
    rw (cast_null, cast_int x.serial, cast_int x.logical, cast_int x.try_number, cast_int x.slots, cast_or_null x.started, cast_or_null x.ended, cast_or_null x.outcome)

-- the serial is the rowid, and the index by instance is no key
clash : (rows : List Row) (x : AttemptRow) → IsRising rows → Clash (λ y. values_of (attempt_cells y)) attempt_row_before record_schema attempt_form.table (row_of attempt_form rows (values_of (attempt_cells x))) x rows
unfolding first_key
clash rows x rising y p has is = ap₂ (λ a b. (a && true) || b) (one y is) refl ∙ key_1 (int_eq p.serial x.serial) ∙ sym (attempt_tied p x)
  where
    one : (y : Row) → columns_of attempt_form.table y ≡ values_of (attempt_cells p) → equal Binary (column y 0) (Int x.serial) ≡ int_eq p.serial x.serial
    one y is = let id : rowid y ≡ Int p.serial = cc in rw id (equal_ints p.serial x.serial)

abbrev with_attempts : Rows → List AttemptRow → Rows
with_attempts rows these = record rows { attempts = these }

elsewhere : (t : Table) (rows : Rows) (xs : List AttemptRow) → t ≢ Attempt → (cells_in t (with_attempts rows xs) ≡ cells_in t rows) × (rises_in t (with_attempts rows xs) ≡ rises_in t rows)
elsewhere Meta rows xs other = (refl, refl)
elsewhere Pool rows xs other = (refl, refl)
elsewhere Dag rows xs other = (refl, refl)
elsewhere DagLimit rows xs other = (refl, refl)
elsewhere Run rows xs other = (refl, refl)
elsewhere Instance rows xs other = (refl, refl)
elsewhere Attempt rows xs other = absurd (other refl)

pub kept : IsKept Attempt attempt_cells attempt_row_before (λ rows. rows.attempts) with_attempts
kept = record {
  puts = puts;
  selects = selects;
  order = attempt_order;
  inj = inj;
  wide = λ x. refl;
  given = λ x. refl;
  shape = λ rows x. refl;
  stored = stored;
  stable = stable;
  clash = clash;
  here = λ rows xs. refl;
  are = λ rows. (refl, refl);
  elsewhere = elsewhere;
  back = λ rows. refl;
  again = λ rows xs ys. refl;
}
