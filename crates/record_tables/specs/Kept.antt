-- What is so of a table, so that its rows can be put and read.
use Rattle.std.specs.Prelude.{◌≡◌, ◌≢◌, ℕ, List, [], ◌∷◌, map, length, Bool, true, false, None, ◌/◌}
use Rattle.sqlite_value.specs.Order.{Row}
use Rattle.sqlite_sql.specs.Term.{Term}
use Rattle.sqlite_schema.specs.declared.schema.Schema.{Schema}
use Rattle.sqlite_schema.specs.declared.schema.Table.{Table as Kept}
use Rattle.sqlite_schema.specs.declared.command.Command.{Command}
use Rattle.sqlite_schema.specs.declared.command.Command.TheVariants.{InsertOr, Select}
use Rattle.sqlite_schema.specs.declared.command.Conflict.TheVariants.{Replace}
use Rattle.sqlite_schema.specs.declared.command.Source.TheVariants.{Values}
use Rattle.sqlite_rules.specs.declared.error.Rowids.TheVariants.{Chosen}
use Rattle.sqlite_rules.specs.Cast.{cast_row}
use Rattle.sqlite_rules.specs.Edit.{with_rowid}
use Rattle.sqlite_rules.specs.Keys.{conflicts}
use Rattle.sqlite_rules.specs.Lists.{Has}
use Rattle.sqlite.specs.declared.types.Value.TheVariants.{Int}
use Rattle.sqlite.specs.Term.{lit}
use Rattle.sqlite.specs.Query.{Query, inner, end}
use Rattle.sqlite.specs.Listing.{understood, reads_listing}
use Rattle.sqlite.specs.Effect.{value_rows}
use Rattle.sqlite.specs.Rows.{mended, stamped}
use Rattle.sqlite.proofs.Callers.{IsPlain, command_of}
use Rattle.std.specs.Prelude.{pos, negsuc}
use Rattle.record_rules.specs.sched_model.Lists.{rises}
use Rattle.record_rules.specs.Between.{are_tied}
use Rattle.record_rows.specs.Rows.{Rows}
use Rattle.record_rows.specs.declared.tables.Table.{Table}
use Rattle.record_rules.specs.Cells.{Cell, cells_in}
use Rattle.record_tables.specs.Forms.{form_of, values_of, shown_of, terms_of, width_of, source_of, row_of}
use Rattle.record_rules.specs.Keys.{IsOrdered, rises_in}
use Rattle.record_tables.specs.Holds.{columns_of, IsRising}
use Rattle.record_tables.specs.Others.{Others, with_others}
use Rattle.record_tables.specs.Schema.{record_schema}

-- under the schema the text writes these terms into the table at that place
abbrev pub Replaces : Schema → List ℕ → ℕ → List Term → ℕ → Type 0
Replaces schema sql at terms width = (command_of (understood schema sql) ≡ InsertOr at Replace (Values terms width) []) × IsPlain (understood schema sql)

-- a query of the table with this tree alone that shows these columns, each row as it comes
abbrev pub query_of : ℕ → List Term → Query
query_of tree shown = record {
  from = inner tree end;
  filter = [];
  group = None;
  project = shown;
  distinct = false;
  collations = [];
  order = [];
  limit = lit (Int (negsuc 0));
  offset = lit (Int (pos 0));
}

abbrev pub select_of : ℕ → List Term → List (List ℕ) → Command
select_of tree shown names = Select (record { lets = []; body = query_of tree shown }) names

-- under the schema the text shows these columns of the table with that tree
abbrev pub Selects : Schema → List ℕ → ℕ → List Term → List (List ℕ) → Type 0
Selects schema sql tree shown names = (command_of (understood schema sql) ≡ select_of tree shown names) × IsPlain (understood schema sql) × (reads_listing schema sql ≡ false)

-- the row as the table stores it, given the rows that are there
abbrev pub as_stored : Kept → List Row → Row → Row
as_stored table rows source = with_rowid Chosen rows (cast_row table (mended Replace table source))

-- two rows conflict where their keys are the same
abbrev pub Clash : {X : Type 0} → (X → Row) → (X → X → Bool) → Schema → Kept → Row → X → List Row → Type 0
Clash {X} cells_of before schema table row new rows = (y : Row) (p : X) → Has rows y → columns_of table y ≡ cells_of p → conflicts None schema.indexes table row y ≡ are_tied before p new

-- what is so of a table, whose rows are of type X
pub record IsKept {X : Type 0} (w : Table) (cells : X → List Cell) (before : X → X → Bool) (among : Rows → List X) (with_rows : Rows → List X → Rows) : Type 0 where
  pub puts : (o : Others) → Replaces (with_others o) (form_of w).put (form_of w).at (terms_of (form_of w)) (width_of (form_of w))
  pub selects : (o : Others) → Selects (with_others o) (form_of w).select (form_of w).table.tree (shown_of (form_of w)) (form_of w).columns
  pub order : IsOrdered before
  pub inj : (x y : X) → values_of (cells x) ≡ values_of (cells y) → x ≡ y
  pub wide : (x : X) → length (cells x) ≡ length (form_of w).columns
  pub given : (x : X) → value_rows (stamped (form_of w).table (values_of (cells x))) (width_of (form_of w)) (length (terms_of (form_of w)) / width_of (form_of w)) (terms_of (form_of w)) ≡ source_of (form_of w) (values_of (cells x)) ∷ []
  pub shape : (rows : List Row) (x : X) → columns_of (form_of w).table (row_of (form_of w) rows (values_of (cells x))) ≡ values_of (cells x)
  pub stored : (rows : List Row) (x : X) → as_stored (form_of w).table rows (source_of (form_of w) (values_of (cells x))) ≡ row_of (form_of w) rows (values_of (cells x))
  pub stable : (rows : List Row) (x : X) → cast_row (form_of w).table (row_of (form_of w) rows (values_of (cells x))) ≡ row_of (form_of w) rows (values_of (cells x))
  pub clash : (rows : List Row) (x : X) → IsRising rows → Clash (λ y. values_of (cells y)) before record_schema (form_of w).table (row_of (form_of w) rows (values_of (cells x))) x rows
  pub here : (rows : Rows) (xs : List X) → among (with_rows rows xs) ≡ xs
  pub are : (rows : Rows) → (cells_in w rows ≡ map cells (among rows)) × (rises_in w rows ≡ rises before (among rows))
  pub elsewhere : (t : Table) (rows : Rows) (xs : List X) → t ≢ w → (cells_in t (with_rows rows xs) ≡ cells_in t rows) × (rises_in t (with_rows rows xs) ≡ rises_in t rows)
  pub back : (rows : Rows) → with_rows rows (among rows) ≡ rows
  pub again : (rows : Rows) (xs ys : List X) → with_rows (with_rows rows xs) ys ≡ with_rows rows ys
