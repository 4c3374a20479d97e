-- Objects of others behind the record's own in the schema.
use Rattle.std.specs.Prelude.{ℕ, nat_eq, Bool, true, not, ◌&&◌, is_none, List, ◌++◌}
use Rattle.std.specs.List.{list_all, list_any}
use Rattle.sqlite.specs.Schema.{Schema}
use Rattle.sqlite.specs.Table.{Table}
use Rattle.sqlite_schema.specs.declared.schema.Index.{Index}
use Rattle.sqlite_schema.specs.declared.schema.View.{View}
use Rattle.sqlite_schema.specs.declared.schema.Keys.TheVariants.{Enforced}
use Rattle.sqlite_rules.specs.Action.{deed_for}
use Rattle.record_tables.specs.Schema.{record_schema}

pub record Others : Type 0 where
  pub tables : List Table
  pub indexes : List Index
  pub views : List View

abbrev pub with_others : Others → Schema
with_others o = record { tables = record_schema.tables ++ o.tables; indexes = record_schema.indexes ++ o.indexes; views = o.views }

-- the trees of the record's tables
abbrev pub is_record_tree : ℕ → Bool
is_record_tree tree = list_any (λ (t : Table). nat_eq t.tree tree) record_schema.tables

-- no UNIQUE index of theirs is of a table of the record, no tree of theirs is one of its, and no reference of theirs acts (CASCADE, SET ..)
abbrev pub are_apart : Others → Bool
are_apart o =
    list_all (λ (i : Index). not (i.is_unique && is_record_tree i.table)) o.indexes
    && list_all (λ (t : Table). not (is_record_tree t.tree) && list_all (λ r. is_none (deed_for Enforced true r)) t.references) o.tables
