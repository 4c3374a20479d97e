-- The tables of the record where others have objects behind its own.
use Rattle.std.proofs.Common.{◌≡◌, ◌⊎◌, inl, inr, refl, sym, ap, ap₂, ◌∙◌, ℕ, nat_eq, List, [], ◌∷◌, ◌++◌, flat_map, filter_map, Bool, true, false, true≢false, not, ◌&&◌, ◌||◌, Option, Some, None, is_none, slice_get, rules}
use Rattle.std.specs.List.{list_all, list_any}
use Rattle.std.proofs.lemmas.Bool.{cases_Bool}
use Rattle.std.proofs.lemmas.List.Folds.{list_any-append}
use Rattle.sched_state.proofs.OrderLemmas.{and_left, and_right}
use Rattle.sqlite_value.specs.Keys.{plain}
use Rattle.sqlite_value.specs.Order.{Row}
use Rattle.sqlite_schema.specs.declared.schema.Index.{Index}
use Rattle.sqlite_schema.specs.declared.schema.Keys.TheVariants.{Enforced}
use Rattle.sqlite_schema.specs.declared.schema.Reference.{Reference}
use Rattle.sqlite_schema.specs.declared.schema.Schema.{Schema}
use Rattle.sqlite_schema.specs.declared.schema.Table.{Table as Kept}
use Rattle.sqlite_schema.specs.Rules.{agree, guards}
use Rattle.sqlite_rules.specs.Action.{deed_for, work_for, works}
use Rattle.sqlite_rules.specs.Keys.{conflicts, shares}
use Rattle.record_rows.specs.declared.tables.Table.{Table}
use Rattle.record_rows.specs.declared.tables.Table.TheVariants.{Meta, Pool, Dag, DagLimit, Run, Instance, Attempt}
use Rattle.record_tables.specs.Forms.{form_of}
use Rattle.record_tables.specs.Others.{Others, with_others, are_apart, is_record_tree}
use Rattle.record_tables.specs.Schema.{record_schema}

-- where a table stands
pub stands : (o : Others) (t : Table) → slice_get (with_others o).tables (form_of t).at ≡ Some (form_of t).table
stands o Meta = refl
stands o Pool = refl
stands o Dag = refl
stands o DagLimit = refl
stands o Run = refl
stands o Instance = refl
stands o Attempt = refl

-- ---- what acts on the record's tables
none_of : {A : Type 0} (x : Option A) → is_none x ≡ true → x ≡ None
none_of None h = refl
none_of (Some a) h = absurd (true≢false (sym h))

idle_references : (schema : Schema) (tree : ℕ) (olds : List Row) (child : Kept) (refs : List Reference) → list_all (λ r. is_none (deed_for Enforced true r)) refs ≡ true
    → filter_map (work_for schema Enforced 0 tree olds [] child) refs ≡ []
idle_references schema tree olds child [] h = refl
idle_references schema tree olds child (r ∷ refs) h =
    let none : deed_for Enforced true r ≡ None = none_of _ (and_left _ _ h) in
    rw none (idle_references schema tree olds child refs (and_right (is_none (deed_for Enforced true r)) _ h))

idle_tables : (schema : Schema) (tree : ℕ) (olds : List Row) (tables : List Kept) → list_all (λ (t : Kept). not (is_record_tree t.tree) && list_all (λ r. is_none (deed_for Enforced true r)) t.references) tables ≡ true
    → flat_map (λ child. filter_map (work_for schema Enforced 0 tree olds [] child) child.references) tables ≡ []
idle_tables schema tree olds [] h = refl
idle_tables schema tree olds (t ∷ tables) h =
    ap₂ (λ a b. a ++ b) (idle_references schema tree olds t t.references (and_right (not (is_record_tree t.tree)) _ (and_left _ _ h)))
    (idle_tables schema tree olds tables (and_right (not (is_record_tree t.tree) && list_all (λ r. is_none (deed_for Enforced true r)) t.references) _ h))

-- nothing is done to others where rows of a table of the record go
pub spared_beside : (o : Others) → are_apart o ≡ true → (t : Table) (olds : List Row) → works (with_others o) Enforced 0 (form_of t).table.tree olds [] ≡ []
spared_beside o apart t olds = idle_tables (with_others o) (form_of t).table.tree olds o.tables (and_right (list_all (λ (i : Index). not (i.is_unique && is_record_tree i.table)) o.indexes) _ apart)

-- ---- what guards the record's tables
pub is_its : (t : Table) → is_record_tree (form_of t).table.tree ≡ true
is_its Meta = refl
is_its Pool = refl
is_its Dag = refl
is_its DagLimit = refl
is_its Run = refl
is_its Instance = refl
is_its Attempt = refl

-- an index of theirs does not guard it
unguarded : (t : Table) (i : Index) → not (i.is_unique && is_record_tree i.table) ≡ true → guards i (form_of t).table ≡ false
unguarded t i h = go i.is_unique (cases_Bool (nat_eq i.table (form_of t).table.tree)) h
  where
    go : (u : Bool) → (nat_eq i.table (form_of t).table.tree ≡ true) ⊎ (nat_eq i.table (form_of t).table.tree ≡ false) → not (u && is_record_tree i.table) ≡ true → (u && nat_eq i.table (form_of t).table.tree) ≡ false
    go false c h = refl
    go true (inr apart) h = apart
    go true (inl same) h =
        let is : i.table ≡ (form_of t).table.tree = search rules in
        absurd (true≢false (sym h ∙ ap not (ap is_record_tree is ∙ is_its t)))

unshared : (t : Table) (new row : Row) (indexes : List Index) → list_all (λ (i : Index). not (i.is_unique && is_record_tree i.table)) indexes ≡ true → list_any (shares None (form_of t).table new row) indexes ≡ false
unshared t new row [] h = refl
unshared t new row (i ∷ indexes) h =
    let none : guards i (form_of t).table ≡ false = unguarded t i (and_left _ _ h) in
    rw none (unshared t new row indexes (and_right (not (i.is_unique && is_record_tree i.table)) _ h))

or_false : (b : Bool) → (b || false) ≡ b
or_false true = refl
or_false false = refl

-- a row conflicts where it did without them
pub conflicts_beside : (o : Others) → are_apart o ≡ true → (t : Table) (new row : Row) → conflicts None (with_others o).indexes (form_of t).table new row ≡ conflicts None record_schema.indexes (form_of t).table new row
conflicts_beside o apart t new row =
    ap (λ b. agree plain (0 ∷ []) row (0 ∷ []) new || b)
    (list_any-append (shares None (form_of t).table new row) record_schema.indexes o.indexes
    ∙ ap (λ b. list_any (shares None (form_of t).table new row) record_schema.indexes || b) (unshared t new row o.indexes (and_left _ _ apart)) ∙ or_false _)
