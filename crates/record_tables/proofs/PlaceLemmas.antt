-- The columns of a row at the places of a table, and the trees of the tables.
use Rattle.std.proofs.Common.{◌≡◌, ◌≢◌, ◌⊎◌, inl, inr, ℕ, zero, suc, List, [], ◌∷◌, map, drop, length, nat_eq, Option, None, Some, refl, sym, ap, ap₂, subst, ◌∙◌}
use Rattle.std.proofs.lemmas.Bool.{cases_Bool}
use Rattle.sqlite_value.specs.declared.value.Value.{Value}
use Rattle.sqlite_value.specs.Order.{Row, column}
use Rattle.sqlite_trees.specs.Tree.{Trees, rowid}
use Rattle.sqlite_schema.specs.declared.schema.Table.{Table as Kept}
use Rattle.sqlite_sql.specs.Term.{col, eval_all}
use Rattle.record_rows.specs.declared.tables.Table.{Table}
use Rattle.record_rows.specs.declared.tables.Table.TheVariants.{Meta, Pool, Dag, DagLimit, Run, Instance, Attempt}
use Rattle.record_rules.specs.Cells.{Cell}
use Rattle.record_tables.specs.Forms.{Form, form_of, values_of, places_from, places_at, pick, first_of}
use Rattle.record_tables.specs.Holds.{columns_at, columns_of}
use Rattle.record_tables.specs.Others.{Others, with_others}
use Rattle.record_tables.proofs.ReplaceLemmas.{Keeps}

behind : (v : Value) (r : Row) (at n : ℕ) → map (column (v ∷ r)) (places_from (suc at) n) ≡ map (column r) (places_from at n)
behind v r at zero = refl
behind v r at (suc n) = ap (λ l. column r at ∷ l) (behind v r (suc at) n)

-- all columns of a row
pub whole : (r : Row) → map (column r) (places_from 0 (length r)) ≡ r
whole [] = refl
whole (v ∷ r) = ap (λ l. v ∷ l) (behind v r 0 (length r) ∙ whole r)

after_1 : (r : Row) → map (column r) (places_from 1 (length (drop 1 r))) ≡ drop 1 r
after_1 [] = refl
after_1 (v ∷ r) = behind v r 0 (length r) ∙ whole r

after_2 : (r : Row) → map (column r) (places_from 2 (length (drop 2 r))) ≡ drop 2 r
after_2 [] = refl
after_2 (v ∷ []) = refl
after_2 (v ∷ w ∷ r) = behind v (w ∷ r) 1 (length r) ∙ behind w r 0 (length r) ∙ whole r

picked_at : (key : Option ℕ) (r : Row) → map (column r) (places_at key (length (columns_at key r))) ≡ columns_at key r
picked_at None r = after_1 r
picked_at (Some at) r = ap (λ l. rowid r ∷ l) (after_2 r)

values_wide : (cells : List Cell) → length (values_of cells) ≡ length cells
values_wide [] = refl
values_wide (c ∷ cells) = ap suc (values_wide cells)

-- of so many cells, the columns that a query shows of the row that is kept are its values
module _ (f : Form) (cells : List Cell) (wide : length cells ≡ length f.columns) where
  pub picks : (r : Row) → columns_of f.table r ≡ values_of cells → pick f r ≡ values_of cells
  picks r is =
      let long : length (columns_at f.table.key r) ≡ length f.columns = ap length is ∙ values_wide cells ∙ wide in
      subst (λ n. map (column r) (places_at f.table.key n) ≡ columns_of f.table r) long (picked_at f.table.key r) ∙ is

  pub firsts : first_of f (values_of cells) ≡ values_of cells
  firsts = subst (λ n. map (column (values_of cells)) (places_from 0 n) ≡ values_of cells) (values_wide cells ∙ wide) (whole (values_of cells))

-- what a query of these columns shows of a row
pub shown_at : (r : Row) (places : List ℕ) → eval_all (map (col 1) places) ([] ∷ r ∷ []) ≡ map (column r) places
shown_at r [] = refl
shown_at r (p ∷ places) = ap (λ l. column r p ∷ l) (shown_at r places)

-- ---- no two tables have one tree
abbrev of_tree : ℕ → Table
of_tree zero = Meta
of_tree (suc zero) = Pool
of_tree (suc (suc (suc zero))) = Dag
of_tree (suc (suc (suc (suc (suc zero))))) = Run
of_tree (suc (suc (suc (suc (suc (suc (suc zero))))))) = Instance
of_tree (suc (suc (suc (suc (suc (suc (suc (suc (suc zero))))))))) = Attempt
of_tree _ = DagLimit

of_its_tree : (t : Table) → of_tree (form_of t).table.tree ≡ t
of_its_tree Meta = refl
of_its_tree Pool = refl
of_its_tree Dag = refl
of_its_tree DagLimit = refl
of_its_tree Run = refl
of_its_tree Instance = refl
of_its_tree Attempt = refl

pub one_tree : (t u : Table) → (form_of t).table.tree ≡ (form_of u).table.tree → t ≡ u
one_tree t u same = sym (of_its_tree t) ∙ ap of_tree same ∙ of_its_tree u

-- what a statement that changes one table leaves of another
pub kept_at : (o : Others) (t : Table) (table : Kept) (old new : Trees) → Keeps (with_others o) table old new → (form_of t).table.tree ≢ table.tree → new (form_of t).table.tree ≡ old (form_of t).table.tree
kept_at o Meta table old new others = others.0
kept_at o Pool table old new others = others.1.0
kept_at o Dag table old new others = others.1.1.0
kept_at o DagLimit table old new others = others.1.1.1.1.1.1.0
kept_at o Run table old new others = others.1.1.1.0
kept_at o Instance table old new others = others.1.1.1.1.0
kept_at o Attempt table old new others = others.1.1.1.1.1.0

-- whether two tables are the same
pub same_or_not : (t u : Table) → (t ≡ u) ⊎ (t ≢ u)
same_or_not t u = go (cases_Bool (nat_eq (form_of t).table.tree (form_of u).table.tree))
  where
    go : (nat_eq (form_of t).table.tree (form_of u).table.tree ≡ Rattle.std.proofs.Common.true) ⊎ (nat_eq (form_of t).table.tree (form_of u).table.tree ≡ Rattle.std.proofs.Common.false) → (t ≡ u) ⊎ (t ≢ u)
    go (inl is) = inl (one_tree t u (search Rattle.std.proofs.Common.rules))
    go (inr apart) = inr (λ same. let it = ap (λ t. (form_of t).table.tree) same in search Rattle.std.proofs.Common.rules)
