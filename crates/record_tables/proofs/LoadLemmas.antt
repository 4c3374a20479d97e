-- What the query of a load shows of a table, at each table.
use Rattle.std.proofs.Common.{◌≡◌, inl, inr, refl, ap, ap₂, sym, subst, ◌∙◌, List, [], ◌∷◌, map, flat_map, Bool, Result, Ok, Err, OnOk, IfErr}
use Rattle.std.specs.List.{AllByRecursion}
use Rattle.std.specs.List.Sorted.{IsPermutation}
use Rattle.sqlite_value.specs.Order.{Row}
use Rattle.sqlite_trees.specs.Tree.{Trees}
use Rattle.sqlite_rules.specs.Lists.{Has}
use Rattle.sqlite_sql.specs.Term.{Term}
use Rattle.sqlite.specs.Program.{overlay}
use Rattle.sqlite.specs.Query.{output, matches}
use Rattle.sqlite.specs.State.{State, HasCleanDisk, Shown}
use Rattle.record_rows.specs.Rows.{Rows}
use Rattle.record_rows.specs.declared.tables.Table.{Table}
use Rattle.record_rows.specs.declared.tables.Table.TheVariants.{Meta, Pool, Dag, DagLimit, Run, Instance, Attempt}
use Rattle.record_rules.specs.Cells.{Cell, AreText, AreTexts, cells_in}
use Rattle.record_tables.specs.Forms.{Form, form_of, values_of, places_of, shown_of, pick, first_of}
use Rattle.record_tables.specs.Holds.{Shows, Stores}
use Rattle.record_tables.specs.Kept.{IsKept, query_of}
use Rattle.record_tables.specs.Loads.{Loads, Stays, IsRowOf}
use Rattle.record_tables.specs.Others.{with_others}
use Rattle.record_tables.specs.Puts.{take_of}
use Rattle.record_tables.specs.declared.faults.LoadFault.{LoadFault}
use Rattle.record_tables.specs.declared.faults.LoadFault.TheVariants.{NotOurs}
use Rattle.record_tables.proofs.PlaceLemmas.{shown_at, picks, firsts, same_or_not}
use Rattle.record_tables.proofs.PutLemmas.{cells_among}
use Rattle.record_tables.proofs.ShownLemmas.{answer_is, stays, loaded_is, reads_all}

picked_rows : (f : Form) (rows : List Row) → map (output (query_of f.table.tree (shown_of f))) (flat_map (λ r. ([] ∷ r ∷ []) ∷ []) rows) ≡ map (λ r. ([], pick f r)) rows
picked_rows f [] = refl
picked_rows f (r ∷ rows) = ap₂ (λ (l : Row) more. ([], l) ∷ more) (shown_at r (places_of f)) (picked_rows f rows)

-- a query of a table alone reads its rows
alone : (t : Table) (shown : List Term) (db : Trees) → matches (overlay db []) [] (query_of (form_of t).table.tree shown).from ([] ∷ []) ≡ flat_map (λ r. ([] ∷ r ∷ []) ∷ []) (db (form_of t).table.tree)
alone Meta shown db = refl
alone Pool shown db = refl
alone Dag shown db = refl
alone DagLimit shown db = refl
alone Run shown db = refl
alone Instance shown db = refl
alone Attempt shown db = refl

picked : (t : Table) (db : Trees) → map (output (query_of (form_of t).table.tree (shown_of (form_of t)))) (matches (overlay db []) [] (query_of (form_of t).table.tree (shown_of (form_of t))).from ([] ∷ [])) ≡ map (λ r. ([], pick (form_of t) r)) (db (form_of t).table.tree)
picked t db = ap (map (output (query_of (form_of t).table.tree (shown_of (form_of t))))) (alone t (shown_of (form_of t)) db) ∙ picked_rows (form_of t) (db (form_of t).table.tree)

all_mapped : {X : Type 0} (cells : X → List Cell) (xs : List X) → AllByRecursion AreText (map cells xs) → AllByRecursion (λ x. AreText (cells x)) xs
all_mapped cells [] all = tt
all_mapped cells (x ∷ xs) all = (all.0, all_mapped cells xs all.1)

module _ {X : Type 0} (w : Table) (cells : X → List Cell) (before : X → X → Bool) (among : Rows → List X) (with_rows : Rows → List X → Rows) (k : IsKept w cells before among with_rows) where
  answer : (old new : State) (got : List Row) (rows : Rows) → Stores old.now rows → Shown (form_of w).select [] old new got → IsPermutation (map (pick (form_of w)) (old.now.trees (form_of w).table.tree)) got
  answer old new got rows stored shown =
      answer_is (with_others stored.beside) (form_of w).table.tree (shown_of (form_of w)) (form_of w).columns (form_of w).select (k.selects stored.beside) (pick (form_of w)) (picked w) old new got stored.schema.0 shown

  shows : (db : Trees) (rows : Rows) → Shows (form_of w).table db (map values_of (cells_in w rows)) → Shows (form_of w).table db (map (λ x. values_of (cells x)) (among rows))
  shows db rows h = subst (Shows (form_of w).table db) (cells_among w cells before among with_rows k rows) h

  pub rows_stay : (old new : State) (got : List Row) → Shown (form_of w).select [] old new got → Stays old.now new.now
  rows_stay old new got shown rows stored =
      stays (with_others stored.beside) (form_of w).table.tree (shown_of (form_of w)) (form_of w).columns (form_of w).select (k.selects stored.beside) (pick (form_of w)) (picked w) old new got stored.schema.0 shown

  pub rows_are : (old new : State) (got : List Row) (rows : Rows) → Stores old.now rows → Shown (form_of w).select [] old new got
      → (read : List X) → map (λ x. values_of (cells x)) read ≡ map (first_of (form_of w)) got → IsPermutation read (among rows)
  rows_are old new got rows stored shown read is =
      loaded_is (λ x. values_of (cells x)) (pick (form_of w)) (first_of (form_of w)) (form_of w).table (λ r x. picks (form_of w) (cells x) (k.wide x) r) k.inj (λ x. firsts (form_of w) (cells x) (k.wide x)) old.now.trees (among rows)
      (shows old.now.trees rows (stored.shows w)) got (answer old new got rows stored shown) read is

  pub rows_read : (old new : State) (got : List Row) (rows : Rows) → Stores old.now rows → Shown (form_of w).select [] old new got → AllByRecursion AreText (cells_in w rows) → (row : Row) → Has got row → IsRowOf cells row
  rows_read old new got rows stored shown all row has =
      reads_all (λ x. values_of (cells x)) (pick (form_of w)) (first_of (form_of w)) (form_of w).table (λ r x. picks (form_of w) (cells x) (k.wide x) r) (λ x. AreText (cells x)) old.now.trees (among rows)
      (shows old.now.trees rows (stored.shows w)) got (answer old new got rows stored shown) (all_mapped cells (among rows) (subst (AllByRecursion AreText) (k.are rows).0 all)) row has

-- ---- a table read into the rows of a record
module _ {X : Type 0} (w : Table) (cells : X → List Cell) (before : X → X → Bool) (among : Rows → List X) (with_rows : Rows → List X → Rows) (k : IsKept w cells before among with_rows) where
  mapped_all : (xs : List X) → AllByRecursion (λ x. AreText (cells x)) xs → AllByRecursion AreText (map cells xs)
  mapped_all [] all = tt
  mapped_all (x ∷ xs) all = (all.0, mapped_all xs all.1)

  texts_of : (was : Rows) (xs : List X) → AllByRecursion (λ x. AreText (cells x)) xs → AreTexts was → AreTexts (with_rows was xs)
  texts_of was xs all texts t = elim (same_or_not t w) [
    | inl is ↦ subst (λ t. AllByRecursion AreText (cells_in t (with_rows was xs))) (sym is) (subst (AllByRecursion AreText) (sym ((k.are (with_rows was xs)).0 ∙ ap (map cells) (k.here was xs))) (mapped_all xs all))
    | inr apart ↦ subst (AllByRecursion AreText) (sym (k.elsewhere t was xs apart).0) (texts t)
  ]

  pub loads_of : {A : Type 0} (table : Table) → table ≡ w → ((stored into : Rows) → take_of w stored into ≡ with_rows into (among stored)) → (old new : State) (was now : Rows) (xs : List X) → now ≡ with_rows was xs → (r : Result A LoadFault)
      → (HasCleanDisk new → OnOk r ((stored : Rows) → Stores old.now stored → xs ≡ among stored))
      → OnOk r (AllByRecursion (λ x. AreText (cells x)) xs)
      → (HasCleanDisk new → IfErr r (λ e. e ≡ NotOurs → (stored : Rows) → Stores old.now stored → ¬ AllByRecursion AreText (cells_in w stored)))
      → Loads table old new was now r
  loads_of table is takes old new was now xs made (Ok a) list texts fault = record {
    list = λ clean stored has. made ∙ ap (with_rows was) (list clean stored has) ∙ sym (takes stored was) ∙ ap (λ t. take_of t stored was) (sym is);
    texts = λ t. subst AreTexts (sym made) (texts_of was xs texts t);
    fault = λ clean. tt;
  }
  loads_of table is takes old new was now xs made (Err e) list texts fault = record {
    list = λ clean. tt;
    texts = tt;
    fault = λ clean ours stored has all. fault clean ours stored has (subst (λ t. AllByRecursion AreText (cells_in t stored)) is all);
  }
