-- What a query of a table shows: the rows that the table stores.
use Rattle.std.proofs.Common.{◌≡◌, ◌∙◌, refl, sym, ap, ap₂, subst, inl, inr, ℕ, List, [], ◌∷◌, map}
use Rattle.std.specs.List.{AllByRecursion}
use Rattle.std.specs.List.Sorted.{IsPermutation}
use Rattle.std.proofs.lemmas.List.Sorted.{IsPermutation-sym, IsPermutation-trans, IsPermutation-map}
use Rattle.sqlite_value.specs.declared.value.Value.TheVariants.{Null}
use Rattle.sqlite_value.specs.Order.{Row}
use Rattle.sqlite_trees.specs.Tree.{Trees}
use Rattle.sqlite_trees.proofs.ListLemmas.{map-map}
use Rattle.sqlite_rules.specs.Lists.{Has}
use Rattle.sqlite_schema.specs.declared.schema.Schema.{Schema}
use Rattle.sqlite_schema.specs.declared.schema.Table.{Table}
use Rattle.sqlite_sql.specs.Term.{Term}
use Rattle.sqlite.specs.Query.{IsAnswer, output, Output, matches}
use Rattle.sqlite.specs.Program.{overlay}
use Rattle.sqlite.specs.Listing.{understood}
use Rattle.sqlite.specs.State.{State, Shown, IsUnchanged}
use Rattle.sqlite.proofs.Callers.{IsPlain, reads_as}
use Rattle.record_tables.specs.Holds.{columns_of, Shows}
use Rattle.record_tables.proofs.PermutationLemmas.{has_permuted, comes_from, from_images}
use Rattle.record_tables.specs.Kept.{Selects, query_of, select_of}

-- a query that shows so much of each row, and sorts by nothing
module _ (schema : Schema) (tree : ℕ) (shown : List Term) (names : List (List ℕ)) (sql : List ℕ) (is : Selects schema sql tree shown names) (pick : Row → Row)
    (picked : (db : Trees) → map (output (query_of tree shown)) (matches (overlay db []) [] (query_of tree shown).from ([] ∷ [])) ≡ map (λ r. ([], pick r)) (db tree)) where
  answered : (old new : State) (rows : List Row) → old.now.schema ≡ schema → Shown sql [] old new rows
      → (ordered : List Output) × IsPermutation (map (λ r. ([], pick r)) (old.now.trees tree)) ordered × (rows ≡ map (λ (o : Output). o.1) ordered)
  answered old new rows has h =
      let got = (reads_as sql [] old new schema has (select_of tree shown names) is.0 is.1 is.2 rows h).answer in
      let a : IsAnswer (query_of tree shown) (overlay old.now.trees []) [] rows = got Null in
      let kept : a.kept ≡ map (λ r. ([], pick r)) (old.now.trees tree) = a.distinct ∙ ap (map (output (query_of tree shown))) a.grouped ∙ picked old.now.trees in
      (a.ordered, subst (λ k. IsPermutation k a.ordered) kept a.same, a.shown)

  unmoved : (old new : State) (rows : List Row) → old.now.schema ≡ schema → Shown sql [] old new rows → IsUnchanged old new
  unfolding Shown
  unmoved old new rows has h =
      let known = sym h.1.is ∙ ap (λ s. understood s sql) has in
      let bare = subst IsPlain (sym known) is.1 in
      (rw (bare.0, bare.1) at h.2).3

  -- the database is as it was
  pub stays : (old new : State) (rows : List Row) → old.now.schema ≡ schema → Shown sql [] old new rows → new.now ≡ old.now
  stays old new rows has h = (unmoved old new rows has h).0.now_is

  -- the rows that are shown are those of the table, in some order
  pub answer_is : (old new : State) (rows : List Row) → old.now.schema ≡ schema → Shown sql [] old new rows → IsPermutation (map pick (old.now.trees tree)) rows
  answer_is old new rows has h =
      let it = answered old new rows has h in
      let all = old.now.trees tree in
      subst (λ l. IsPermutation l rows) (map-map (λ (o : Output). o.1) (λ r. ([], pick r)) all)
      (subst (IsPermutation (map (λ (o : Output). o.1) (map (λ r. ([], pick r)) all))) (sym it.2) (IsPermutation-map (λ (o : Output). o.1) (map (λ r. ([], pick r)) all) it.0 it.1))

-- the typed rows that were read are those that the table shows
module _ {X : Type 0} (cells_of : X → Row) (pick firsts : Row → Row) (table : Table) (picks : (r : Row) (p : X) → columns_of table r ≡ cells_of p → pick r ≡ cells_of p) where
  picked_are : (rows : List Row) (shown : List X) → map (columns_of table) rows ≡ map cells_of shown → map pick rows ≡ map cells_of shown
  picked_are [] [] e = refl
  picked_are [] (p ∷ shown) e = absurd (cc)
  picked_are (r ∷ rows) [] e = absurd (cc)
  picked_are (r ∷ rows) (p ∷ shown) e = ap₂ (λ a l. a ∷ l) (picks r p (cc)) (picked_are rows shown (cc))

  -- the rows that are shown are the values of the table's rows
  shown_are : (db : Trees) (shown : List X) → Shows table db (map cells_of shown) → (rows : List Row) → IsPermutation (map pick (db table.tree)) rows → IsPermutation (map cells_of shown) rows
  shown_are db shown shows rows same =
      let r = comes_from (columns_of table) (db table.tree) (map cells_of shown) shows.is in
      let moved : IsPermutation (map pick (db table.tree)) (map cells_of shown) = subst (IsPermutation (map pick (db table.tree))) (picked_are r.0 shown r.2) (IsPermutation-map pick _ _ r.1) in
      IsPermutation-trans _ _ _ (IsPermutation-sym _ _ moved) same

  pub loaded_is : (inj : (p q : X) → cells_of p ≡ cells_of q → p ≡ q) (kept : (p : X) → firsts (cells_of p) ≡ cells_of p) (db : Trees) (shown : List X) → Shows table db (map cells_of shown) → (rows : List Row)
      → IsPermutation (map pick (db table.tree)) rows → (loaded : List X) → map cells_of loaded ≡ map firsts rows → IsPermutation loaded shown
  loaded_is inj kept db shown shows rows same loaded read =
      let firsts_are : IsPermutation (map firsts (map cells_of shown)) (map firsts rows) = IsPermutation-map firsts _ _ (shown_are db shown shows rows same) in
      let back : map firsts (map cells_of shown) ≡ map cells_of shown = kept_all kept shown in
      from_images cells_of inj loaded shown (IsPermutation-sym _ _ (subst (λ l. IsPermutation (map cells_of shown) l) (sym read) (subst (λ l. IsPermutation l (map firsts rows)) back firsts_are)))
    where
      kept_all : (kept : (p : X) → firsts (cells_of p) ≡ cells_of p) (ps : List X) → map firsts (map cells_of ps) ≡ map cells_of ps
      kept_all kept [] = refl
      kept_all kept (p ∷ ps) = ap₂ (λ a l. a ∷ l) (kept p) (kept_all kept ps)

  -- each row that is shown is the values of a row that passes what all rows pass
  pub reads_all : (P : X → Type 0) (db : Trees) (shown : List X) → Shows table db (map cells_of shown) → (rows : List Row) → IsPermutation (map pick (db table.tree)) rows → AllByRecursion P shown
      → (row : Row) → Has rows row → (x : X) × P x × (row ≡ cells_of x)
  reads_all P db shown shows rows same all row has = found shown all (has_permuted (map cells_of shown) rows row (shown_are db shown shows rows same) has)
    where
      found : (xs : List X) → AllByRecursion P xs → Has (map cells_of xs) row → (x : X) × P x × (row ≡ cells_of x)
      found [] all h = absurd h
      found (x ∷ xs) all (inl is) = (x, all.0, is)
      found (x ∷ xs) all (inr h) = found xs all.1 h
