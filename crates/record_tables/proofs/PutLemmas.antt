-- What INSERT OR REPLACE of one row does to the rows that the database stores, at each table.
use Rattle.std.proofs.Common.{◌≡◌, ◌≢◌, inl, inr, ℕ, List, [], ◌∷◌, ◌++◌, map, Bool, true, false, true≢false, Ok, Err, Result, OnOk, IsTrue, refl, sym, ap, subst, ◌∙◌}
use Rattle.std.specs.List.{AllByRecursion}
use Rattle.sqlite_value.specs.Order.{Row}
use Rattle.sqlite_trees.specs.Tree.{Trees}
use Rattle.sqlite_trees.proofs.ListLemmas.{map-map}
use Rattle.sqlite_schema.specs.declared.schema.Schema.{Schema}
use Rattle.sqlite_schema.specs.declared.schema.Table.{Table as Kept}
use Rattle.sqlite_schema.specs.declared.command.Conflict.TheVariants.{Replace}
use Rattle.sqlite_schema.specs.declared.command.Source.TheVariants.{Values}
use Rattle.sqlite_schema.specs.declared.command.Command.TheVariants.{InsertOr}
use Rattle.sqlite_rules.specs.Cast.{cast_row}
use Rattle.sqlite_rules.proofs.ListLemmas.{all_has, all_from}
use Rattle.sqlite.specs.declared.error.Error.{Error}
use Rattle.sqlite.specs.Effect.{IsDatabase}
use Rattle.sqlite.specs.Listing.{understood}
use Rattle.sqlite.specs.State.{State, ExecutesInside}
use Rattle.sqlite.proofs.Callers.{statement_of, runs_as}
use Rattle.record_rules.specs.sched_model.Lists.{rises}
use Rattle.record_rules.specs.Between.{put, puts}
use Rattle.record_rows.specs.Rows.{Rows}
use Rattle.record_rows.specs.declared.tables.Table.{Table}
use Rattle.record_rows.specs.declared.tables.Table.TheVariants.{Meta, Pool, Dag, DagLimit, Run, Instance, Attempt}
use Rattle.record_rules.specs.Cells.{Cell, cells_in}
use Rattle.record_tables.specs.Forms.{form_of, values_of, terms_of, width_of, source_of, row_of}
use Rattle.record_rules.specs.Keys.{rises_in}
use Rattle.record_tables.specs.Holds.{Shows}
use Rattle.record_tables.specs.Kept.{IsKept}
use Rattle.record_tables.specs.Puts.{GoesBy, PutsIn, put_in, put_of}
use Rattle.record_tables.specs.Others.{Others, with_others, are_apart, is_record_tree}
use Rattle.record_rules.proofs.OrderLemmas.{put_rises, puts_more}
use Rattle.record_tables.proofs.OthersLemmas.{conflicts_beside, is_its, spared_beside, stands}
use Rattle.record_tables.proofs.PlaceLemmas.{kept_at, one_tree, same_or_not}
use Rattle.record_tables.proofs.ReplaceLemmas.{Replaces, replaces}
use Rattle.record_tables.proofs.RowLemmas.{shows_put}

-- no table counts its rowids
uncounted : (t : Table) → (form_of t).table.is_counted ≡ false
uncounted Meta = refl
uncounted Pool = refl
uncounted Dag = refl
uncounted DagLimit = refl
uncounted Run = refl
uncounted Instance = refl
uncounted Attempt = refl

-- a table whose rows are as before shows what it did
pub shows_still : (table : Kept) (db after : Trees) (shown : List Row) → after table.tree ≡ db table.tree → Shows table db shown → Shows table after shown
shows_still table db after shown same h = record { rising = rw same h.rising; is = rw same h.is }

module _ {X : Type 0} (w : Table) (cells : X → List Cell) (before : X → X → Bool) (among : Rows → List X) (with_rows : Rows → List X → Rows) (k : IsKept w cells before among with_rows) where
  -- the statement put the row that the table makes of its values in place of those that it conflicts with
  replaced : (o : Others) → are_apart o ≡ true → (old new : State) (count : ℕ) (x : X) → old.now.schema ≡ with_others o → ExecutesInside 0 (form_of w).put (values_of (cells x)) old new (Ok count)
      → (new.now.schema ≡ with_others o) × Replaces (with_others o) (form_of w).table old.now.trees new.now.trees (row_of (form_of w) (old.now.trees (form_of w).table.tree) (values_of (cells x))) × IsDatabase new.now
  replaced o apart old new count x has h =
      let f = form_of w in
      let vs = values_of (cells x) in
      let stored = k.stored (old.now.trees f.table.tree) x in
      let did = runs_as f.put vs old new (with_others o) has (InsertOr f.at Replace (Values (terms_of f) (width_of f)) []) (k.puts o).0 (k.puts o).1 count h.0 in
      let same = subst (λ row. cast_row f.table row ≡ row) (sym stored) (k.stable (old.now.trees f.table.tree) x) in
      let r = replaces (with_others o) f.at f.table (stands o w) (uncounted w) (spared_beside o apart w) (terms_of f) (width_of f) vs (source_of f vs) (k.given x) old new (statement_of f.put (understood (with_others o) f.put)) count has same did in
      (r.0, subst (Replaces (with_others o) f.table old.now.trees new.now.trees) stored r.1, did.sound)

  -- the rows of the table, once it has these
  cells_here : (rows : Rows) (xs : List X) → map values_of (cells_in w (with_rows rows xs)) ≡ map (λ x. values_of (cells x)) xs
  cells_here rows xs = ap (map values_of) ((k.are (with_rows rows xs)).0 ∙ ap (map cells) (k.here rows xs)) ∙ map-map values_of cells xs

  rises_here : (rows : Rows) (xs : List X) → rises_in w (with_rows rows xs) ≡ rises before xs
  rises_here rows xs = (k.are (with_rows rows xs)).1 ∙ ap (rises before) (k.here rows xs)

  pub cells_among : (rows : Rows) → map values_of (cells_in w rows) ≡ map (λ x. values_of (cells x)) (among rows)
  cells_among rows = ap (map values_of) (k.are rows).0 ∙ map-map values_of cells (among rows)

  pub row_put : (old new : State) (x : X) (r : Result ℕ Error) → ExecutesInside 0 (form_of w).put (values_of (cells x)) old new r → OnOk r (PutsIn (put_in among with_rows before (x ∷ [])) old.now new.now)
  row_put old new x (Err e) h = tt
  row_put old new x (Ok count) h = λ rows stored.
      let f = form_of w in
      let o = stored.beside in
      let apart = stored.schema.1 in
      let did = replaced o apart old new count x stored.schema.0 h in
      let left = old.now.trees f.table.tree in
      let up : rises before (among rows) ≡ true = sym (k.are rows).1 ∙ stored.keys w in
      let there : Shows f.table old.now.trees (map (λ x. values_of (cells x)) (among rows)) = subst (Shows f.table old.now.trees) (cells_among rows) (stored.shows w) in
      let after = put before x (among rows) in
      let here : Shows f.table new.now.trees (map values_of (cells_in w (with_rows rows after))) =
      subst (Shows f.table new.now.trees) (sym (cells_here rows after))
      (shows_put (λ x. values_of (cells x)) before (with_others o) f.table (row_of f left (values_of (cells x))) x (k.shape left x) k.order old.now.trees new.now.trees (among rows) up there did.1 (λ y p has is. conflicts_beside o apart w (row_of f left (values_of (cells x))) y ∙ k.clash left x there.rising y p has is)) in
      let tables = subst (λ (s : Schema). AllByRecursion (λ (t : Kept). t.tree ≢ f.table.tree → new.now.trees t.tree ≡ old.now.trees t.tree) s.tables) (sym stored.schema.0) did.1.others in (
        record {
          beside = o;
          schema = (did.0, apart);
          shows = λ t. elim (same_or_not t w) [
            | inl is ↦ subst (λ t. Shows (form_of t).table new.now.trees (map values_of (cells_in t (with_rows rows after)))) (sym is) here
            | inr not ↦ subst (λ l. Shows (form_of t).table new.now.trees (map values_of l)) (sym (k.elsewhere t rows after not).0)
                (shows_still (form_of t).table old.now.trees new.now.trees _ (kept_at o t f.table old.now.trees new.now.trees did.1.others (λ e. not (one_tree t w e))) (stored.shows t))
          ];
          keys = λ t. elim (same_or_not t w) [
            | inl is ↦ subst (λ t. IsTrue (rises_in t (with_rows rows after))) (sym is) (rises_here rows after ∙ put_rises k.order x (among rows) up)
            | inr not ↦ (k.elsewhere t rows after not).1 ∙ stored.keys t
          ];
          sound = did.2;
        },
        (did.0 ∙ sym stored.schema.0, all_from _ old.now.schema.tables (λ t has apart. all_has _ old.now.schema.tables t tables has (λ e. true≢false (sym (is_its w) ∙ ap is_record_tree (sym e) ∙ apart)))),
      )

  -- rows that are put one after another
  pub puts_again : (rs ss : List X) (rows : Rows) → put_in among with_rows before (rs ++ ss) rows ≡ put_in among with_rows before ss (put_in among with_rows before rs rows)
  puts_again rs ss rows =
      let first = puts before rs (among rows) in
      ap (with_rows rows) (puts_more before rs ss (among rows) ∙ ap (puts before ss) (sym (k.here rows first))) ∙ sym (k.again rows first _)

-- the rows of a slice that were put are those of the table in a record
pub goes_of : {X A E : Type 0} (w table : Table) → table ≡ w → (change : List X → Rows → Rows) (read : Rows → List X) → ((new : Rows) → change (read new) ≡ put_of w new) → (slice : List X) (view rows : Rows) → slice ≡ read view → view ≡ rows
    → (old new : State) (r : Result A E) → OnOk r (GoesBy (PutsIn (change slice)) old new) → OnOk r (GoesBy (PutsIn (put_of table rows)) old new)
goes_of w table is change read same slice view rows these viewed old new r h =
    let put_is : change slice ≡ put_of table rows = ap change these ∙ same view ∙ ap (put_of w) viewed ∙ ap (λ t. put_of t rows) (sym is) in
    subst (λ f. OnOk r (GoesBy (PutsIn f) old new)) put_is h
