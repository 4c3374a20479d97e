-- A command on a record over files that hold nothing, and of which each byte is read as it was written.
use Rattle.std.proofs.Common.{◌≡◌, ◌∙◌, ◌⊎◌, ℕ, true≢false, List, [], length, refl, sym, ap, subst, inl, inr, arith}
use Rattle.sqlite_catalog.specs.Listing.{Lists}
use Rattle.sqlite_catalog.proofs.ReadLemmas.{lists_once}
use Rattle.sqlite_disk.specs.declared.Disk as disk
use Rattle.sqlite_disk.specs.declared.Files.{Files}
use Rattle.sqlite_store.specs.declared.store.FileStore.{FileStore}
use Rattle.sqlite_trees.specs.Objects.{catalog_tree}
use Rattle.sqlite_trees.specs.Sound.{is_sound_list}
use Rattle.sqlite_trees.specs.Tree.{Trees}
use Rattle.sqlite_value.specs.Order.{Row}
use Rattle.sqlite.specs.Effect.{Database}
use Rattle.sqlite.specs.Files.{file_state, image_of, AreFound, Finds, IsOpened}
use Rattle.sqlite.specs.Held.{Held}
use Rattle.sqlite.specs.State.{HasCleanDisk}
use Rattle.sched_model.specs.Schedule.{empty_schedule}
use Rattle.sched_state.specs.Limits.{ceilings}
use Rattle.meta_store.specs.record_tables.Schema.{no_schema}
use Rattle.director.specs.Directors.{Keeps}
use Rattle.operators.specs.declared.operators.Operator as operator
use Rattle.command_words.specs.declared.commands.Command.{Command}
use Rattle.dagsched.specs.Records.{has_tables, IsDoneInFiles, IsDoneInMemory, IsDoneOn, IsNotMade}

-- no object is listed by a schema that has none
lists_nothing : Lists [] no_schema
unfolding is_sound_list
lists_nothing = record { listed = record { tables = tt; indexes = tt; views = tt; owned = tt; named = tt; loads = refl }; guarded = tt }

-- files that hold nothing are opened as trees in which nothing is listed
found_nothing : {D : Type 0} (g : disk.Ghosts D) (files : Files D) (trees : Trees) → AreFound g files trees → (image_of g files).db ≡ [] → trees catalog_tree ≡ []
found_nothing g files trees (inl (size, pages, wanted, adopts, ours, same)) none = let zero : length (image_of g files).db ≡ 0 = ap length none in absurd (omega (arith, adopts.found.present, zero))
found_nothing g files trees (inr (nothing, empty)) none = empty.1

module _ {D : Type 0} {g : disk.Ghosts D} where
  opened_empty : (files : Files D) (conn : Held (FileStore D g)) → IsOpened conn → Finds files conn → (image_of g files).db ≡ [] → (file_state conn).now.schema ≡ no_schema
  opened_empty files conn opened finds none =
      let sound = (opened.1 opened.0.is_open).1 in
      let catalog : (file_state conn).committed.trees catalog_tree ≡ [] = found_nothing g files (file_state conn).committed.trees finds.reads none in
      let lists : Lists [] (file_state conn).committed.schema = subst (λ (rows : List Row). Lists rows (file_state conn).committed.schema) catalog sound.lists in
      ap (λ (db : Database). db.schema) opened.0.clean ∙ lists_once [] (file_state conn).committed.schema no_schema lists lists_nothing

  -- with such a disk: the record is a new one, which stores the empty schedule
  done_in_memory : {O : Type 0} (o : operator.Ghosts O) (c : Command) (conn after : Held (FileStore D g)) (status : ℕ) → ((h : Held (FileStore D g)) → HasCleanDisk (file_state h)) → (file_state conn).now.schema ≡ no_schema
      → IsDoneOn (file_state {g = g}) o c conn after status → IsDoneInMemory g o c status
  done_in_memory o c conn after status clean bare (inl (first, inl (some, same), done)) = absurd (true≢false (sym some ∙ ap has_tables bare))
  done_in_memory o c conn after status clean bare (inl (first, inr (none, made), done)) =
      let empty : Keeps (empty_schedule ceilings) (file_state first).now = made.stored (clean first) bare in
      inl (record { first = first; after = after; empty = empty; clean = clean after; done = done })
  done_in_memory o c conn after status clean bare (inr unmade) =
      inr (
        unmade.fault,
        unmade.told,
        unmade.cause,
        unmade.same,
        unmade.status_is,
      )

  pub in_memory : {O : Type 0} (o : operator.Ghosts O) (c : Command) (files : Files D) (status : ℕ) → ((h : Held (FileStore D g)) → HasCleanDisk (file_state h)) → (image_of g files).db ≡ [] → IsDoneInFiles g o c files status ⊎ IsNotMade status → IsDoneInMemory g o c status
  in_memory o c files status clean none (inl did) =
      let opened = did.opened (clean did.conn) in
      done_in_memory o c did.conn did.after status clean (opened_empty files did.conn opened.0 opened.1 none) did.done
  in_memory o c files status clean none (inr unmade) = inr unmade
