-- What an opening finds of what a crash left.
use Rattle.std.proofs.Common.{◌≡◌, ◌⊎◌, false, ap, ◌∙◌, subst, sym, inl, inr, IsTrue}
use Rattle.std.proofs.Math.Logic.{∥∥₁_map}
use Rattle.sqlite_catalog.specs.Listing.{Lists}
use Rattle.sqlite_catalog.proofs.ReadLemmas.{lists_once}
use Rattle.sqlite_disk.specs.declared.Disk.{Ghosts}
use Rattle.sqlite_disk.specs.declared.Files.{Files}
use Rattle.sqlite_store.specs.declared.store.FileStore.{FileStore}
use Rattle.sqlite_store.specs.FileStore.{recovers}
use Rattle.sqlite_store.specs.Laws.{settled_at}
use Rattle.sqlite_trees.specs.Objects.{catalog_tree}
use Rattle.sqlite_trees.specs.Tree.{Trees}
use Rattle.sqlite_wal.specs.Recovery.{Image}
use Rattle.sqlite_wal.proofs.LogLemmas.{SeenMayStay}
use Rattle.sqlite.specs.Closing.{IsCopied}
use Rattle.sqlite.specs.Effect.{Database, IsDatabase}
use Rattle.sqlite.specs.Files.{file_state, HoldsDatabase}
use Rattle.sqlite.specs.Held.{Held}
use Rattle.sqlite.specs.Schema.{Schema}
use Rattle.sqlite.specs.State.{HasCleanDisk, Survives}
use Rattle.sqlite.proofs.Theorems.{next_run}
use Rattle.meta_store.specs.record_tables.Holds.{Stores}
use Rattle.meta_store.specs.record_tables.Puts.{LeavesOthers}
use Rattle.meta_store.specs.Stores.{CommitsBy, Migrates, OpensBy}
use Rattle.director.specs.Crashes.{IsConnection, IsFoundAround, IsLeftOf, IsOpenedOn, MayBeLeft}

pub one_database : (a b : Database) → IsDatabase a → IsDatabase b → a.trees ≡ b.trees → a ≡ b
one_database a b p q same =
    let schemas : a.schema ≡ b.schema = lists_once (a.trees catalog_tree) a.schema b.schema p.lists (subst (λ (t : Trees). Lists (t catalog_tree) b.schema) (sym same) q.lists) in
    ap (λ (s : Schema). let r : Database = record { schema = s; trees = a.trees } in r) schemas ∙ ap (λ (t : Trees). let r : Database = record { schema = b.schema; trees = t } in r) same

-- a database that SQLite has, with the trees of one that stores rows, is this one
pub stores_by_trees : (new found : Database) (rows : _) → IsDatabase found → found.trees ≡ new.trees → Stores new rows → Stores found rows
stores_by_trees new found rows sound same stored = subst (λ (d : Database). Stores d rows) (sym (one_database found new sound stored.sound same)) stored

-- and what is beside them is the same
pub turns_by_trees : (old new found : Database) (rows : _) → IsDatabase found → found.trees ≡ new.trees → Stores new rows × LeavesOthers old new → Stores found rows × LeavesOthers old found
turns_by_trees old new found rows sound same (stored, leaves) =
    (stores_by_trees new found rows sound same stored, subst (λ (d : Database). LeavesOthers old d) (sym (one_database found new sound stored.sound same)) leaves)

pub restarts_by_trees : {P : Type 0} (old new found : Database) (rows : _) → IsDatabase found → found.trees ≡ new.trees → Stores new rows × (P → LeavesOthers old new) → Stores found rows × (P → LeavesOthers old found)
restarts_by_trees old new found rows sound same (stored, leaves) =
    (stores_by_trees new found rows sound same stored, (λ p. subst (λ (d : Database). LeavesOthers old d) (sym (one_database found new sound stored.sound same)) (leaves p)))

-- the relation tells of a database what it tells of one with the same trees
abbrev pub TellsByTrees : (Database → Database → Type 0) → Type 0
TellsByTrees R = (old new found : Database) → IsDatabase found → found.trees ≡ new.trees → R old new → R old found

-- a migration and an opening do
pub migrates_by_trees : TellsByTrees Migrates
migrates_by_trees old new found sound same migrates = record {
  was = migrates.was;
  stored = λ rows first. let it = migrates.stored rows first in (it.0, stores_by_trees new found _ sound same it.1);
}

pub opens_by_trees : (R : Database → Database → Type 0) → TellsByTrees R → TellsByTrees (OpensBy R)
opens_by_trees R tells old new found sound same (inl migrates) = inl (migrates_by_trees old new found sound same migrates)
opens_by_trees R tells old new found sound same (inr (mid, how, made)) = inr (mid, how, tells mid new found sound same made)

-- outside of a transaction a crash leaves nothing but what is there
leaves_itself : {D : Type 0} {g : Ghosts D} → SeenMayStay g → (h : Held (FileStore D g)) → IsConnection h → IsTrue (file_state h).is_open → h.in_transaction ≡ false → (trees : Trees) → (file_state h).may_leave trees
    → trees ≡ (file_state h).now.trees
leaves_itself stays h is is_open outside trees may = settled_at h.store stays trees is_open may ∙ sym (is.settled is_open outside).0

-- files that a close left so hold the last commit
holds_last : {D : Type 0} {g : Ghosts D} (closed : Held (FileStore D g)) (files : Files D) (left : Image) → IsCopied closed files → IsLeftOf g files left → ∥ HoldsDatabase left (file_state closed).committed.trees ∥₁
holds_last closed files left copied (inl may) = (copied.left left may).both
holds_last closed files left copied (inr (image, may, same)) = subst (λ (i : Image). ∥ HoldsDatabase i (file_state closed).committed.trees ∥₁) (sym same) (copied.left image may).alone

module _ {D E : Type 0} {g : Ghosts D} {k : Ghosts E} where
  -- the trees that are found are among those that may be left
  found_trees : (before : Held (FileStore D g)) (found : Held (FileStore E k)) (left : Image) → IsConnection before → HasCleanDisk (file_state before) → MayBeLeft before left → IsOpenedOn left found
      → ∥ (file_state before).may_leave (file_state found).now.trees ∥₁
  found_trees before found left is clean may opened =
      ∥∥₁_map (next_run before.store (is.numbered clean) (is.found clean) left may (file_state found) opened.1) (λ r. subst (λ (d : Database). recovers before.store d.trees) (sym opened.0.0.clean) r)

  -- trees that are those of an open connection are its database
  same_now : (before : Held (FileStore D g)) (found : Held (FileStore E k)) (left : Image) → IsConnection before → IsTrue (file_state before).is_open → IsOpenedOn left found
      → (file_state found).now.trees ≡ (file_state before).now.trees → (file_state found).now ≡ (file_state before).now
  same_now before found left is is_open opened same = one_database (file_state found).now (file_state before).now (opened.0.1 opened.0.0.is_open).0 (is.serves is_open).sound same

  pub found_itself : SeenMayStay g → (before : Held (FileStore D g)) (found : Held (FileStore E k)) (left : Image) → IsConnection before → HasCleanDisk (file_state before)
      → IsTrue (file_state before).is_open → before.in_transaction ≡ false → MayBeLeft before left → IsOpenedOn left found → ∥ (file_state found).now ≡ (file_state before).now ∥₁
  found_itself stays before found left is clean is_open outside may opened =
      ∥∥₁_map (found_trees before found left is clean may opened) (λ r. same_now before found left is is_open opened (leaves_itself stays before is is_open outside _ r))

  pub found_closed : (closed : Held (FileStore D g)) (files : Files D) (found : Held (FileStore E k)) (left : Image) → IsConnection closed → closed.in_transaction ≡ false
      → IsCopied closed files → IsLeftOf g files left → IsOpenedOn left found → ∥ (file_state found).now ≡ (file_state closed).now ∥₁
  found_closed closed files found left is outside copied may opened =
      ∥∥₁_map (holds_last closed files left copied may) (λ holds.
      same_now closed found left is copied.was_open opened
      (ap (λ (d : Database). d.trees) opened.0.0.clean ∙ (opened.1.holds _ holds ∙ sym (is.settled copied.was_open outside).0)))

  -- what a crash in a transaction may leave is the database of before, or one that it makes
  around : SeenMayStay g → (R : Database → Database → Type 0) → TellsByTrees R → (old : Held (FileStore D g)) (found : Held (FileStore E k)) (left : Image) → IsConnection old → IsTrue (file_state old).is_open → old.in_transaction ≡ false
      → IsOpenedOn left found → (file_state old).may_leave (file_state found).now.trees ⊎ CommitsBy R (file_state old) (file_state found).now.trees → IsFoundAround R (file_state old).now (file_state found).now
  around stays R tells old found left was is_open outside opened (inl before) = inl (same_now old found left was is_open opened (leaves_itself stays old was is_open outside _ before))
  around stays R tells old found left was is_open outside opened (inr made) =
      inr (tells (file_state old).now made.1.0 (file_state found).now (opened.0.1 opened.0.0.is_open).0 made.1.2 made.1.1)

  pub found_around : SeenMayStay g → (R : Database → Database → Type 0) → TellsByTrees R → (old new : Held (FileStore D g)) (found : Held (FileStore E k)) (left : Image) → IsConnection old → IsTrue (file_state old).is_open
      → old.in_transaction ≡ false → IsConnection new → HasCleanDisk (file_state new) → Survives (file_state old) (file_state new) (CommitsBy R (file_state old))
      → MayBeLeft new left → IsOpenedOn left found → ∥ IsFoundAround R (file_state old).now (file_state found).now ∥₁
  found_around stays R tells old new found left was is_open outside is clean survives may opened =
      ∥∥₁_map (found_trees new found left is clean may opened) (λ r. around stays R tells old found left was is_open outside opened (survives.crash clean _ r))
