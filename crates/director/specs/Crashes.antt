-- What a crash may leave of the files of a record, and what the next start finds there.
use Rattle.std.specs.Prelude.{◌≡◌, ◌⊎◌, []}
use Rattle.sqlite_disk.specs.declared.Disk.{Ghosts}
use Rattle.sqlite_disk.specs.declared.Files.{Files}
use Rattle.sqlite_store.specs.declared.store.FileStore.{FileStore}
use Rattle.sqlite_store.specs.FileStore.{recovers, state, view}
use Rattle.sqlite_wal.specs.Files.{outcomes}
use Rattle.sqlite_wal.specs.Recovery.{Image}
use Rattle.sqlite.specs.Effect.{Database}
use Rattle.sqlite.specs.Files.{file_state, IsOpened}
use Rattle.sqlite.specs.Held.{Held, IsConnected}
use Rattle.sqlite.specs.Start.{FindsIn}

module _ {D : Type 0} {g : Ghosts D} where
  -- what is true of each connection over files: the invariant of its type
  abbrev pub IsConnection : Held (FileStore D g) → Type 0
  IsConnection h = IsConnected (view h.store) (recovers h.store) h.schema h.saved h.in_transaction

  -- a crash at this moment may leave the two files so
  abbrev pub MayBeLeft : Held (FileStore D g) → Image → Type 0
  MayBeLeft h left = (state h.store).may_leave left

  -- it was opened on files that were left so
  -- it has the database that they recover to
  abbrev pub IsOpenedOn : Image → Held (FileStore D g) → Type 0
  IsOpenedOn left h = IsOpened h × FindsIn left (file_state h)

-- a database is found as it was before a transaction that changes it by this relation, or as one that the transaction makes of it
abbrev pub IsFoundAround : (Database → Database → Type 0) → Database → Database → Type 0
IsFoundAround R before found = (found ≡ before) ⊎ R before found

-- what a program or a crash may leave of two files that were closed: so, or the database file so, with nothing in the log
abbrev pub IsLeftOf : {D : Type 0} → Ghosts D → Files D → Image → Type 0
IsLeftOf g files left = outcomes g files.log files.db left ⊎ ((image : Image) × outcomes g files.log files.db image × (left ≡ record image { log = [] }))
