-- The record on which the program does a command.
-- restates: this project's own profile
use Rattle.std.specs.Prelude.{◌≡◌, ◌⊎◌, ◌==◌, ℕ, Bool, true, false, not, max, length}
use Rattle.sqlite_disk.specs.declared.Disk as disk
use Rattle.sqlite_disk.specs.declared.Files.{Files}
use Rattle.sqlite_store.specs.declared.store.FileStore.{FileStore}
use Rattle.sqlite.specs.Recovery.{Image}
use Rattle.sqlite.specs.Schema.{Schema}
use Rattle.sqlite.specs.Closing.{IsCopied}
use Rattle.sqlite.specs.Files.{file_state, Finds, IsClosed, IsOpened}
use Rattle.sqlite.specs.Held.{Held}
use Rattle.sqlite.specs.State.{State, HasCleanDisk}
use Rattle.sqlite.specs.WalReads.{AreClean}
use Rattle.sched_model.specs.Schedule.{empty_schedule}
use Rattle.sched_state.specs.Limits.{ceilings}
use Rattle.meta_store.specs.Faults.{IsOfSqlite}
use Rattle.meta_store.specs.Stores.{Begins, CommitsBy, IsAsBefore}
use Rattle.meta_store.specs.Transactions.{Commits, Undone}
use Rattle.meta_store.specs.declared.faults.StoreFault.{StoreFault}
use Rattle.director.specs.Directors.{Keeps}
use Rattle.director.specs.Faults.{IsOfStore}
use Rattle.director.specs.declared.faults.Fault.{Fault}
use Rattle.operators.specs.declared.operators.Operator as operator
use Rattle.command_words.specs.declared.commands.Command.{Command}
use Rattle.director.specs.Crashes.{IsOpenedOn}
use Rattle.script_reader.specs.Statuses.{failure_status}
use Rattle.dagsched.specs.Commands.{IsCommandDone}
use Rattle.dagsched.specs.Scripts.{UnlessFailed}

-- ---- on a connection

abbrev pub has_tables : Schema → Bool
has_tables schema = not (length schema.tables == 0)

-- a new record was made on a connection, in one transaction
abbrev pub IsMade : {S : Type 0} → (Held S → State) → Held S → Held S → Type 0
IsMade look conn first = Commits Begins (CommitsBy Begins (look conn)) (look conn) (look first)

-- the record of a connection: what its database has, if that has tables, whatever they are; else a new one, which was made in it
abbrev pub IsRecordOf : {S : Type 0} → (Held S → State) → Held S → Held S → Type 0
IsRecordOf look conn first =
    ((has_tables (look conn).now.schema ≡ true) × (first ≡ conn)) ⊎ ((has_tables (look conn).now.schema ≡ false) × IsMade look conn first)

-- no record was made on a connection of which the database has no tables, for want of memory or by an error of SQLite: the status, and the database, which is as
-- it was; a crash leaves what it could leave before, or the new record
pub record IsUnmade {S : Type 0} (look : Held S → State) (conn after : Held S) (status : ℕ) : Type 0 where
  pub none : has_tables (look conn).now.schema ≡ false
  pub fault : StoreFault
  pub told : Fault
  pub same : IsOfStore fault told
  pub cause : IsOfSqlite fault
  pub status_is : UnlessFailed (failure_status told) status
  pub undone : Undone IsAsBefore (CommitsBy Begins (look conn)) (look conn) (look after)

-- a command was done on the record of a connection, or there was none and none was made
abbrev pub IsDoneOn : {S O : Type 0} → (Held S → State) → operator.Ghosts O → Command → Held S → Held S → ℕ → Type 0
IsDoneOn {S} look o c conn after status = ((first : Held S) × IsRecordOf look conn first × IsCommandDone look o c first after status) ⊎ IsUnmade look conn after status

-- ---- in memory

-- a command was done on the record of a connection that was opened on these files
pub record IsDoneInFiles {D O : Type 0} (g : disk.Ghosts D) (o : operator.Ghosts O) (c : Command) (files : Files D) (status : ℕ) : Type 0 where
  pub conn : Held (FileStore D g)
  pub after : Held (FileStore D g)
  pub opened : HasCleanDisk (file_state conn) → IsOpened conn × Finds files conn
  pub done : IsDoneOn (file_state {g = g}) o c conn after status

-- a command was done on a record that stores the schedule which has nothing but the default pool, and its disk gave back what was written to the end
pub record IsDoneOnNew {D O : Type 0} (g : disk.Ghosts D) (o : operator.Ghosts O) (c : Command) (status : ℕ) : Type 0 where
  pub first : Held (FileStore D g)
  pub after : Held (FileStore D g)
  pub empty : Keeps (empty_schedule ceilings) (file_state first).now
  pub clean : HasCleanDisk (file_state after)
  pub done : IsCommandDone (file_state {g = g}) o c first after status

-- no record was made, for want of memory or by an error of SQLite
abbrev pub IsNotMade : ℕ → Type 0
IsNotMade status = (fault : StoreFault) × (told : Fault) × IsOfSqlite fault × IsOfStore fault told × UnlessFailed (failure_status told) status

abbrev pub IsDoneInMemory : {D O : Type 0} → disk.Ghosts D → operator.Ghosts O → Command → ℕ → Type 0
IsDoneInMemory g o c status = IsDoneOnNew g o c status ⊎ IsNotMade status

-- ---- in a file

-- A command was done on the record of a connection, and this came back, outside of a transaction. If its disk gave back what was written, to the end, then this
-- connection had the database that the file and its log, which held this, recover to, or an empty one if they held none.
pub record IsDoneOnFile {D O : Type 0} (g : disk.Ghosts D) (o : operator.Ghosts O) (image : Image) (c : Command) (after : Held (FileStore D g)) (status : ℕ) : Type 0 where
  pub found : Held (FileStore D g)
  pub opened : HasCleanDisk (file_state after) → IsOpenedOn image found
  pub done : IsDoneOn (file_state {g = g}) o c found after status
  pub settled : after.in_transaction ≡ false

-- The file of a database and its log were closed, and the status is that of the command: if they gave back what was written, they hold this database, as they
-- read and after a crash, and so does the file with no log. Or they were not, and the status is at least 3: then they are left so that a crash has no outcome
-- which it had not before.
abbrev pub IsClosedWith : {D : Type 0} {g : disk.Ghosts D} → Held (FileStore D g) → ℕ → ℕ → Type 0
IsClosedWith {D} {g} conn said status =
    ((files : Files D) × (AreClean g files.log files.db → IsCopied conn files) × (status ≡ said))
    ⊎ ((last : FileStore D g) × IsClosed conn last × (status ≡ max said 3))

-- the same, and the file was closed then
pub record IsDoneAndClosed {D O : Type 0} (g : disk.Ghosts D) (o : operator.Ghosts O) (image : Image) (c : Command) (status : ℕ) : Type 0 where
  pub after : Held (FileStore D g)
  pub said : ℕ
  pub on_file : IsDoneOnFile g o image c after said
  pub closed : IsClosedWith after said status

-- or the file was not opened, and the status is 3; for want of memory it is 4
abbrev pub IsDoneInFile : {D O : Type 0} → disk.Ghosts D → operator.Ghosts O → Image → Command → ℕ → Type 0
IsDoneInFile g o image c status = IsDoneAndClosed g o image c status ⊎ UnlessFailed 3 status
