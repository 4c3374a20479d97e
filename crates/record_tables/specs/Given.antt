-- Which errors SQLite gives of the record.
use Rattle.std.specs.Prelude.{◌≡◌, ◌≢◌, ◌≤◌, ◌⊎◌, List, ℕ, [], codes, length, false, Option, Some, None, Ok, Err, Result, IfErr, IsTrue}
use Rattle.sqlite_disk.specs.Disk.{MoreFaults}
use Rattle.sqlite_trees.specs.declared.error.StoreError.TheVariants.{OutOfMemory, Broken, Unstorable}
use Rattle.sqlite_resolve.specs.declared.compiled.Compiled.{Compiled}
use Rattle.sqlite_resolve.specs.declared.error.CompileError.{CompileError}
use Rattle.sqlite.specs.declared.error.Error.{Error}
use Rattle.sqlite.specs.declared.error.Error.TheVariants.{SqliteFailure, SqlInputError, InvalidParameterCount, ExecuteReturnedResults, MultipleStatement}
use Rattle.sqlite.specs.declared.error.ErrorCode.TheVariants.{NoClock, NoSuchSavepoint, TransactionState}
use Rattle.sqlite.specs.declared.run.Mode.{Mode}
use Rattle.sqlite.specs.Does.{Does}
use Rattle.sqlite.specs.Effect.{Database, RefusesToRead}
use Rattle.sqlite.specs.Listing.{understood, reads_listing, IsSourceOf}
use Rattle.sqlite.specs.Order.{Row}
use Rattle.sqlite.specs.State.{State, HasCleanDisk, is_disk_error, store_error, text_of}
use Rattle.record_rows.specs.declared.tables.Table.{Table}
use Rattle.record_tables.specs.Forms.{form_of}
use Rattle.record_tables.specs.Schema.{create_index}
use Rattle.record_tables.specs.declared.faults.LoadFault.{LoadFault}
use Rattle.record_tables.specs.declared.faults.LoadFault.TheVariants.{Refused, NotOurs, Memory}

-- the texts of the record: those that make its tables and their index, put rows and ask for them, and what is asked of SQLite before a transaction
pub data IsRecordText (sql : List ℕ) : Type 0 where
  Makes : (t : Table) → sql ≡ (form_of t).create → IsRecordText sql
  Indexes : sql ≡ create_index → IsRecordText sql
  Puts : (t : Table) → sql ≡ (form_of t).put → IsRecordText sql
  Selects : (t : Table) → sql ≡ (form_of t).select → IsRecordText sql
  Asks : (sql ≡ codes "SELECT 1") ⊎ (sql ≡ codes "SELECT max_active_tasks FROM dag_limit") → IsRecordText sql

-- the database refuses the text with this error
pub data Refuses (sql : List ℕ) (db : Database) (e : Error) : Type 0 where
  -- it is no statement of the schema
  Unknown : (fault : CompileError) → understood db.schema sql ≡ Err fault → e ≡ SqlInputError fault → Refuses sql db e
  -- it is another number of statements, is given another number of parameters, or asks for a clock
  Unfit : (c : Compiled) → understood db.schema sql ≡ Ok c → (params : Row)
      → ((¬ (length sql ≤ c.tail)) × (e ≡ MultipleStatement)) ⊎ (((length params ≢ length c.names) × (e ≡ InvalidParameterCount (length params) (length c.names))) ⊎ ((c.formats ≢ []) × (e ≡ SqliteFailure NoClock))) → Refuses sql db e
  -- no transaction or savepoint is there, or one is
  Misplaced : (e ≡ SqliteFailure TransactionState) ⊎ (e ≡ SqliteFailure NoSuchSavepoint) → Refuses sql db e
  -- it shows rows where none are asked for
  Shows : e ≡ ExecuteReturnedResults → Refuses sql db e
  -- a rule of the schema or of a value is broken
  Breaks : (c : Compiled) → understood db.schema sql ≡ Ok c → (limit : Option ℕ) (mode : Mode) (params : Row) → Does limit mode params db (text_of sql c) c.returning c.command (Err (Some e)) → Refuses sql db e
  -- a row is too big to be stored
  Exceeds : (c : Compiled) → understood db.schema sql ≡ Ok c → (limit : Option ℕ) (mode : Mode) (params : Row) → Does limit mode params db (text_of sql c) c.returning c.command (Err None) → e ≡ store_error Unstorable → Refuses sql db e
  -- the query fails
  Unread : (c : Compiled) → understood db.schema sql ≡ Ok c → (limit : Option ℕ) (params : Row) (from : Database) → IsSourceOf (reads_listing db.schema sql) db from → RefusesToRead limit c.command from params e → Refuses sql db e

-- SQLite gave the error since the first of two states: it had no memory; the disk has failed or refused since; the connection was shut then, or by such a
-- fault since; or a database refuses a text of the record with it
pub data IsGiven (old new : State) (e : Error) : Type 0 where
  OfMemory : e ≡ store_error OutOfMemory → IsGiven old new e
  OfDisk : IsTrue (is_disk_error e) → MoreFaults old.faults new.faults → IsGiven old new e
  OfShut : e ≡ store_error Broken → (old.is_open ≡ false) ⊎ MoreFaults old.faults new.faults → IsGiven old new e
  OfText : (sql : List ℕ) → IsRecordText sql → (db : Database) → Refuses sql db e → IsGiven old new e

-- so is the error that a fault of a load has
abbrev pub IsGivenLoadFault : State → State → LoadFault → Type 0
IsGivenLoadFault old new (Refused e) = IsGiven old new e
IsGivenLoadFault old new NotOurs = Unit {0}
IsGivenLoadFault old new Memory = Unit {0}

-- a call inside a transaction fails with an error that SQLite gave since
abbrev pub Tells : {A : Type 0} → State → State → Result A Error → Type 0
Tells old new result = HasCleanDisk new → IsTrue old.in_transaction → IfErr result (IsGiven old new)

abbrev pub TellsLoad : {A : Type 0} → State → State → Result A LoadFault → Type 0
TellsLoad old new result = HasCleanDisk new → IsTrue old.in_transaction → IfErr result (IsGivenLoadFault old new)
