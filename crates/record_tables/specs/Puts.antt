-- Rows put into the tables, and what a statement does inside a transaction.
use Rattle.std.specs.Prelude.{◌≡◌, List, [], Bool, false, IsTrue, ℕ, zero, suc, Result}
use Rattle.std.specs.List.{AllByRecursion}
use Rattle.sqlite.specs.declared.error.Error.{Error}
use Rattle.sqlite.specs.Effect.{Database}
use Rattle.sqlite.specs.Order.{Row}
use Rattle.sqlite.specs.Table.{Table as Kept}
use Rattle.sqlite.specs.State.{State, HasCleanDisk, KeepsCommit, Survives, ExecutesInside}
use Rattle.record_rows.specs.Rows.{Rows}
use Rattle.record_rows.specs.declared.tables.Table.{Table}
use Rattle.record_rows.specs.declared.tables.Table.TheVariants.{Meta, Pool, Dag, DagLimit, Run, Instance, Attempt}
use Rattle.record_rules.specs.Keys.{meta_row_before, pool_row_before, dag_row_before, dag_limit_row_before, run_row_before, instance_row_before, attempt_row_before}
use Rattle.record_rules.specs.Between.{puts}
use Rattle.record_tables.specs.Holds.{Stores}
use Rattle.record_tables.specs.Others.{is_record_tree}

-- rows put by key into one table
abbrev pub put_in : {X : Type 0} → (Rows → List X) → (Rows → List X → Rows) → (X → X → Bool) → List X → Rows → Rows
put_in among with_rows before new old = with_rows old (puts before new (among old))

-- of one table, the rows of a record put by key into another
abbrev pub put_of : Table → Rows → Rows → Rows
put_of Meta new old = record old { metas = puts meta_row_before new.metas old.metas }
put_of Pool new old = record old { pools = puts pool_row_before new.pools old.pools }
put_of Dag new old = record old { dags = puts dag_row_before new.dags old.dags }
put_of DagLimit new old = record old { dag_limits = puts dag_limit_row_before new.dag_limits old.dag_limits }
put_of Run new old = record old { runs = puts run_row_before new.runs old.runs }
put_of Instance new old = record old { instances = puts instance_row_before new.instances old.instances }
put_of Attempt new old = record old { attempts = puts attempt_row_before new.attempts old.attempts }

-- the tables, parents before children
abbrev pub table_at : ℕ → Table
table_at zero = Meta
table_at (suc zero) = Pool
table_at (suc (suc zero)) = Dag
table_at (suc (suc (suc zero))) = DagLimit
table_at (suc (suc (suc (suc zero)))) = Run
table_at (suc (suc (suc (suc (suc zero))))) = Instance
table_at (suc (suc (suc (suc (suc (suc n)))))) = Attempt

-- of the first tables
abbrev pub put_first : ℕ → Rows → Rows → Rows
put_first zero new old = old
put_first (suc n) new old = put_of (table_at n) new (put_first n new old)

-- of one table, the rows of a record taken over into another
abbrev pub take_of : Table → Rows → Rows → Rows
take_of Meta from into = record into { metas = from.metas }
take_of Pool from into = record into { pools = from.pools }
take_of Dag from into = record into { dags = from.dags }
take_of DagLimit from into = record into { dag_limits = from.dag_limits }
take_of Run from into = record into { runs = from.runs }
take_of Instance from into = record into { instances = from.instances }
take_of Attempt from into = record into { attempts = from.attempts }

abbrev pub take_first : ℕ → Rows → Rows → Rows
take_first zero from into = into
take_first (suc n) from into = take_of (table_at n) from (take_first n from into)

-- the schema is as before, and so are the rows of each table of others
abbrev pub LeavesOthers : Database → Database → Type 0
LeavesOthers old new = (new.schema ≡ old.schema) × AllByRecursion (λ (t : Kept). is_record_tree t.tree ≡ false → new.trees t.tree ≡ old.trees t.tree) old.schema.tables

-- a database that stores these rows stores those then, and what is of others is as it was
abbrev pub Turns : Rows → Rows → Database → Database → Type 0
Turns before after old new = Stores old before → Stores new after × LeavesOthers old new

-- what a change of the rows makes of a database, whatever rows it stores
abbrev pub PutsIn : (Rows → Rows) → Database → Database → Type 0
PutsIn change old new = (rows : Rows) → Turns rows (change rows) old new

-- ---- inside a transaction
-- a call failed: a crash leaves what it could leave before, and nothing was committed
pub record Stops (old new : State) : Type 0 where
  pub survives : Survives old new (λ _. ⊥)
  pub kept : HasCleanDisk new → IsTrue old.in_transaction → KeepsCommit old new

-- a call changed the database by this relation, and nothing was committed
pub record GoesBy (R : Database → Database → Type 0) (old new : State) : Type 0 where
  pub survives : Survives old new (λ _. ⊥)
  pub kept : HasCleanDisk new → IsTrue old.in_transaction → KeepsCommit old new
  pub inside : HasCleanDisk new → IsTrue old.in_transaction → IsTrue new.in_transaction
  pub changed : HasCleanDisk new → IsTrue old.in_transaction → R old.now new.now

-- what a statement did inside a transaction
pub record RunsInside (old new : State) (sql : List ℕ) (params : Row) (result : Result ℕ Error) : Type 0 where
  pub runs : HasCleanDisk new → IsTrue old.in_transaction → ExecutesInside 0 sql params old new result
  pub survives : Survives old new (λ _. ⊥)
