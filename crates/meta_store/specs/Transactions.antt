-- What a call on a record leaves: what it changed was committed, or nothing was changed.
use Rattle.std.specs.Prelude.{◌≡◌, IsTrue, Result, MatchResult}
use Rattle.sqlite.specs.Effect.{Database}
use Rattle.sqlite.specs.State.{State, HasCleanDisk, Survives}
use Rattle.sqlite.specs.Tree.{Trees}
use Rattle.record_rows.specs.Rows.{Rows}
use Rattle.record_rules.specs.Changes.{no_rows, put_rows}
use Rattle.record_tables.specs.Holds.{Stores}
use Rattle.record_tables.specs.Puts.{PutsIn}
use Rattle.record_tables.specs.Schema.{no_schema}
use Rattle.meta_store.specs.Stores.{CommitsBy, IsAsBefore}
use Rattle.meta_store.specs.declared.transactions.Work.{Work}
use Rattle.meta_store.specs.declared.transactions.Work.TheVariants.{Make, Put}

-- a change by R was committed: where the disk gave what was written, a crash leaves that alone. Whatever the disk gave, a crash leaves what it could leave
-- before, or what C says.
pub record Commits (R : Database → Database → Type 0) (C : Trees → Type 0) (old new : State) : Type 0 where
  pub stored : HasCleanDisk new → R old.now new.now
  pub settled : HasCleanDisk new → new.committed ≡ new.now
  pub only : HasCleanDisk new → (trees : Trees) → new.may_leave trees → trees ≡ new.now.trees
  pub is_open : HasCleanDisk new → IsTrue old.is_open × IsTrue new.is_open
  pub crash : Survives old new C

-- the change was not committed: where the connection is open and the disk gave what was written, what it sees and what is committed are what K says. A crash leaves what
-- it could leave before, or what C says.
pub record Undone (K : State → State → Type 0) (C : Trees → Type 0) (old new : State) : Type 0 where
  pub kept : HasCleanDisk new → IsTrue new.is_open → K old new
  pub was_open : HasCleanDisk new → IsTrue new.is_open → IsTrue old.is_open
  pub crash : Survives old new C

-- nothing is changed, whatever happens
abbrev pub Looks : State → State → Type 0
Looks = Undone IsAsBefore (λ _. ⊥)

-- a call that changes the database by R, or leaves it as it was, where a crash may leave C too
abbrev pub TransactsTo : {A E : Type 0} → (Database → Database → Type 0) → (Trees → Type 0) → State → State → Result A E → Type 0
TransactsTo R C old new result = MatchResult result (λ _. Commits R C old new) (λ _. Undone IsAsBefore C old new)

-- a call that changes the database by R as a whole, or leaves it as it was
abbrev pub Transacts : {A E : Type 0} → (Database → Database → Type 0) → State → State → Result A E → Type 0
Transacts R old new result = TransactsTo R (CommitsBy R old) old new result

-- what a work does to a database: it makes the tables with these rows where there is nothing, or puts the rows by key
abbrev pub does : Work → Rows → Database → Database → Type 0
does Make rows old new = old.schema ≡ no_schema → Stores new (put_rows rows no_rows)
does Put rows old new = PutsIn (put_rows rows) old new
