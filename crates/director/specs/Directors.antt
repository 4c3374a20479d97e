-- What contracts see of a director, and what its calls leave in its record.
use Rattle.std.specs.Prelude.{◌≡◌, ◌⊎◌, ℕ, true, IsTrue, ⊤, refl}
use Rattle.std.specs.Coded.{Coded, code_by, coded×}
use Rattle.sqlite.specs.Effect.{Database}
use Rattle.sqlite.specs.Held.{Held, held_code}
use Rattle.sqlite.specs.State.{State, HasCleanDisk, Survives}
use Rattle.sqlite_disk.specs.Disk.{MoreFaults}
use Rattle.record_rows.specs.Rows.{Rows}
use Rattle.record_rules.specs.Reading.{schedule_of}
use Rattle.meta_store.specs.record_tables.Holds.{Stores}
use Rattle.meta_store.specs.record_tables.Puts.{LeavesOthers, Turns}
use Rattle.sched_model.specs.Schedule.{Schedule}
use Rattle.sched_model.specs.Tables.{tables}
use Rattle.sched_state.specs.Limits.{Bounds}
use Rattle.sched_events.specs.Outcomes.{IsStepped}
use Rattle.sched_events.specs.Steps.{step}
use Rattle.sched_events.specs.declared.answers.Answer.{Answer}
use Rattle.sched_events.specs.contracts.answers.Answer as answer
use Rattle.sched_events.specs.declared.events.Event.{Event}
use Rattle.sched_events.specs.declared.events.Event.TheVariants.{Restart}
use Rattle.meta_store.specs.Loads.{IsReadAs}
pub use Rattle.meta_store.specs.Schedules.{ScheduleValue}
use Rattle.meta_store.specs.Schedules.{has_limits}
use Rattle.meta_store.specs.Schedules.schedule
use Rattle.meta_store.specs.Stores.{HasRows, Migrates}

-- the record's connection, the schedule in memory, and the answer to the restart that began it
pub record DirectorValue (S : Type 0) : Type 0 where
  pub store : Held S
  pub schedule : ScheduleValue
  pub opened : Answer

abbrev pub director_code : {S : Type 0} → Coded S → Coded (DirectorValue S)
director_code {S} store =
    code_by (Held S × (ScheduleValue × Answer)) (coded× (held_code store) (coded× schedule.the_row.coded answer.the_row.coded)) (λ d. (d.store, (d.schedule, d.opened)))
    (λ p. record { store = p.0; schedule = p.1.0; opened = p.1.1 }) (λ _. refl)

-- a database stores a schedule: its rows are the tables of the schedule
abbrev pub Keeps : Schedule → Database → Type 0
Keeps a db = Stores db (tables a)

-- what the step of an event makes of a database: one that stores the schedule stores the schedule after the event then, and what others have put beside it is
-- as it was
abbrev pub StepsIn : Event → Schedule → Database → Database → Type 0
StepsIn e a = Turns (tables a) (tables (step e a))

-- the record is open, unless its disk has failed or refused since
abbrev pub StaysOpen : State → State → Type 0
StaysOpen before after = HasCleanDisk after → IsTrue after.is_open ⊎ MoreFaults before.faults after.faults

-- The record follows the schedule from a to b: where it is open, it was, and where it stored a before, it stores b. No fault of its disk is forgotten, and
-- nothing but such a fault has shut it. Of a crash nothing is said here.
pub record Follows (a : Schedule) (before : State) (b : Schedule) (after : State) : Type 0 where
  pub survives : Survives before after (λ _. ⊤)
  pub was_open : HasCleanDisk after → IsTrue after.is_open → IsTrue before.is_open
  pub stored : HasCleanDisk after → IsTrue after.is_open → Keeps a before.now → Keeps b after.now

-- nothing is to be migrated in a database, and it is as it was; or it was migrated
abbrev pub IsMigrated : Database → Database → Type 0
IsMigrated old new = ((has_limits old.schema ≡ true) × (new ≡ old)) ⊎ Migrates old new

-- what a restart with so many lanes makes of a database: one that has these rows, in either version, becomes one that stores the schedule that they are
-- read as, restarted; where it was of version 2, what others have put beside it is as it was
abbrev pub RestartsIn : Bounds → ℕ → Database → Database → Type 0
RestartsIn l lanes old new = (rows : Rows) → HasRows old rows → Keeps (step (Restart lanes) (schedule_of l rows)) new × (Stores old rows → LeavesOthers old new)

-- rows are read as a schedule, and a restart of it with so many lanes gives this schedule, with this answer
pub record IsOpenedAs (l : Bounds) (lanes : ℕ) (rows : Rows) (b : Schedule) (given : Answer) : Type 0 where
  pub read : IsReadAs l rows (schedule_of l rows)
  pub stepped : IsStepped (schedule_of l rows) (Restart lanes) b given

-- a director is opened on the rows that a database has, in either version
abbrev pub Opens : Bounds → ℕ → Database → Schedule → Answer → Type 0
Opens l lanes db b given = (rows : Rows) → HasRows db rows → IsOpenedAs l lanes rows b given
