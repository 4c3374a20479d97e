-- What one event does to a record, and what is told of it.
-- restates: this project's own profile
use Rattle.std.specs.Prelude.{◌≡◌, ◌⊎◌, ◌++◌, ℕ, Bool, List, Option, Result, IfErr, IsTrue}
use Rattle.sqlite.specs.Effect.{Database}
use Rattle.sqlite.specs.Held.{Held}
use Rattle.sqlite.specs.State.{State, HasCleanDisk, Survives}
use Rattle.sqlite.specs.Tree.{Trees}
use Rattle.record_rows.specs.Rows.{Rows}
use Rattle.sched_state.specs.Limits.{ceilings}
use Rattle.sched_model.specs.Schedule.{Schedule}
use Rattle.sched_events.specs.SettledAndSound.{IsSoundAndSaid}
use Rattle.sched_events.specs.Steps.{steps}
use Rattle.sched_events.specs.declared.answers.Answer.{Answer}
use Rattle.sched_events.specs.declared.events.Event.{Event}
use Rattle.director.specs.Directors.{Keeps, Opens, RestartsIn, StaysOpen}
use Rattle.director.specs.Leaves.{IsOneOf, accepted_in, tried_in}
use Rattle.director.specs.meta_store.Stores.{CommitsBy, HasRows, IsKeptOrMigrated, Migrates, OpensBy}
use Rattle.director.specs.Faults.{IsGivenFault, IsOpenFault, IsRefused}
use Rattle.director.specs.Lists.{IsOutcome}
use Rattle.director.specs.Written.{came_of}
use Rattle.director.specs.declared.faults.Fault.{Fault}
use Rattle.script_reader.specs.answer_lines.RecordFaults.{failure_text}
use Rattle.script_reader.specs.Statuses.{failure_status, shown_for, status_of}
use Rattle.command_runner.specs.declared.doing.Came.{Came}
use Rattle.command_runner.specs.declared.doing.Came.TheVariants.{Stepped, Unopened}
use Rattle.command_runner.specs.Writes.{IsWritten}

-- The record was opened without lanes, as a schedule that follows the rules of schedules, whatever the disk gave, and this came of the event, with this schedule
-- after it. A disk that has given back what was written has done so all the time. The record is open, unless its disk failed or refused meanwhile; and where it
-- is, and had rows, in either version, it stores that schedule. Whatever shut it: where it had rows, a crash leaves of it the schedule after the restart, with
-- the event if that was accepted, and with or without it if the store or want of memory stood against it.
pub record IsStepped {S : Type 0} (look : Held S → State) (before : State) (e : Event) (came : Result Answer Fault) (after : Schedule) (store : Held S) : Type 0 where
  pub first : Schedule
  pub given : Answer
  pub opened : HasCleanDisk (look store) → Opens ceilings 0 before.now first given
  pub sound : IsSoundAndSaid first
  pub outcome : IsOutcome first e came after
  pub error : HasCleanDisk (look store) → IfErr came (IsGivenFault before (look store))
  pub was_clean : HasCleanDisk (look store) → HasCleanDisk before
  pub stays : StaysOpen before (look store)
  pub stored : HasCleanDisk (look store) → IsTrue (look store).is_open → (rows : Rows) → HasRows before.now rows → Keeps after (look store).now
  pub left : HasCleanDisk (look store) → (rows : Rows) → HasRows before.now rows → (trees : Trees) → (look store).may_leave trees
      → (one : List Event) × IsOneOf one (tried_in e came) × (db : Database) × Keeps (steps (accepted_in e came ++ one) first) db × (trees ≡ db.trees)

-- the record was not opened, and is as it was, or migrated; a crash leaves what it could leave before, or the record migrated, or the record restarted, and
-- where the restart was refused one of the first two
pub record IsUnopened {S : Type 0} (look : Held S → State) (before : State) (fault : Fault) (store : Held S) : Type 0 where
  pub cause : HasCleanDisk (look store) → IsOpenFault ceilings 0 before.now fault
  pub given : HasCleanDisk (look store) → IsGivenFault before (look store) fault
  pub kept : HasCleanDisk (look store) → IsTrue (look store).is_open → IsKeptOrMigrated before (look store)
  pub crash : Survives before (look store) (CommitsBy (OpensBy (RestartsIn ceilings 0)) before)
  pub refused_crash : IsRefused fault → Survives before (look store) (CommitsBy Migrates before)

-- what came of an event that was given to a record
abbrev pub HasCome : {S : Type 0} → (Held S → State) → Held S → Event → Came S → Type 0
HasCome look before e (Stepped d written) = IsStepped look (look before) e (came_of written) d.schedule.content d.store
HasCome look before e (Unopened store fault) = IsUnopened look (look before) fault store

-- what came of an event is told: its answer, or why it was not stepped, or why the record was not opened
abbrev pub IsEventDone : {S : Type 0} → (Held S → State) → Held S → Event → Option (List ℕ) → Option (List ℕ) → Held S → Bool → ℕ → Type 0
IsEventDone look before e old new store told status =
    ((came : Result Answer Fault) × (after : Schedule) × IsStepped look (look before) e came after store × IsWritten (shown_for e came) (status_of came) old new told status)
    ⊎ ((fault : Fault) × IsUnopened look (look before) fault store × IsWritten (failure_text fault) (failure_status fault) old new told status)
