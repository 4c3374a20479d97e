-- Why a director does not step.
use Rattle.std.specs.Prelude.{◌≡◌, ◌≢◌, ◌⊎◌, ℕ, pos, false, true, None, Some}
use Rattle.sqlite.specs.declared.error.Error.{Error}
use Rattle.sqlite.specs.Effect.{Database}
use Rattle.sqlite.specs.State.{State}
use Rattle.record_rows.specs.Rows.{Rows}
use Rattle.record_rules.specs.Cells.{AreTexts}
use Rattle.record_rules.specs.Faults.{record_fault}
use Rattle.record_rules.specs.Reading.{schedule_of}
use Rattle.meta_store.specs.Faults.{IsGivenStoreFault}
use Rattle.meta_store.specs.Loads.{IsReadAs}
use Rattle.meta_store.specs.Schedules.{is_version}
use Rattle.meta_store.specs.Stores.{HasRows, IsNoRecord}
pub use Rattle.meta_store.specs.Schedules.{is_memory}
pub use Rattle.meta_store.specs.declared.faults.StoreFault.{StoreFault}
pub use Rattle.meta_store.specs.declared.faults.StoreFault.TheVariants as store
use Rattle.sched_model.specs.Schedule.{Schedule}
use Rattle.sched_state.specs.Limits.{Bounds}
use Rattle.sched_events.specs.Causes.{refused}
use Rattle.sched_events.specs.Outcomes.{IsCause}
use Rattle.sched_events.specs.declared.events.Event.{Event}
use Rattle.sched_events.specs.declared.events.Event.TheVariants.{Restart}
use Rattle.sched_events.specs.declared.refusals.Refusal.{Refusal}
use Rattle.sched_events.specs.declared.refusals.Refusal.TheVariants as refusal
use Rattle.director.specs.declared.faults.Fault.{Fault}
use Rattle.director.specs.declared.faults.Fault.TheVariants.{Refused, Store, Memory}

-- the fault that a refusal is, and a fault of the store: want of memory is one fault for both
abbrev pub IsOfRefusal : Refusal → Fault → Type 0
IsOfRefusal r f = ((r ≡ refusal.Memory) × (f ≡ Memory)) ⊎ ((r ≢ refusal.Memory) × (f ≡ Refused r))

abbrev pub IsOfStore : StoreFault → Fault → Type 0
IsOfStore s f = ((s ≡ store.Memory) × (f ≡ Memory)) ⊎ ((s ≢ store.Memory) × (f ≡ Store s))

-- an event is not stepped: for the first cause that stands against it; where none stands, for an error of SQLite; or for want of memory
abbrev pub IsFaultOf : Schedule → Event → Fault → Type 0
IsFaultOf a e (Refused r) = IsCause a e r
IsFaultOf a e (Store f) = (refused a e ≡ None) × ((error : Error) × (is_memory error ≡ false) × (f ≡ store.Refused error))
IsFaultOf a e Memory = Unit {0}

-- what the store or want of memory says against a step that is planned
abbrev pub IsFaultOfStore : Fault → Type 0
IsFaultOfStore (Refused r) = ⊥
IsFaultOfStore (Store f) = (error : Error) × (is_memory error ≡ false) × (f ≡ store.Refused error)
IsFaultOfStore Memory = Unit {0}

-- what the store says against an opening: an error of SQLite, a database that is no record, the first rule that fails of the rows that the database has as
-- those of version 2, all of whose texts are UTF-8, or want of memory
abbrev pub StandsAgainst : Bounds → Database → StoreFault → Type 0
StandsAgainst l db (store.Refused error) = is_memory error ≡ false
StandsAgainst l db store.NotOurs = IsNoRecord db
StandsAgainst l db (store.Inconsistent t n) = (rows : Rows) → HasRows db rows → (is_version (pos 2) rows.metas ≡ true) × AreTexts rows × (record_fault l rows ≡ Some (t, n))
StandsAgainst l db store.Memory = Unit {0}

-- a director is not opened on a database: the restart is refused at the schedule that is read, or why it is not migrated, not read or not written, or want
-- of memory
abbrev pub IsOpenFault : Bounds → ℕ → Database → Fault → Type 0
IsOpenFault l lanes db (Refused r) = (rows : Rows) → HasRows db rows → IsReadAs l rows (schedule_of l rows) × IsCause (schedule_of l rows) (Restart lanes) r
IsOpenFault l lanes db (Store f) = (f ≢ store.Memory) × StandsAgainst l db f
IsOpenFault l lanes db Memory = Unit {0}

-- the event itself is refused, and nothing was asked of the record
abbrev pub IsRefused : Fault → Type 0
IsRefused (Refused r) = Unit {0}
IsRefused (Store f) = ⊥
IsRefused Memory = ⊥

-- the error of the record that the fault has is one that SQLite gave since the first of two states
abbrev pub IsGivenFault : State → State → Fault → Type 0
IsGivenFault old new (Refused r) = Unit {0}
IsGivenFault old new (Store f) = IsGivenStoreFault old new f
IsGivenFault old new Memory = Unit {0}
