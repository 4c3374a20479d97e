-- Why a run ends before its lines are over.
use Rattle.std.specs.Prelude.{◌≡◌, ◌⊎◌, false, Option, Some, None}
pub use Rattle.director.specs.Faults.{StoreFault}
use Rattle.director.specs.Faults.{is_memory}
pub use Rattle.director.specs.Faults.store
pub use Rattle.director.specs.declared.faults.Fault.{Fault}
pub use Rattle.director.specs.declared.faults.Fault.TheVariants as failed
use Rattle.sessions.specs.declared.faults.ConductFault.{ConductFault}
use Rattle.sessions.specs.declared.faults.ConductFault.TheVariants as fault
use Rattle.sessions.specs.declared.line_reading.LineFault.{LineFault}
use Rattle.sessions.specs.declared.line_reading.LineFault.TheVariants as lines

-- it ends a run in which events were stepped, and the lines failed in this, or in nothing: they failed to be read or answered exactly where the
-- fault says so, and a want of memory of theirs is one of the run
-- restates: this project's own profile
abbrev pub EndsBy : ConductFault → Option LineFault → Type 0
EndsBy fault.NoWorker failed = ⊥
EndsBy fault.SpawnRefused failed = ⊥
EndsBy (fault.StoreThrice error) failed = (is_memory error ≡ false) × (failed ≡ None)
EndsBy fault.ReadFault failed = failed ≡ Some lines.Failed
EndsBy fault.Memory failed = (failed ≡ None) ⊎ (failed ≡ Some lines.Memory)
EndsBy fault.Unequal failed = ⊥

-- what a run ends with where an event of its own was not stepped for the last time: the store's cause, where it refused
abbrev pub end_of : Fault → ConductFault
end_of (failed.Store (store.Refused error)) = fault.StoreThrice error
end_of _ = fault.Memory

-- what it ends with where the lines failed
abbrev pub end_of_lines : LineFault → ConductFault
end_of_lines lines.Failed = fault.ReadFault
end_of_lines lines.Memory = fault.Memory
