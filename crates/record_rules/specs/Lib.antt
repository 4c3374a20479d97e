pub mod Numbers
pub mod Keys
pub mod Reading
pub mod Faults
pub mod Between
pub mod Cells
pub mod Changes
pub mod Worked
pub use Rattle.sched_laws.specs as sched_laws
pub use Rattle.sched_laws.specs.sched_model as sched_model
pub use Rattle.sched_laws.specs.sched_state as sched_state
