pub mod Inside
pub mod Reasons
pub mod Subjects
pub use Rattle.sched_core.specs as sched_core
