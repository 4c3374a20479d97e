pub mod Changes
pub mod Books
pub mod Effects
pub mod Dates
pub mod Finding
pub mod Plans
pub mod Views
pub mod Inside
pub mod Repairs
pub use Rattle.record_restoring.specs as record_restoring
pub use Rattle.sched_events.specs as sched_events
pub mod Replaced
