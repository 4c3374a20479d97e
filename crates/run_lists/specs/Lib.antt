pub mod Changes
pub mod Edits
pub mod Lending
pub mod Marks
pub mod Orders
pub mod Overlays
pub mod Past
pub mod Positions
pub mod Rooms
pub mod Touched
pub use Rattle.sched_model.specs as sched_model
