pub mod Faults
pub mod Ends
pub mod Served
pub mod Run
pub use Rattle.sessions.specs as sessions
