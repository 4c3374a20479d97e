pub mod Answers
pub mod CommandFaults
pub mod DagFaults
pub mod Dags
pub mod GraphFaults
pub mod Jobs
pub mod Listings
pub mod Pools
pub mod Reasons
pub mod RecordFaults
pub mod Refusals
pub mod RunFaults
pub mod Runs
pub mod Shown
pub mod Tasks
pub use Rattle.explain.specs as explain
pub use Rattle.sessions.specs as sessions
