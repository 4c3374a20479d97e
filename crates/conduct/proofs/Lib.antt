pub mod Logs
pub mod Runs
pub mod Composition
pub use Rattle.sessions.proofs as sessions
