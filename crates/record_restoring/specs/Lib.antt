pub mod Keyed
pub mod Results
pub mod Places
pub mod Dealing
pub mod Rules
pub mod Making
pub mod Tasks
pub mod Pools
pub mod Parts
pub mod Columns
pub use Rattle.record_rules.specs as record_rules
