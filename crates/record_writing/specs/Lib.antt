pub mod Before
pub mod Instances
pub mod Places
pub mod Ranges
pub use Rattle.record_rules.specs as record_rules
