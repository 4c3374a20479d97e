pub mod Instances
pub mod Marks
pub mod States
pub mod Reports
pub use Rattle.trigger_rules.specs as trigger_rules
