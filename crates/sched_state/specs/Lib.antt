pub mod Lists
pub mod Limits
pub mod RunIds
pub use Rattle.dag_check.specs as dag_check
pub use Rattle.cron_timetable.specs as cron_timetable
pub use Rattle.moment_core.specs as moment_core
pub use Rattle.graph_file.specs as graph_file
pub use Rattle.instance_machine.specs as instance_machine
pub use Rattle.instance_machine.specs.trigger_rules as trigger_rules
