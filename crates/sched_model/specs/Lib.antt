pub mod Lists
pub mod Schedule
pub mod States
pub mod Settle
pub mod Handout
pub mod NamedRuns
pub mod Changes
pub mod Clearing
pub mod Marking
pub mod Replacing
pub mod Causes
pub mod Jobs
pub mod Tables
pub mod Sound
pub mod Rows
pub use Rattle.priority_weights.specs as priority_weights
pub use Rattle.sched_state.specs.cron_timetable as cron_timetable
pub use Rattle.run_planner.specs as run_planner
pub use Rattle.sched_state.specs as sched_state
pub use Rattle.sched_state.specs.instance_machine as instance_machine
pub use Rattle.sched_state.specs.trigger_rules as trigger_rules
