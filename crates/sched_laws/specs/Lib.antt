pub mod Offered
pub mod Seen
pub mod Passing
pub mod Sweep
pub mod Stages
pub mod Repairs
pub mod Runs
pub mod Tries
pub mod Instances
pub mod Rules
pub use Rattle.sched_model.specs as sched_model
pub use Rattle.sched_model.specs.sched_state as sched_state
pub use Rattle.sched_model.specs.instance_machine as instance_machine
pub use Rattle.sched_model.specs.trigger_rules as trigger_rules
