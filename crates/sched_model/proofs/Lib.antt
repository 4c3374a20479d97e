pub use Rattle.run_planner.proofs as run_planner
pub use Rattle.sched_state.proofs as sched_state
