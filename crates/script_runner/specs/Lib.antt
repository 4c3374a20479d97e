pub mod Named
pub mod Runs
pub mod SystemFaults
pub mod TaskOperators
pub mod Teams
