pub mod Outcomes
pub mod Commands
pub mod Progress
pub mod Kits
pub mod Variables
pub mod Logs
