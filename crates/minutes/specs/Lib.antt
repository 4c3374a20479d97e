pub mod Minutes
pub mod Logs
