pub mod Events
pub mod Causes
pub mod Steps
pub mod SettledAndSound
pub mod Promises
pub mod Outcomes
pub mod Rows
