pub mod Commands
pub mod Events
pub mod Looks
pub mod Writes
