pub mod Commands
pub mod Gathered
pub mod Lines
pub mod Meanings
