pub mod Values
pub mod Commands
pub mod Lines
