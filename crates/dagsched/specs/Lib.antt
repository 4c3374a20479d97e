pub mod Scripts
pub mod Commands
pub mod Records
pub mod Words
