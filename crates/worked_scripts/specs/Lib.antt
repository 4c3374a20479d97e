pub mod Clocks
pub mod Sections
