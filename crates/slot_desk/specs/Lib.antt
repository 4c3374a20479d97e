pub mod Holds
pub mod Faults
