pub mod Fitting
pub mod Marking
