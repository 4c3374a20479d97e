pub mod Moments
pub mod Calendar
pub mod Printing
pub mod Reading
