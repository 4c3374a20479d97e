pub mod Readings
pub mod History
pub mod Lines
pub mod Faults
pub mod Executors
pub mod Runs
pub mod Told
pub use Rattle.director.specs as director
