pub mod States
pub mod Counts
pub mod Rules
pub mod Inside
pub mod Progress
