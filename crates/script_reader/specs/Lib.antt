pub mod Answers
pub mod Commands
pub mod Done
pub mod Ends
pub mod Readers
pub mod Statuses
pub use Rattle.answer_lines.specs as answer_lines
