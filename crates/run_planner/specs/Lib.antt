pub mod Index
pub mod Due
pub mod Latest
pub mod Walks
pub mod ByHand
pub mod Spans
pub mod Anew
