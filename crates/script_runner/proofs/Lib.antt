pub mod RunLemmas
pub mod TeamLemmas
pub mod LessLemmas
