pub mod ElementLemmas
pub mod NameLemmas
pub mod OrderLemmas
pub mod RepeatLemmas
