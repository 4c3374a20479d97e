pub mod ListLemmas
pub mod TaskLemmas
pub mod SourceLemmas
pub mod FitLemmas
pub mod TriedLemmas
pub mod MovedLemmas
pub mod OwnLemmas
