pub mod MarkLemmas
pub mod StateLemmas
