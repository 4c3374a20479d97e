pub mod DoneLemmas
pub mod MemoryLemmas
pub mod SingleLemmas
