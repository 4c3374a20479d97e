pub mod JumpLemmas
pub mod MonthLemmas
pub mod NumberLemmas
pub mod SetLemmas
pub mod TickLemmas
pub mod UnionLemmas
pub mod UniqueLemmas
