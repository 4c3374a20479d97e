pub mod GrowthLemmas
pub mod OwnerLemmas
pub mod LogLemmas
