pub mod Times
pub mod VariableLemmas
pub mod LogLemmas
