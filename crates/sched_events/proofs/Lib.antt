pub mod StepLemmas
pub mod PromiseLemmas
pub mod AcceptLemmas
pub mod CauseLemmas
pub mod RepairLemmas
pub mod MarkedLemmas
