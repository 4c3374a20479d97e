pub mod GraphLemmas
pub mod ListLemmas
pub mod RuleLemmas
pub mod SilenceLemmas
pub mod StateLemmas
pub mod SubjectLemmas
pub mod WaitLemmas
