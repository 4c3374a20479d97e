pub mod CountLemmas
pub mod RuleLemmas
pub mod ProgressLemmas
