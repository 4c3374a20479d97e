pub mod AskLemmas
pub mod LineLemmas
pub mod MeaningLemmas
pub mod RequestLemmas
pub mod ScriptLemmas
pub mod TextLemmas
pub mod WordLemmas
