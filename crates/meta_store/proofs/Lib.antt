mod WorkLemmas
pub mod CommitLemmas
mod FaultLemmas
pub mod GivenLemmas
mod AskLemmas
mod UpgradeLemmas
pub mod MigrateLemmas
mod ReadLemmas
pub mod BackLemmas
mod LoadLemmas
