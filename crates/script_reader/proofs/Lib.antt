pub mod DoneLemmas
pub mod ReaderLemmas
pub mod ShownLemmas
pub mod StatusLemmas
