pub mod Places
pub mod HistoryLemmas
pub mod GoesLemmas
pub mod ServeLemmas
pub mod LawLemmas
pub use Rattle.director.proofs as director
