pub mod FaultLemmas
pub mod SearchLemmas
pub mod BodyLemmas
pub mod DealLemmas
pub mod TryLemmas
pub mod RuleLemmas
pub mod HeldLemmas
pub mod RunLemmas
pub mod PoolLemmas
pub mod TakingLemmas
pub mod SlotLemmas
pub mod CountLemmas
pub mod BookLemmas
pub mod PartLemmas
pub mod ColumnLemmas
pub use Rattle.record_rules.proofs as record_rules
